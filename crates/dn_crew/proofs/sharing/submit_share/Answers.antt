use Rattle.std.proofs.Common.{ℕ, ◌+◌, get_or, sym, ap, ◌∙◌, arith}
use Rattle.dn_wire.specs.declared.ids.ClientId.{ClientId}
use Rattle.dn_crew.specs.Race.{numbers_of}
use Rattle.dn_crew.proofs.Totals.{times_total, client_at, share_more_yes, share_more_no}
use Rattle.dn_crew.proofs.sharing.submit_share.Goals as goal
use Rattle.dn_crew.proofs.sharing.submit_share.Goals.{then-at-workers+in_ok-submit_one, else-at-workers}

abbrev nobody : ClientId × ℕ
nobody = (record { 0 = 0 }, 0)

pub submit_one-requires-clause-member : goal.submit_one-requires-clause-member
submit_one-requires-clause-member g c =
    client_at c.args.list.now c.loop-at.at nobody (λ n. omega (arith, times_total n (numbers_of c.args.list.now), c.requires.differ n)) c.loop-at-test.true

pub loop-at-preserved : goal.loop-at-preserved
loop-at-preserved g c =
    elim c.if-at-workers.branch [
      | then-at-workers+in_ok-submit_one w ↦ rw w.share-is (
          let i = c.loop-at.invariant in
          let e = w.submit_one.ensures in
          let k = w.in_ok-submit_one.ensures in
          record {
            gate = e.pass.0 ∙ i.gate;
            ready = e.pass.1;
            numbers = e.pass.2 ∙ i.numbers;
            closing = e.open.0 ∙ i.closing;
            refused = e.open.1 ∙ i.refused;
            did = k.recorded;
            all = λ h. k.counted h ∙ ap (λ n. n + h (get_or c.args.list.now c.loop-at.at nobody).1) (i.all h) ∙ sym (share_more_yes h c.args.list.now c.loop-at.at c.args.workers c.number-worker.result nobody c.loop-at-test.true w.if-at-workers.true);
          })
      | else-at-workers w ↦ rw w.share-is (
          let i = c.loop-at.invariant in
          record {
            gate = i.gate;
            ready = i.ready;
            numbers = i.numbers;
            closing = i.closing;
            refused = i.refused;
            did = i.did;
            all = λ h. i.all h ∙ sym (share_more_no h c.args.list.now c.loop-at.at c.args.workers c.number-worker.result nobody c.loop-at-test.true w.if-at-workers.false);
          })
    ]
