use Rattle.std.proofs.Common.{true, false, sym, ap, ◌∙◌}
use Rattle.std.proofs.lemmas.List.{append-nil}
use Rattle.dn_trace.specs.Tables.{a_client}
use Rattle.dn_trace.proofs.Listing.{listed_more}
use Rattle.dn_trace.proofs.judging.list_clients.Goals as goal
use Rattle.dn_trace.proofs.judging.list_clients.Goals.{then-flags-i+in_ok-push, else-flags-i}

pub loop-i-preserved : goal.loop-i-preserved
loop-i-preserved c =
    let now = c.loop-i.list.items in
    elim c.if-flags-i.branch [
      | then-flags-i+in_ok-push w ↦
          listed_more a_client c.args.flags.now c.loop-i.i true c.args.list.now.items now c.if-flags-i.list.items c.loop-i-test.true w.if-flags-i.true c.loop-i.invariant
          (ap (λ l. l.items) w.list-is ∙ w.in_ok-push.ensures.items)
      | else-flags-i w ↦
          listed_more a_client c.args.flags.now c.loop-i.i false c.args.list.now.items now c.if-flags-i.list.items c.loop-i-test.true w.if-flags-i.false c.loop-i.invariant
          (ap (λ l. l.items) w.list-is ∙ sym (append-nil now))
    ]
