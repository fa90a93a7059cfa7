use Rattle.std.proofs.Common.{Some, None, sym, ap, ◌∙◌}
use Rattle.std.proofs.lemmas.List.{append-nil}
use Rattle.dn_trace.specs.Tables.{a_client}
use Rattle.dn_trace.proofs.Listing.{blamed_more}
use Rattle.dn_trace.proofs.judging.blame_clients.Goals as goal
use Rattle.dn_trace.proofs.judging.blame_clients.Goals.{in-Some+in_ok-push, in_default}

pub loop-i-preserved : goal.loop-i-preserved
loop-i-preserved c =
    let now = c.loop-i.blamed.items in
    elim c.match-faults-i.branch [
      | in-Some+in_ok-push w ↦
          blamed_more a_client c.args.faults.now c.loop-i.i (Some w.in-Some.fault) c.args.blamed.now.items now c.match-faults-i.blamed.items c.loop-i-test.true w.in-Some.is c.loop-i.invariant
          (ap (λ l. l.items) w.blamed-is ∙ w.in_ok-push.ensures.items)
      | in_default w ↦
          blamed_more a_client c.args.faults.now c.loop-i.i None c.args.blamed.now.items now c.match-faults-i.blamed.items c.loop-i-test.true w.in_default.is c.loop-i.invariant
          (ap (λ l. l.items) w.blamed-is ∙ sym (append-nil now))
    ]
