use Rattle.std.proofs.Common.{Some, None, sym, ap, ◌∙◌}
use Rattle.std.proofs.lemmas.List.{append-nil}
use Rattle.dn_trace.specs.Tables.{a_server}
use Rattle.dn_trace.proofs.Listing.{blamed_more}
use Rattle.dn_trace.proofs.judging.blame_servers.Goals as goal
use Rattle.dn_trace.proofs.judging.blame_servers.Goals.{in-Some+in_ok-push, in_default}

pub loop-j-preserved : goal.loop-j-preserved
loop-j-preserved c =
    let now = c.loop-j.blamed.items in
    elim c.match-faults-j.branch [
      | in-Some+in_ok-push w ↦
          blamed_more a_server c.args.faults.now c.loop-j.j (Some w.in-Some.fault) c.args.blamed.now.items now c.match-faults-j.blamed.items c.loop-j-test.true w.in-Some.is c.loop-j.invariant
          (ap (λ l. l.items) w.blamed-is ∙ w.in_ok-push.ensures.items)
      | in_default w ↦
          blamed_more a_server c.args.faults.now c.loop-j.j None c.args.blamed.now.items now c.match-faults-j.blamed.items c.loop-j-test.true w.in_default.is c.loop-j.invariant
          (ap (λ l. l.items) w.blamed-is ∙ sym (append-nil now))
    ]
