use Rattle.std.proofs.Common.{true, false, sym, ap, ◌∙◌}
use Rattle.std.proofs.lemmas.List.{append-nil}
use Rattle.dn_trace.specs.Tables.{a_server}
use Rattle.dn_trace.proofs.Listing.{listed_more}
use Rattle.dn_trace.proofs.judging.list_servers.Goals as goal
use Rattle.dn_trace.proofs.judging.list_servers.Goals.{then-flags-j+in_ok-push, else-flags-j}

pub loop-j-preserved : goal.loop-j-preserved
loop-j-preserved c =
    let now = c.loop-j.list.items in
    elim c.if-flags-j.branch [
      | then-flags-j+in_ok-push w ↦
          listed_more a_server c.args.flags.now c.loop-j.j true c.args.list.now.items now c.if-flags-j.list.items c.loop-j-test.true w.if-flags-j.true c.loop-j.invariant
          (ap (λ l. l.items) w.list-is ∙ w.in_ok-push.ensures.items)
      | else-flags-j w ↦
          listed_more a_server c.args.flags.now c.loop-j.j false c.args.list.now.items now c.if-flags-j.list.items c.loop-j-test.true w.if-flags-j.false c.loop-j.invariant
          (ap (λ l. l.items) w.list-is ∙ sym (append-nil now))
    ]
