use Rattle.std.proofs.Common.{◌+◌, sym, ◌∙◌, subst}
use Rattle.std.specs.Prelude.{IsTrue, ◌↔◌}
use Rattle.std.proofs.lemmas.Bool.{false≢true}
use Rattle.dn_trace.specs.Evidence.{Tells}
use Rattle.dn_trace.specs.Challenged.{IsOpened}
use Rattle.dn_trace.proofs.Listing.{tells_push}
use Rattle.dn_trace.proofs.judging.closed_servers.Goals as goal
use Rattle.dn_trace.proofs.judging.closed_servers.Goals.{in-Some, in-None}

pub loop-j-preserved : goal.loop-j-preserved
loop-j-preserved c =
    let trial = c.args.case.now in
    let j = c.loop-j.j in
    let told : IsTrue c.match-opening_of.is_closed ↔ (¬ IsOpened trial j) = elim c.match-opening_of.branch [
      | in-Some w ↦
          let o = w.in-Some.ensures in (
            (λ t. absurd (false≢true (sym w.is_closed-is ∙ t))),
            (λ closed. absurd (closed record { s = w.in-Some.field-0.s.now; shown = w.in-Some.field-0.shown.now; shows = o.shows; pad = w.in-Some.field-0.pad.now; signed = o.signed })),
          )
      | in-None w ↦ ((λ t. w.in-None.ensures), (λ closed. w.is_closed-is))
    ] in
    subst (λ l. Tells l (j + 1) (λ x. ¬ IsOpened trial x)) (sym c.in_ok-push.ensures.items)
    (tells_push (λ x. ¬ IsOpened trial x) c.loop-j.flags.items j c.match-opening_of.is_closed c.loop-j.invariant told)
