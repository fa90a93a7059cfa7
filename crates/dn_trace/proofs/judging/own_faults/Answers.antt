use Rattle.std.proofs.Common.{◌+◌, ◌∷◌, [], length, get_or, None, sym, ap, ◌∙◌, subst, length-append}
use Rattle.dn_trace.specs.Evidence.{HasOwn}
use Rattle.dn_trace.proofs.Listing.{each_push}
use Rattle.dn_trace.proofs.judging.own_faults.Goals as goal

pub loop-j-preserved : goal.loop-j-preserved
loop-j-preserved c =
    let trial = c.args.case.now in
    let items = c.in_ok-push.ensures.items in
    let faults = c.loop-j.faults.items in
    record {
      size = ap length items ∙ length-append faults (c.in_ok-fault.fault ∷ []) ∙ ap (λ n. n + 1) c.loop-j.invariant.size;
      each = λ x lt. subst (λ l. HasOwn trial x (get_or l x None)) (sym items)
          (each_push (λ y o. HasOwn trial y o) None faults c.in_ok-fault.fault c.loop-j.j c.loop-j.invariant.size c.loop-j.invariant.each c.in_ok-fault.ensures x lt);
    }
