use Rattle.std.proofs.Common.{◌++◌, ◌∷◌, [], refl, sym, ap, subst, ◌∙◌, arith}
use Rattle.std.proofs.lemmas.List.{append-nil, append_assoc, take_more}
use Rattle.dn_state.specs.Putting.{SendsEach}
use Rattle.dn_state.specs.Putting.SendsEach.{to_none}
use Rattle.dn_state.proofs.PuttingLemmas.{sends_more}
use Rattle.dn_state.proofs.putting.send_each.Goals as goal

pub loop-member-init : goal.loop-member-init
loop-member-init c = ([], to_none refl refl, sym (append-nil c.args.outcomes.now.items))

pub loop-member-preserved : goal.loop-member-preserved
loop-member-preserved c =
    let so_far = c.loop-member.invariant in
    let one = c.in_ok-send.ensures in
    let lines = so_far.0 ++ one.0 ∷ [] in
    let to = c.args.to.now in
    let i = c.loop-member.member-index in (
      lines,
      subst (λ tos. SendsEach c.args.from c.args.payload tos c.args.flight.now c.send.new.flight lines) (sym (take_more to i _ (omega arith)))
          (sends_more c.args.from c.args.payload _ _ c.args.flight.now c.loop-member.flight c.send.new.flight so_far.0 one.0 so_far.1 one.1),
      one.2 ∙ ap (λ xs. xs ++ one.0 ∷ []) so_far.2 ∙ append_assoc c.args.outcomes.now.items so_far.0 (one.0 ∷ []),
    )
