use Rattle.std.proofs.Common.{ap, sym, ◌∙◌, arith}
use Rattle.std.proofs.lemmas.Bool.{false≢true}
use Rattle.dn_record_types.specs.declared.statement.Statement.TheVariants.{Accusation}
use Rattle.dn_state.proofs.VerdictLemmas.{accused_more, invalid_result}
use Rattle.dn_state.proofs.judging.accusation.Goals as goal
use Rattle.dn_state.proofs.judging.accusation.Goals.{then-is_at+in_default, else-is_at}

pub loop-said-preserved : goal.loop-said-preserved
loop-said-preserved c =
    let layout = c.args.layout.now in
    let b = c.args.body.now in
    let said = c.said-item.result in
    accused_more layout b c.args.k c.args.heard.now c.loop-said.said-index said (omega arith) c.said-item.is c.loop-said.invariant
    (λ v valid place. elim c.if-is_at.branch [
      | then-is_at+in_default w ↦ invalid_result layout b said.signer said.statement w.valid.result w.valid.ensures.invalid w.in_default.not-Ok v valid
      | else-is_at w ↦
          false≢true (sym w.if-is_at.false ∙ c.is_at.ensures.at.1 (v.slot, valid.by_slot.1 ∙ ap (Accusation b.r v.slot) place))
    ])
