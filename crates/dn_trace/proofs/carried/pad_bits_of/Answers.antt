use Rattle.std.proofs.Common.{◌≡◌, List, Bool, Some, Option, sym, ◌∙◌, subst}
use Rattle.std.proofs.lemmas.Result.{IfOk-weaker}
use Rattle.dn_wire.specs.declared.ids.SignerId.{SignerId}
use Rattle.dn_record_types.specs.declared.statement.Statement.TheVariants as kinds
use Rattle.dn_seal.specs.Said.{SaidView, Unseals}
use Rattle.dn_trace.specs.Trial.{round_of}
use Rattle.dn_trace.specs.Evidence.{HasPadIn}
use Rattle.dn_trace.proofs.carried.pad_bits_of.Goals as goal

pub returns-in-Rebuttal-clause-each : goal.returns-in-Rebuttal-clause-each
returns-in-Rebuttal-clause-each c =
    let trial = c.args.case.now in
    let Found : Option SaidView → SignerId → List Bool → Type 0 = λ opened who pad.
    (said : SaidView) × (opened ≡ Some said) × (said.signer ≡ who) × (said.statement ≡ kinds.PadBits c.round.result c.place.result pad) in
    IfOk-weaker c.pad_bits_in.result
    (λ opened. (who : SignerId) (pad : List Bool) → Unseals c.roster.result.now c.get.result.now who (kinds.PadBits c.round.result c.place.result pad) → Found opened who pad)
    (λ opened. HasPadIn trial c.args.s.now opened)
    (λ opened each who pad is.
    let same : kinds.Rebuttal is.r is.k is.server is.seed is.envelope ≡ kinds.Rebuttal c.in-Rebuttal.r c.in-Rebuttal.k c.in-Rebuttal.server c.in-Rebuttal.seed c.in-Rebuttal.envelope = sym is.rebuttal ∙ c.in-Rebuttal.is in
    let bytes : is.envelope ≡ c.get.result.now = cc in
    let pads : kinds.PadBits (round_of trial) trial.k pad ≡ kinds.PadBits c.round.result c.place.result pad = (λ i. kinds.PadBits (sym c.round.ensures i) (sym c.place.ensures i) pad) in
    let opens : Unseals c.roster.result.now c.get.result.now who (kinds.PadBits c.round.result c.place.result pad) =
    subst (λ r. Unseals r c.get.result.now who (kinds.PadBits c.round.result c.place.result pad)) (sym c.roster.ensures)
    (subst (λ b. Unseals trial.roster b who (kinds.PadBits c.round.result c.place.result pad)) bytes
    (subst (Unseals trial.roster is.envelope who) pads is.unseals)) in
    let found = each who pad opens in
    (found.0, found.1, found.2, found.3 ∙ sym pads))
    c.pad_bits_in.ensures.each
