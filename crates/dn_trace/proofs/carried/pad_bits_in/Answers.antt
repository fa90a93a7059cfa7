use Rattle.std.proofs.Common.{◌≡◌, ◌≢◌, List, Bool, Some, None, refl, ◌∙◌}
use Rattle.std.proofs.lemmas.Bool.{iff_false}
use Rattle.std.proofs.lemmas.Result.{IfOk-weaker}
use Rattle.dn_wire.specs.declared.ids.SignerId.{SignerId}
use Rattle.dn_record_types.specs.declared.statement.Statement.TheVariants.{PadBits}
use Rattle.dn_seal.specs.Said.{SaidView, Unseals}
use Rattle.dn_seal.specs.declared.unopened.Unopened.TheVariants as faults
use Rattle.dn_trace.proofs.carried.pad_bits_in.Goals as goal

pub returns-then-is_pad_bits-clause-each : goal.returns-then-is_pad_bits-clause-each
returns-then-is_pad_bits-clause-each c = λ who pad u.
    let h = c.in-Ok.ensures.opened who (PadBits c.args.r c.args.k pad) u in
    (c.in-Ok.said, refl, h.0, h.1)

pub returns-else-is_pad_bits-clause-each : goal.returns-else-is_pad_bits-clause-each
returns-else-is_pad_bits-clause-each c = λ who pad u.
    let h = c.in-Ok.ensures.opened who (PadBits c.args.r c.args.k pad) u in
    absurd (iff_false c.is_pad_bits.ensures c.if-is_pad_bits.false (pad, c.statement.ensures.value ∙ h.1))

pub returns-in-Err-clause-each : goal.returns-in-Err-clause-each
returns-in-Err-clause-each c =
    let fault = c.in-Err.fault in
    let Opens : SignerId → List Bool → Type 0 = λ who pad. Unseals c.args.roster.now c.args.envelope.now who (PadBits c.args.r c.args.k pad) in
    IfOk-weaker c.unopened.result (λ said. (said ≡ None) × (fault ≢ faults.NoMemory))
    (λ opened. (who : SignerId) (pad : List Bool) → Opens who pad → (x : SaidView) × (opened ≡ Some x) × (x.signer ≡ who) × (x.statement ≡ PadBits c.args.r c.args.k pad))
    (λ opened shut who pad u. absurd (shut.1 (c.in-Err.ensures.opened who (PadBits c.args.r c.args.k pad) u)))
    c.unopened.ensures
