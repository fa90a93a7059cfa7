use Rattle.std.proofs.Common.{◌≡◌, ◌≢◌, List, Bool, Some, None}
use Rattle.std.proofs.lemmas.Result.{IfOk-weaker}
use Rattle.dn_record_types.specs.declared.statement.Statement.TheVariants.{PadBits}
use Rattle.dn_wire.specs.declared.ids.SignerId.TheVariants.{Server}
use Rattle.dn_seal.specs.Said.{Unseals}
use Rattle.dn_seal.specs.declared.unopened.Unopened.TheVariants as faults
use Rattle.dn_cert.specs.Evidence.{shown_bit}
use Rattle.dn_accuse.proofs.judging.signed_bit.Goals as goal

pub returns-in-Ok-clause-each : goal.returns-in-Ok-clause-each
returns-in-Ok-clause-each c = λ bits u.
    let h = c.in-Ok.ensures.opened (Server c.args.server) (PadBits c.args.r c.args.k bits) u in
    c.bit_said.ensures.each bits h.0 h.1

pub returns-in-Err-clause-each : goal.returns-in-Err-clause-each
returns-in-Err-clause-each c =
    let fault = c.in-Err.fault in
    let Opens : List Bool → Type 0 = λ bits. Unseals c.args.roster.now c.args.envelope.now (Server c.args.server) (PadBits c.args.r c.args.k bits) in
    IfOk-weaker c.unsigned.result (λ signed. (signed ≡ None) × (fault ≢ faults.NoMemory)) (λ signed. (bits : List Bool) → Opens bits → signed ≡ Some (shown_bit bits c.args.client))
    (λ signed shut bits u. absurd (shut.1 (c.in-Err.ensures.opened (Server c.args.server) (PadBits c.args.r c.args.k bits) u)))
    c.unsigned.ensures
