use Rattle.std.proofs.Common.{subst}
use Rattle.dn_state.specs.declared.reading.Audit.{Audit}
use Rattle.dn_state.specs.Parts.{PartsView}
use Rattle.dn_state.specs.Auditing.{IsAudit}
use Rattle.dn_state.proofs.state.State.audit.Goals as goal

pub returns : goal.returns
returns c =
    let audit : Audit = record { signed = c.are_theirs.result; digests = c.digests_differ.result; honest = c.has_honest_server.result } in
    subst (λ (v : PartsView). IsAudit v audit) c.self.view_is
    (record { signed = c.are_theirs.ensures; digests = c.digests_differ.ensures; honest = c.has_honest_server.ensures })
