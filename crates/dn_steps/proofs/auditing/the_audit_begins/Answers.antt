use Rattle.dn_steps.proofs.AuditBegins.{audit_begins}
use Rattle.dn_steps.proofs.auditing.the_audit_begins.Goals as goal

pub returns : goal.returns
returns c = audit_begins
