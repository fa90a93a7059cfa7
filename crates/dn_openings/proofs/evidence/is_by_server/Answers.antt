use Rattle.std.proofs.Common.{refl}
use Rattle.dn_openings.proofs.evidence.is_by_server.Goals as goal

pub returns-in-Server : goal.returns-in-Server
returns-in-Server c = ((λ t. (c.in-Server.field-0.0, c.in-Server.is)), (λ h. refl))
