use Rattle.std.proofs.Common.{refl}
use Rattle.dn_openings.proofs.evidence.is_by_client.Goals as goal

pub returns-in-Client : goal.returns-in-Client
returns-in-Client c = ((λ t. (c.in-Client.field-0.0, c.in-Client.is)), (λ h. refl))
