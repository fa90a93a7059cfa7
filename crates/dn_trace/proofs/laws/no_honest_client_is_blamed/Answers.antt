use Rattle.dn_trace.proofs.HonestClient.{blameless}
use Rattle.dn_trace.proofs.laws.no_honest_client_is_blamed.Goals as goal

pub returns : goal.returns
returns c = λ trial i fault keeps has. blameless trial i keeps.seeds keeps.signed keeps.honest fault has
