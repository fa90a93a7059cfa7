use Rattle.dn_trace.proofs.Somebody.{somebody}
use Rattle.dn_trace.proofs.laws.somebody_is_blamed.Goals as goal

pub returns : goal.returns
returns c = somebody
