use Rattle.dn_links.proofs.Calls.{calls_keep_runs}
use Rattle.dn_links.proofs.laws.calls_keep_runs.Goals as goal

pub returns : goal.returns
returns c = calls_keep_runs
