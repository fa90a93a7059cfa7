use Rattle.dn_trace.proofs.HonestServer.{blameless}
use Rattle.dn_trace.proofs.laws.no_honest_server_is_blamed.Goals as goal

pub returns : goal.returns
returns c = λ trial j fault keeps has.
    blameless trial j keeps.seeds keeps.signed keeps.honest keeps.revealed fault keeps.committed keeps.outcome has
