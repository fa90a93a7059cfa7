use Rattle.dn_io.specs.Status.{status_text}
use Rattle.dn_io.proofs.status.StatusDisplay.fmt.Goals as goal

pub returns-in-NotAccepted-clause-writes : goal.returns-in-NotAccepted-clause-writes
unfolding status_text
returns-in-NotAccepted-clause-writes g c = rw c.in-NotAccepted.is c.write.ensures.writes
