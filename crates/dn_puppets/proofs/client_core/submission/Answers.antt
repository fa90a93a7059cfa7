use Rattle.dn_state.proofs.Lengths.{submitted_within}
use Rattle.dn_puppets.proofs.SameClient.{submitted_same}
use Rattle.dn_puppets.proofs.client_core.submission.Goals as goal

pub returns-in-Ok-clause-who : goal.returns-in-Ok-clause-who
returns-in-Ok-clause-who c = submitted_same c.args.core.now c.args.r c.in-Ok.submission c.submission.new.self c.in-Ok.ensures.given

pub returns-in-Ok-clause-long : goal.returns-in-Ok-clause-long
returns-in-Ok-clause-long c = submitted_within c.args.core.now c.args.r c.in-Ok.submission c.submission.new.self c.in-Ok.ensures.given c.in-Ok.ensures.client
