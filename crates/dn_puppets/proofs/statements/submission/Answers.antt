use Rattle.std.proofs.Common.{rules}
use Rattle.dn_puppets.proofs.Signable.{submission_signable}
use Rattle.dn_puppets.proofs.statements.submission.Goals as goal

pub returns-clause-signable : goal.returns-clause-signable
returns-clause-signable c = submission_signable (record { 0 = c.args.r }) (record { 0 = c.args.prev }) (record { 0 = c.args.client }) c.args.digest (search rules) (search rules) (search rules) (search rules)
