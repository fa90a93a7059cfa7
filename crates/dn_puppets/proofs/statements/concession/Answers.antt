use Rattle.std.proofs.Common.{rules}
use Rattle.dn_puppets.proofs.Signable.{concession_signable}
use Rattle.dn_puppets.proofs.statements.concession.Goals as goal

pub returns-clause-signable : goal.returns-clause-signable
returns-clause-signable c = concession_signable (record { 0 = c.args.r }) c.args.k (search rules) (search rules)
