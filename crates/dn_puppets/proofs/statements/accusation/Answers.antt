use Rattle.std.proofs.Common.{rules}
use Rattle.dn_puppets.proofs.Signable.{accusation_signable}
use Rattle.dn_puppets.proofs.statements.accusation.Goals as goal

pub returns-clause-signable : goal.returns-clause-signable
returns-clause-signable c = accusation_signable (record { 0 = c.args.r }) (record { 0 = c.args.slot }) c.args.k (search rules) (search rules) (search rules)
