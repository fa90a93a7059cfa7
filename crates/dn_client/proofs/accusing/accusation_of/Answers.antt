use Rattle.std.proofs.Common.{rules}
use Rattle.dn_client.proofs.Signatures.{accusation_fits}
use Rattle.dn_client.proofs.accusing.accusation_of.Goals as goal

pub returns-clause-fits : goal.returns-clause-fits
returns-clause-fits c = accusation_fits (record { 0 = c.args.r }) (record { 0 = c.args.slot }) c.args.k (search rules) (search rules) (search rules)
