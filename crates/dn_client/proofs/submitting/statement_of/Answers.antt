use Rattle.std.proofs.Common.{rules}
use Rattle.dn_client.proofs.Signatures.{submission_fits}
use Rattle.dn_client.proofs.submitting.statement_of.Goals as goal

pub returns-clause-fits : goal.returns-clause-fits
returns-clause-fits c =
    submission_fits (record { 0 = c.args.r }) (record { 0 = c.args.prev }) (record { 0 = c.args.client }) c.args.digest (search rules) (search rules) (search rules) (search rules)
