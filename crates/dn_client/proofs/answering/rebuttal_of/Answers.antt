use Rattle.std.proofs.Common.{rules}
use Rattle.dn_client.proofs.Signatures.{rebuttal_fits}
use Rattle.dn_client.proofs.answering.rebuttal_of.Goals as goal

pub returns-clause-fits : goal.returns-clause-fits
returns-clause-fits c i mine short =
    rebuttal_fits (record { 0 = c.args.r }) c.args.k (record { 0 = c.args.server }) c.args.seed c.args.envelope i (search rules) (search rules) (search rules) mine (search rules) short
