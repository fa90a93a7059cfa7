use Rattle.std.proofs.Common.{rules}
use Rattle.dn_puppets.proofs.Signable.{reveal_signable}
use Rattle.dn_puppets.proofs.statements.reveal.Goals as goal

pub returns-clause-signable : goal.returns-clause-signable
returns-clause-signable c = reveal_signable (record { 0 = c.args.r }) c.args.s (search rules) c.requires
