use Rattle.std.proofs.Common.{rules}
use Rattle.dn_puppets.proofs.Signable.{pad_bits_signable}
use Rattle.dn_puppets.proofs.statements.pad_bits.Goals as goal

pub returns-clause-signable : goal.returns-clause-signable
returns-clause-signable c = pad_bits_signable (record { 0 = c.args.r }) c.args.k c.args.bits (search rules) (search rules) c.requires
