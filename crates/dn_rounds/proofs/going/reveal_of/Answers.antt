use Rattle.dn_rounds.proofs.Lengths.{can_reveal}
use Rattle.dn_rounds.proofs.going.reveal_of.Goals as goal

pub returns-clause-fits : goal.returns-clause-fits
returns-clause-fits c = can_reveal c.args._own (record { 0 = c.args.r }) c.args.s c.ranges._own.fits c.ranges.r.fits c.requires
