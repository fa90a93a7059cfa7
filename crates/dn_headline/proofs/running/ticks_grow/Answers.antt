use Rattle.dn_headline.proofs.History.{ticks_grow}
use Rattle.dn_headline.proofs.running.ticks_grow.Goals as goal

pub returns : goal.returns
returns c = ticks_grow
