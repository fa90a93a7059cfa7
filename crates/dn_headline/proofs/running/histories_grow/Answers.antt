use Rattle.dn_headline.proofs.History.{history_grows}
use Rattle.dn_headline.proofs.running.histories_grow.Goals as goal

pub returns : goal.returns
returns c = history_grows
