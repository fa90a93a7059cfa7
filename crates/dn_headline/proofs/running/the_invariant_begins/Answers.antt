use Rattle.dn_headline.proofs.Beginning.{begun}
use Rattle.dn_headline.proofs.running.the_invariant_begins.Goals as goal

pub returns : goal.returns
returns c = begun
