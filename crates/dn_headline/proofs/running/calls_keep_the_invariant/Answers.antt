use Rattle.dn_headline.proofs.Keeping.{calls_keep_the_invariant_lem}
use Rattle.dn_headline.proofs.running.calls_keep_the_invariant.Goals as goal

pub returns : goal.returns
returns c = calls_keep_the_invariant_lem
