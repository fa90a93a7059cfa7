use Rattle.dn_links.proofs.Judges.{verdicts_follow}
use Rattle.dn_links.proofs.laws.verdicts_follow_the_rules.Goals as goal

pub returns : goal.returns
returns c = verdicts_follow
