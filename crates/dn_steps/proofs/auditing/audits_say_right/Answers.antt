use Rattle.dn_steps.proofs.Audits.{says_right}
use Rattle.dn_steps.proofs.auditing.audits_say_right.Goals as goal

pub returns : goal.returns
returns c = λ w parts audit tied audited is. says_right w parts tied audited audit is
