use Rattle.dn_notary.proofs.SignedLaws.{gives_sign, only_sign}
use Rattle.dn_notary.proofs.sign_line.SignLine.read.Goals as goal

pub returns-clause-found : goal.returns-clause-found
returns-clause-found c = gives_sign c.sign_line.result c.args.line.now c.sign_line.ensures

pub returns-clause-only : goal.returns-clause-only
returns-clause-only c = only_sign c.sign_line.result c.args.line.now c.sign_line.ensures
