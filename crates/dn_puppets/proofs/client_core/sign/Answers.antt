use Rattle.dn_puppets.proofs.Signable.{signable_by}
use Rattle.dn_puppets.proofs.SameClient.{signed_same}
use Rattle.dn_puppets.proofs.client_core.sign.Goals as goal

pub sign-requires : goal.sign-requires
sign-requires c = signable_by c.args.core.now.who c.args.as_slot c.args.statement.now c.requires.numbered c.requires.signable

pub returns-in-Ok : goal.returns-in-Ok
returns-in-Ok c = signed_same c.args.core.now c.args.as_slot c.args.statement.now c.in-Ok.envelope.items c.sign.new.self c.in-Ok.ensures.signed
