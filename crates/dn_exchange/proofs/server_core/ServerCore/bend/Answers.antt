use Rattle.dn_server.specs.Parts.{live}
use Rattle.dn_exchange.proofs.CallsWhole.{bent_whole}
use Rattle.dn_exchange.proofs.server_core.ServerCore.bend.Goals as goal

pub invariant_of-self : goal.invariant_of-self
invariant_of-self c = λ e. let v = live c.self.inside.parts in bent_whole v (c.self.invariant e) c.args.at v.signed
