use Rattle.std.proofs.Common.{ap, sym}
use Rattle.std.proofs.lemmas.Option.{get_or_from_slice_get}
use Rattle.dn_flight.specs.Arena.{none, free_node, msg_of}
use Rattle.dn_flight.proofs.arena.Arena.msg.Goals as goal

pub returns : goal.returns
returns g c = ap msg_of (sym (get_or_from_slice_get c.args.self.now.links.nodes c.args.place c.get-node.result (free_node none) c.get-node.ensures.node))
