use Rattle.dn_flight.specs.Arena.{node_at, ends_at}
use Rattle.dn_flight.proofs.Empty.{whole_none}
use Rattle.dn_flight.proofs.arena.Arena.make.Goals as goal

pub returns : goal.returns
returns c = record { long = c.free_all.ensures.long; whole = whole_none (node_at c.free_all.new.nodes) (ends_at c.make-heads.result.held) c.free_all.ensures.free c.make-heads.ensures }
