use Rattle.std.proofs.Common.{ap, ◌∙◌}
use Rattle.dn_flight.specs.Arena.{node_at}
use Rattle.dn_flight.specs.Flight.{first_id}
use Rattle.dn_flight.proofs.Walks.{first_is}
use Rattle.dn_flight.proofs.flight.Flight.first.Goals as goal

pub returns-in-Some : goal.returns-in-Some
returns-in-Some c = first_is (node_at c.self.inside.arena.links.nodes) c.self.inside.places.entries (c.in-Some.id.now, c.in-Some.field-0-1.now) c.self.invariant.whole.ids c.in-Some.ensures.first ∙ ap (λ f. first_id f.msgs) c.self.view_is
