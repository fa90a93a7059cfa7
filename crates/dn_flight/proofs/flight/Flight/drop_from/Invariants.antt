use Rattle.std.proofs.Common.{◌≡◌, ℕ, ◌+◌, ◌*◌, ◌≤◌, length, filter, not, count_by}
use Rattle.dn_nodes.specs.declared.node.Node.{Node}
use Rattle.dn_flight.specs.Arena.{none, node_at, ends_at}
use Rattle.dn_flight.specs.Flight.{is_from}
use Rattle.dn_flight.specs.Whole.{msgs_at}
use Rattle.dn_flight.specs.declared.heads.Ends.{Ends}
use Rattle.dn_flight.proofs.Leaving.{IsLeaving}
use Rattle.dn_flight.proofs.flight.Flight.drop_from.Given as goal

abbrev pub invariant-loop-place : goal.invariant-loop-place
invariant-loop-place g l =
    let f = l.self-inside in record {
      long : length f.arena.links.nodes ≡ none;
      nodes : ℕ → Node;
      ends : ℕ → Ends;
      leaving : IsLeaving l.fn.m (node_at f.arena.links.nodes) (ends_at f.arena.links.heads.held) f.arena.free f.places.entries f.next l.place nodes ends;
      next : f.next ≡ l.fn.self.next;
      stay : filter (λ z. not (is_from l.fn.m z)) (msgs_at nodes f.places.entries) ≡ filter (λ z. not (is_from l.fn.m z)) l.fn.self.msgs;
      gone : l.dropped + count_by (is_from l.fn.m) (msgs_at nodes f.places.entries) ≡ count_by (is_from l.fn.m) l.fn.self.msgs;
      few : l.dropped + length f.places.entries ≤ none;
      cost : (l.initial.steps ≤ l.steps) × (l.steps ≤ l.initial.steps + 6 * l.dropped);
    }

abbrev pub decreases-loop-place : goal.decreases-loop-place
decreases-loop-place g l = length l.self-inside.places.entries
