-- What the arena, the ends and the places of a flight keep: its messages, in two lists of each member.
use Rattle.std.specs.Prelude.{◌≡◌, ℕ, ◌+◌, ◌==◌, ◌&&◌, List, [], ◌∷◌, ◌++◌, cond, nat_lt, length, map, Option, Some, None, if◌then◌else◌}
use Rattle.dn_nodes.specs.declared.node.Node.{Node}
use Rattle.dn_flight.specs.Arena.{none, node_at, ends_at, msg_of}
use Rattle.dn_flight.specs.Chains.{first_of, last_of, count, IsLinked}
use Rattle.dn_flight.specs.Flight.{AreFrom}
use Rattle.dn_flight.specs.Side.{key_of, before_of, after_of, with_before, with_after, first_end, last_end, with_first, with_last}
use Rattle.dn_flight.specs.declared.arena.Arena.{Arena}
use Rattle.dn_flight.specs.declared.heads.Ends.{Ends}
use Rattle.dn_flight.specs.declared.msg.Msg.{Msg}
use Rattle.dn_flight.specs.declared.side.Side.{Side}
use Rattle.dn_flight.specs.declared.side.Side.TheVariants.{To}

-- the messages at the places of these entries, each of which is a number and a place
abbrev pub msgs_at : (ℕ → Node) → List (ℕ × ℕ) → List Msg
msgs_at nodes es = map (λ e. msg_of (nodes e.1)) es

-- their places, with the members whose lists they stand in
abbrev pub cells : Side → (ℕ → Node) → List (ℕ × ℕ) → List (ℕ × ℕ)
cells side nodes es = map (λ e. (e.1, key_of side (nodes e.1))) es

-- the places that hold no message, from the first on
abbrev pub IsFree : (ℕ → Node) → ℕ → List ℕ → Type 0
IsFree nodes head [] = head ≡ none
IsFree nodes head (f ∷ fs) = (head ≡ f) × IsFree nodes (nodes f).to_after fs

abbrev pub times : ℕ → List ℕ → ℕ
times p [] = 0
times p (f ∷ fs) = cond (f == p) 1 0 + times p fs

-- the node at p after the neighbours b and a of a node were linked to each other
abbrev pub unlinked : Side → ℕ → ℕ → ℕ → Node → Node
unlinked side b a p n = cond (p == a) (with_before side (cond (p == b) (with_after side n a) n) b) (cond (p == b) (with_after side n a) n)

-- and the ends of member q, where the node was in the list of k
abbrev pub unended : Side → ℕ → ℕ → ℕ → ℕ → Ends → Ends
unended side b a k q e =
    cond ((a == none) && (q == k)) (with_last side (cond ((b == none) && (q == k)) (with_first side e a) e) b) (cond ((b == none) && (q == k)) (with_first side e a) e)

-- the node at p, and the ends of member q, after the place was put behind the last one, b, of the list of k
abbrev pub appended : Side → ℕ → ℕ → ℕ → Node → Node
appended side b place p n = cond (p == b) (with_after side n place) n

abbrev pub end_moved : Side → ℕ → ℕ → ℕ → ℕ → Ends → Ends
end_moved side b k place q e = cond (q == k) (with_last side (cond ((b == none) && (q == k)) (with_first side e place) e) place) (cond ((b == none) && (q == k)) (with_first side e place) e)

-- nodes by place and ends by member hold these entries, and the numbers are below the next one
pub record IsWhole (nodes : ℕ → Node) (ends : ℕ → Ends) (free : ℕ) (es : List (ℕ × ℕ)) (next : ℕ) : Type 0 where
  pub ids : (b : List (ℕ × ℕ)) (e : ℕ × ℕ) (a : List (ℕ × ℕ)) → es ≡ b ++ e ∷ a → (nodes e.1).id ≡ e.0
  pub order : AreFrom 0 (msgs_at nodes es) next
  pub linked : (side : Side) → IsLinked (λ p. before_of side (nodes p)) (λ p. after_of side (nodes p)) (cells side nodes es)
  pub firsts : (side : Side) (k : ℕ) → first_end side (ends k) ≡ first_of k (cells side nodes es)
  pub lasts : (side : Side) (k : ℕ) → last_end side (ends k) ≡ last_of k (cells side nodes es)
  -- each place holds one message, or is free
  pub places : (fs : List ℕ) × IsFree nodes free fs × ((p : ℕ) → count p (cells To nodes es) + times p fs ≡ cond (nat_lt p none) 1 0) × (length es + length fs ≡ none)

-- the number of the message at a place, if it is one
abbrev pub id_at : (ℕ → Node) → ℕ → Option ℕ
id_at nodes p = if p == none then None else Some (nodes p).id

-- the messages that an arena holds at these entries
abbrev pub msgs_in : Arena → List (ℕ × ℕ) → List Msg
msgs_in arena es = msgs_at (node_at arena.links.nodes) es

-- the arena holds these entries, and nothing else
pub record IsKept (arena : Arena) (es : List (ℕ × ℕ)) (next : ℕ) : Type 0 where
  pub long : length arena.links.nodes ≡ none
  pub whole : IsWhole (node_at arena.links.nodes) (ends_at arena.links.heads.held) arena.free es next
