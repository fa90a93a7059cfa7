-- A place is free exactly where fewer messages are held than there are places.
use Rattle.std.proofs.Common.{◌≡◌, ℕ, ◌+◌, ◌<◌, ◌≤◌, List, [], ◌∷◌, ◌++◌, length, cond, nat_lt, Bool, ap, sym, ◌∙◌, subst, arith, eq-eqb, le-ltb}
use Rattle.std.proofs.lemmas.List.{map-append}
use mathlib.Core.Logic.{dite}
use native.Mathlib.Decide.{dec_le}
use Rattle.dn_nodes.specs.declared.node.Node.{Node}
use Rattle.dn_flight.specs.Arena.{none, node_at, ends_at, msg_of}
use Rattle.dn_flight.specs.Chains.{count}
use Rattle.dn_flight.specs.Flight.{AreFrom}
use Rattle.dn_flight.specs.Side.{first_end, last_end}
use Rattle.dn_flight.specs.Whole.{IsWhole, IsFree, IsKept, msgs_at, cells, times}
use Rattle.dn_flight.specs.declared.arena.Arena.{Arena}
use Rattle.dn_flight.specs.declared.heads.Ends.{Ends}
use Rattle.dn_flight.specs.declared.side.Side.TheVariants.{To}
use Rattle.dn_flight.proofs.Entries.{below_next}

module _ (nodes : ℕ → Node) (ends : ℕ → Ends) (free : ℕ) (es : List (ℕ × ℕ)) (next : ℕ) (w : IsWhole nodes ends free es next) where
  first_free : (fs : List ℕ) → IsFree nodes free fs → ((p : ℕ) → count p (cells To nodes es) + times p fs ≡ cond (nat_lt p none) 1 0) → length es + length fs ≡ none
      → (free ≡ none → none ≤ length es) × (none ≤ length es → free ≡ none) × (free ≤ none)
  first_free [] h each all = ((λ q. omega (arith, all)), (λ le. h), omega (arith, h))
  first_free (f ∷ fs) h each all =
      let low : free < none = dite (dec_le none free)
      (λ le. absurd (omega (arith, each free, ap (λ (t : Bool). cond {A = ℕ} t 1 0) (eq-eqb f free (sym h.0)), ap (λ (t : Bool). cond {A = ℕ} t 1 0) (le-ltb free none le))))
      (λ gt. omega arith) in
      ((λ q. absurd (omega (arith, low, q))), (λ le. absurd (omega (arith, le, all))), omega (arith, low))

  pub full_where : (free ≡ none → none ≤ length es) × (none ≤ length es → free ≡ none) × (free ≤ none)
  full_where = first_free w.places.0 w.places.1 w.places.2 w.places.3

-- other ends that are the same for each member
pub same_ends : (nodes : ℕ → Node) (ends ends' : ℕ → Ends) (free : ℕ) (es : List (ℕ × ℕ)) (next : ℕ) → ((q : ℕ) → ends' q ≡ ends q) → IsWhole nodes ends free es next → IsWhole nodes ends' free es next
same_ends nodes ends ends' free es next same w = record {
  ids = w.ids;
  order = w.order;
  linked = w.linked;
  firsts = λ side k. ap (first_end side) (same k) ∙ w.firsts side k;
  lasts = λ side k. ap (last_end side) (same k) ∙ w.lasts side k;
  places = w.places;
}

-- an arena with the same nodes and free places, and the same ends for each member
pub kept_in : (a b : Arena) (es : List (ℕ × ℕ)) (next : ℕ) → b.links.nodes ≡ a.links.nodes → b.free ≡ a.free → ((q : ℕ) → ends_at b.links.heads.held q ≡ ends_at a.links.heads.held q) → IsKept a es next → IsKept b es next
kept_in a b es next nodes free ends k = record {
  long = ap length nodes ∙ k.long;
  whole = same_ends (node_at b.links.nodes) (ends_at a.links.heads.held) (ends_at b.links.heads.held) b.free es next ends
      (subst (λ (f : ℕ). IsWhole (node_at b.links.nodes) (ends_at a.links.heads.held) f es next) (sym free)
      (subst (λ l. IsWhole (node_at l) (ends_at a.links.heads.held) a.free es next) (sym nodes) k.whole));
}

-- all numbers held are below the next one
pub all_below : (a : Arena) (es : List (ℕ × ℕ)) (next : ℕ) → IsKept a es next → (b : List (ℕ × ℕ)) (e : ℕ × ℕ) (c : List (ℕ × ℕ)) → es ≡ b ++ e ∷ c → e.0 < next
all_below a es next k b e c is =
    let nodes = node_at a.links.nodes in
    let all : msgs_at nodes es ≡ msgs_at nodes b ++ msg_of (nodes e.1) ∷ msgs_at nodes c = ap (msgs_at nodes) is ∙ map-append (λ z. msg_of (nodes z.1)) b (e ∷ c) in
    omega (arith, below_next 0 (msgs_at nodes b) (msg_of (nodes e.1)) (msgs_at nodes c) next (subst (λ l. AreFrom 0 l next) all k.whole.order), k.whole.ids b e c is)
