-- A flight after a message was taken out.
use Rattle.std.proofs.Common.{◌≡◌, ◌≢◌, ℕ, zero, suc, ◌+◌, ◌<◌, ◌≤◌, ◌⊎◌, inl, inr, ⊎_elim, ◌==◌, ◌&&◌, List, [], ◌∷◌, ◌++◌, length, length-append, map, cond, nat_lt, Bool, true, false, refl, ap, ◌∙◌, sym, subst, arith, eq-eqb, ne_eqb, le-ltb, Option, Some, None, IsSome}
use Rattle.std.proofs.lemmas.List.{map-append}
use Rattle.std.specs.BTreeMap.{BTreeMap, get}
use Rattle.std.specs.Option.{unwrap_or}
use Rattle.std.specs.Ordering.{nat_cmp}
use mathlib.Core.Logic.{dite}
use native.Mathlib.Decide.{dec_le}
use Rattle.dn_nodes.specs.declared.node.Node.{Node}
use Rattle.dn_flight.specs.Arena.{none, ends_at, no_ends, msg_of, free_node, IsKnown}
use Rattle.dn_flight.specs.Chains.{has, first_of, last_of, count, IsLinked, IsApart}
use Rattle.dn_flight.specs.Flight.{AreFrom}
use Rattle.dn_flight.specs.Side.{key_of, before_of, after_of, first_end, last_end}
use Rattle.dn_flight.specs.Whole.{IsWhole, IsFree, msgs_at, cells, times, unlinked, unended}
use Rattle.dn_flight.specs.declared.heads.Ends.{Ends}
use Rattle.dn_flight.specs.declared.msg.Msg.{Msg}
use Rattle.dn_flight.specs.declared.side.Side.{Side}
use Rattle.dn_flight.specs.declared.side.Side.TheVariants.{To, From}
use Rattle.dn_flight.proofs.Chains.{split, count-append, apart_at, remove_linked, linked_same, first_removed, last_removed, last_is_place, first_is_place, first_in, has_at, eqb}
use Rattle.dn_flight.proofs.Nodes.{msg_unlinked, key_unlinked, before_unlinked, after_unlinked, before_other, after_other, first_unended, last_unended, first_other, last_other}
use Rattle.dn_flight.proofs.Order.{lower}

module _ {A B : Type 0} where
  -- lists mapped by what is the same at each element
  pub map_same : (f g : A → B) (xs : List A) → ((b : List A) (x : A) (a : List A) → xs ≡ b ++ x ∷ a → f x ≡ g x) → map f xs ≡ map g xs
  map_same f g [] h = refl
  map_same f g (x ∷ xs) h = (λ j. h [] x xs refl j ∷ map_same f g xs (λ b y a is. h (x ∷ b) y a (ap (λ l. x ∷ l) is)) j)

from_removed : (low : ℕ) (b : List Msg) (x : Msg) (a : List Msg) (next : ℕ) → AreFrom low (b ++ x ∷ a) next → AreFrom low (b ++ a) next
from_removed low [] x a next h = lower (x.id + 1) low a next (omega (arith, h.0)) h.1
from_removed low (y ∷ b) x a next h = (h.0, from_removed (y.id + 1) b x a next h.1)

-- the free places stay linked where their links do
pub free_same : (nodes nodes' : ℕ → Node) (head : ℕ) (fs : List ℕ) → ((f : ℕ) → 0 < times f fs → (nodes' f).to_after ≡ (nodes f).to_after) → IsFree nodes head fs → IsFree nodes' head fs
free_same nodes nodes' head [] h w = w
free_same nodes nodes' head (f ∷ fs) h w =
    let here : (nodes' f).to_after ≡ (nodes f).to_after = h f (omega (arith, ap (λ (t : Bool). cond {A = ℕ} t 1 0) (eq-eqb f f refl))) in
    (w.0, subst (λ (p : ℕ). IsFree nodes' p fs) (sym here) (free_same nodes nodes' (nodes f).to_after fs (λ g k. h g (omega (arith, k))) w.1))

pub one_most : (t : Bool) → cond {A = ℕ} t 1 0 ≤ 1
one_most true = omega arith
one_most false = omega arith

-- a member with an end is known
pub known : (side : Side) (heads : BTreeMap ℕ Ends) (k : ℕ) → first_end side (ends_at heads k) < none → IsKnown heads k
known side heads k h = by (get nat_cmp heads k) refl h
  where
    low_none : (s : Side) → first_end s no_ends ≡ none
    low_none To = refl
    low_none From = refl

    by : (o : Option Ends) → get nat_cmp heads k ≡ o → first_end side (unwrap_or (get nat_cmp heads k) no_ends) < none → IsSome (get nat_cmp heads k)
    by None q h = absurd (omega (arith, h, ap (λ (x : Option Ends). first_end side (unwrap_or x no_ends)) q, low_none side))
    by (Some x) q h = subst (λ (y : Option Ends). IsSome y) (sym q) refl

module _ (nodes nodes' : ℕ → Node) (heads heads' : ℕ → Ends) (free next : ℕ) (b : List (ℕ × ℕ)) (e : ℕ × ℕ) (a : List (ℕ × ℕ)) (w : IsWhole nodes heads free (b ++ e ∷ a) next) where
  n : Node
  n = nodes e.1

  abbrev step_to : ℕ → Node → Node
  step_to p x = unlinked To (before_of To (nodes e.1)) (after_of To (nodes e.1)) p x

  abbrev step : ℕ → Node → Node
  step p x = unlinked From (before_of From (nodes e.1)) (after_of From (nodes e.1)) p (step_to p x)

  abbrev ends_to : ℕ → Ends → Ends
  ends_to q x = unended To (before_of To (nodes e.1)) (after_of To (nodes e.1)) (key_of To (nodes e.1)) q x

  abbrev ends_step : ℕ → Ends → Ends
  ends_step q x = unended From (before_of From (nodes e.1)) (after_of From (nodes e.1)) (key_of From (nodes e.1)) q (ends_to q x)

  abbrev cell : Side → ℕ × ℕ → ℕ × ℕ
  cell side x = (x.1, key_of side (nodes x.1))

  cells_at : (side : Side) → cells side nodes (b ++ e ∷ a) ≡ cells side nodes b ++ cell side e ∷ cells side nodes a
  cells_at side = map-append (cell side) b (e ∷ a)

  counts : (side : Side) (p : ℕ) (es : List (ℕ × ℕ)) → count p (cells side nodes es) ≡ count p (cells To nodes es)
  counts side p [] = refl
  counts side p (x ∷ es) = omega (arith, counts side p es)

  apart : (side : Side) → IsApart (cells side nodes b ++ cell side e ∷ cells side nodes a)
  apart side p = omega (arith, w.places.2 p, counts side p (b ++ e ∷ a), ap (count p) (cells_at side))

  far_at : (x y : List (ℕ × ℕ)) (z : ℕ × ℕ) → b ++ a ≡ x ++ z ∷ y → (z.1 < none) × (z.1 ≢ e.1)
  far_at x y z is = ⊎_elim
      (λ t.
      let place = ap (λ l. l ++ e ∷ a) t.1 in
      let at : cells To nodes b ++ cell To e ∷ cells To nodes a ≡ cells To nodes x ++ cell To z ∷ (cells To nodes t.0 ++ cell To e ∷ cells To nodes a) = ap (λ l. cells To nodes l ++ cell To e ∷ cells To nodes a) t.1 ∙ ap (λ l. l ++ cell To e ∷ cells To nodes a) (map-append (cell To) x (z ∷ t.0)) ∙ Rattle.std.proofs.Common.append_assoc (cells To nodes x) (cell To z ∷ cells To nodes t.0) (cell To e ∷ cells To nodes a) in
      let far = apart_at (cells To nodes b ++ cell To e ∷ cells To nodes a) (cells To nodes x) (cell To z) (cells To nodes t.0 ++ cell To e ∷ cells To nodes a) (apart To) at in
      (far.0, λ q. absurd (omega (arith, far.2, count-append z.1 (cells To nodes t.0) (cell To e ∷ cells To nodes a), ap (λ (u : Bool). cond {A = ℕ} u 1 0) (eq-eqb e.1 z.1 (sym q))))))
      (λ t.
      let at : cells To nodes b ++ cell To e ∷ cells To nodes a ≡ (cells To nodes b ++ cell To e ∷ cells To nodes t.0) ++ cell To z ∷ cells To nodes y = ap (λ l. cells To nodes b ++ cell To e ∷ cells To nodes l) t.1 ∙ ap (λ l. cells To nodes b ++ cell To e ∷ l) (map-append (cell To) t.0 (z ∷ y)) ∙ sym (Rattle.std.proofs.Common.append_assoc (cells To nodes b) (cell To e ∷ cells To nodes t.0) (cell To z ∷ cells To nodes y)) in
      let far = apart_at (cells To nodes b ++ cell To e ∷ cells To nodes a) (cells To nodes b ++ cell To e ∷ cells To nodes t.0) (cell To z) (cells To nodes y) (apart To) at in
      (far.0, λ q. absurd (omega (arith, far.1, count-append z.1 (cells To nodes b) (cell To e ∷ cells To nodes t.0), ap (λ (u : Bool). cond {A = ℕ} u 1 0) (eq-eqb e.1 z.1 (sym q))))))
      (split b a x z y is)

  pub place_low : e.1 < none
  place_low = (apart_at (cells To nodes b ++ cell To e ∷ cells To nodes a) (cells To nodes b) (cell To e) (cells To nodes a) (apart To) refl).0

  near : (side : Side) → (before_of side (nodes e.1) ≡ last_of (key_of side (nodes e.1)) (cells side nodes b)) × (after_of side (nodes e.1) ≡ first_of (key_of side (nodes e.1)) (cells side nodes a))
  near side = w.linked side (cells side nodes b) (cell side e) (cells side nodes a) (cells_at side)

  counted_low : (side : Side) (p : ℕ) → 0 < count p (cells side nodes b ++ cell side e ∷ cells side nodes a) → p < none
  counted_low side p h = dite (dec_le none p)
      (λ le. absurd (omega (arith, h, apart side p, ap (λ (t : Bool). cond {A = ℕ} t 1 0) (le-ltb p none le))))
      (λ gt. omega arith)

  pub before_low : (side : Side) → before_of side (nodes e.1) ≤ none
  before_low side = ⊎_elim
      (λ z. omega (arith, (near side).0, z))
      (λ z. let low = counted_low side (last_of (key_of side (nodes e.1)) (cells side nodes b)) (omega (arith, z, count-append (last_of (key_of side (nodes e.1)) (cells side nodes b)) (cells side nodes b) (cell side e ∷ cells side nodes a))) in omega (arith, (near side).0, low))
      (last_is_place (key_of side (nodes e.1)) (cells side nodes b))

  pub after_low : (side : Side) → after_of side (nodes e.1) ≤ none
  after_low side = ⊎_elim
      (λ z. omega (arith, (near side).1, z))
      (λ z. let low = counted_low side (first_of (key_of side (nodes e.1)) (cells side nodes a)) (omega (arith, z, count-append (first_of (key_of side (nodes e.1)) (cells side nodes a)) (cells side nodes b) (cell side e ∷ cells side nodes a))) in omega (arith, (near side).1, low))
      (first_is_place (key_of side (nodes e.1)) (cells side nodes a))

  -- the member in whose list it stands has ends
  pub has_end : (side : Side) → first_end side (heads (key_of side (nodes e.1))) < none
  has_end side =
      let k = key_of side (nodes e.1) in
      let it : has k (cells side nodes b ++ cell side e ∷ cells side nodes a) ≡ true = has_at k (cells side nodes b) (cell side e) (cells side nodes a) refl in
      let low : first_of k (cells side nodes b ++ cell side e ∷ cells side nodes a) < none = counted_low side (first_of k (cells side nodes b ++ cell side e ∷ cells side nodes a)) (first_in k (cells side nodes b ++ cell side e ∷ cells side nodes a) it) in
      omega (arith, low, w.firsts side k, ap (first_of k) (cells_at side))

  pub free_low : free ≤ none
  free_low = by w.places.0 w.places.1 w.places.2
    where
      by : (fs : List ℕ) → IsFree nodes free fs → ((p : ℕ) → count p (cells To nodes (b ++ e ∷ a)) + times p fs ≡ cond (nat_lt p none) 1 0) → free ≤ none
      by [] h k = omega (arith, h)
      by (f ∷ fs) h k = dite (dec_le none free)
          (λ le. absurd (omega (arith, k free, ap (λ (t : Bool). cond {A = ℕ} t 1 0) (eq-eqb f free (sym h.0)), ap (λ (t : Bool). cond {A = ℕ} t 1 0) (le-ltb free none le))))
          (λ gt. omega arith)

  module _ (nodes_are : (p : ℕ) → p < none → nodes' p ≡ cond (p == e.1) (free_node free) (step p (nodes p))) (heads_are : (q : ℕ) → heads' q ≡ ends_step q (heads q)) where
    node_is : (p : ℕ) → p < none → p ≢ e.1 → nodes' p ≡ step p (nodes p)
    node_is p low ne = nodes_are p low ∙ ap (λ (t : Bool). cond t (free_node free) (step p (nodes p))) (eqb p e.1 ne)

    msg_same : (p : ℕ) → p < none → p ≢ e.1 → msg_of (nodes' p) ≡ msg_of (nodes p)
    msg_same p low ne = ap msg_of (node_is p low ne) ∙ msg_unlinked From _ _ p _ ∙ msg_unlinked To _ _ p (nodes p)

    key_same : (side : Side) (p : ℕ) → p < none → p ≢ e.1 → key_of side (nodes' p) ≡ key_of side (nodes p)
    key_same side p low ne = ap (key_of side) (node_is p low ne) ∙ key_unlinked From side _ _ p _ ∙ key_unlinked To side _ _ p (nodes p)

    pub msgs_same : msgs_at nodes' (b ++ a) ≡ msgs_at nodes (b ++ a)
    msgs_same = map_same (λ x. msg_of (nodes' x.1)) (λ x. msg_of (nodes x.1)) (b ++ a) (λ x z y is. let far = far_at x y z is in msg_same z.1 far.0 far.1)

    cells_same : (side : Side) → cells side nodes' (b ++ a) ≡ cells side nodes b ++ cells side nodes a
    cells_same side = map_same (λ x. (x.1, key_of side (nodes' x.1))) (cell side) (b ++ a) (λ x z y is. let far = far_at x y z is in (λ j. (z.1, key_same side z.1 far.0 far.1 j))) ∙ map-append (cell side) b a

    place_ok : (side : Side) (p : ℕ) → 0 < count p (cells side nodes b ++ cells side nodes a) → (p < none) × (p ≢ e.1)
    place_ok side p h =
        let all : count p (cells side nodes b ++ cell side e ∷ cells side nodes a) ≡ count p (cells side nodes b ++ cells side nodes a) + cond {A = ℕ} (e.1 == p) 1 0 = omega (arith, count-append p (cells side nodes b) (cell side e ∷ cells side nodes a), count-append p (cells side nodes b) (cells side nodes a)) in
        let most = apart side p in (
          dite (dec_le none p) (λ le. absurd (omega (arith, h, all, most, ap (λ (t : Bool). cond {A = ℕ} t 1 0) (le-ltb p none le)))) (λ gt. omega arith),
          (λ q. absurd (omega (arith, h, all, most, one_most (nat_lt p none), ap (λ (t : Bool). cond {A = ℕ} t 1 0) (eq-eqb e.1 p (sym q))))),
        )

    neighbours : (side : Side) → (before_of side (nodes e.1) ≡ last_of (key_of side (nodes e.1)) (cells side nodes b)) × (after_of side (nodes e.1) ≡ first_of (key_of side (nodes e.1)) (cells side nodes a))
    neighbours side = w.linked side (cells side nodes b) (cell side e) (cells side nodes a) (cells_at side)

    before_is : (side : Side) (p : ℕ) (x : Node) → before_of side (step p x) ≡ cond (p == after_of side (nodes e.1)) (before_of side (nodes e.1)) (before_of side x)
    before_is To p x = before_other From _ _ p (step_to p x) ∙ before_unlinked To _ _ p x
    before_is From p x = before_unlinked From _ _ p (step_to p x) ∙ ap (λ (k : ℕ). cond (p == after_of From (nodes e.1)) (before_of From (nodes e.1)) k) (before_other To _ _ p x)

    after_is : (side : Side) (p : ℕ) (x : Node) → after_of side (step p x) ≡ cond (p == before_of side (nodes e.1)) (after_of side (nodes e.1)) (after_of side x)
    after_is To p x = after_other From _ _ p (step_to p x) ∙ after_unlinked To _ _ p x
    after_is From p x = after_unlinked From _ _ p (step_to p x) ∙ ap (λ (k : ℕ). cond (p == before_of From (nodes e.1)) (after_of From (nodes e.1)) k) (after_other To _ _ p x)

    first_is : (side : Side) (q : ℕ) (y : Ends) → first_end side (ends_step q y) ≡ cond ((before_of side (nodes e.1) == none) && (q == key_of side (nodes e.1))) (after_of side (nodes e.1)) (first_end side y)
    first_is To q y = first_other From (before_of From (nodes e.1)) (after_of From (nodes e.1)) (key_of From (nodes e.1)) q (ends_to q y) ∙ first_unended To (before_of To (nodes e.1)) (after_of To (nodes e.1)) (key_of To (nodes e.1)) q y
    first_is From q y = first_unended From (before_of From (nodes e.1)) (after_of From (nodes e.1)) (key_of From (nodes e.1)) q (ends_to q y) ∙ ap (λ (k : ℕ). cond ((before_of From (nodes e.1) == none) && (q == key_of From (nodes e.1))) (after_of From (nodes e.1)) k) (first_other To (before_of To (nodes e.1)) (after_of To (nodes e.1)) (key_of To (nodes e.1)) q y)

    last_is : (side : Side) (q : ℕ) (y : Ends) → last_end side (ends_step q y) ≡ cond ((after_of side (nodes e.1) == none) && (q == key_of side (nodes e.1))) (before_of side (nodes e.1)) (last_end side y)
    last_is To q y = last_other From (before_of From (nodes e.1)) (after_of From (nodes e.1)) (key_of From (nodes e.1)) q (ends_to q y) ∙ last_unended To (before_of To (nodes e.1)) (after_of To (nodes e.1)) (key_of To (nodes e.1)) q y
    last_is From q y = last_unended From (before_of From (nodes e.1)) (after_of From (nodes e.1)) (key_of From (nodes e.1)) q (ends_to q y) ∙ ap (λ (k : ℕ). cond ((after_of From (nodes e.1) == none) && (q == key_of From (nodes e.1))) (before_of From (nodes e.1)) k) (last_other To (before_of To (nodes e.1)) (after_of To (nodes e.1)) (key_of To (nodes e.1)) q y)

    linked_removed : (side : Side) → IsLinked (λ p. before_of side (nodes' p)) (λ p. after_of side (nodes' p)) (cells side nodes' (b ++ a))
    linked_removed side =
        let near = neighbours side in
        let was = subst (IsLinked (λ p. before_of side (nodes p)) (λ p. after_of side (nodes p))) (cells_at side) (w.linked side) in
        let done = remove_linked (λ p. before_of side (nodes p)) (λ p. after_of side (nodes p)) (cells side nodes b) (cell side e) (cells side nodes a) was (apart side) in
        subst (IsLinked (λ p. before_of side (nodes' p)) (λ p. after_of side (nodes' p))) (sym (cells_same side))
        (linked_same _ _ (λ p. before_of side (nodes' p)) (λ p. after_of side (nodes' p)) (cells side nodes b ++ cells side nodes a) (λ p h.
        let ok = place_ok side p h in (
          ap (before_of side) (node_is p ok.0 ok.1) ∙ before_is side p (nodes p) ∙ (λ j. cond (p == near.1 j) (near.0 j) (before_of side (nodes p))),
          ap (after_of side) (node_is p ok.0 ok.1) ∙ after_is side p (nodes p) ∙ (λ j. cond (p == near.0 j) (near.1 j) (after_of side (nodes p))),
        )) done)

    firsts_removed : (side : Side) (k : ℕ) → first_end side (heads' k) ≡ first_of k (cells side nodes' (b ++ a))
    firsts_removed side k =
        let near = neighbours side in
        let key = key_of side (nodes e.1) in
        ap (first_end side) (heads_are k) ∙ first_is side k (heads k)
        ∙ (λ j. cond ((near.0 j == none) && (k == key)) (near.1 j) ((w.firsts side k ∙ ap (first_of k) (cells_at side)) j))
        ∙ sym (first_removed (cells side nodes b) (cell side e) (cells side nodes a) (apart side) k) ∙ ap (first_of k) (sym (cells_same side))

    lasts_removed : (side : Side) (k : ℕ) → last_end side (heads' k) ≡ last_of k (cells side nodes' (b ++ a))
    lasts_removed side k =
        let near = neighbours side in
        let key = key_of side (nodes e.1) in
        ap (last_end side) (heads_are k) ∙ last_is side k (heads k)
        ∙ (λ j. cond ((near.1 j == none) && (k == key)) (near.0 j) ((w.lasts side k ∙ ap (last_of k) (cells_at side)) j))
        ∙ sym (last_removed (cells side nodes b) (cell side e) (cells side nodes a) (apart side) k) ∙ ap (last_of k) (sym (cells_same side))

    order_removed : AreFrom 0 (msgs_at nodes' (b ++ a)) next
    order_removed = subst (λ l. AreFrom 0 l next) (sym (msgs_same ∙ map-append (λ x. msg_of (nodes x.1)) b a))
        (from_removed 0 (msgs_at nodes b) (msg_of (nodes e.1)) (msgs_at nodes a) next (subst (λ l. AreFrom 0 l next) (map-append (λ x. msg_of (nodes x.1)) b (e ∷ a)) w.order))

    ids_removed : (x : List (ℕ × ℕ)) (z : ℕ × ℕ) (y : List (ℕ × ℕ)) → b ++ a ≡ x ++ z ∷ y → (nodes' z.1).id ≡ z.0
    ids_removed x z y is =
        let far = far_at x y z is in
        ap (λ (m : Msg). m.id) (msg_same z.1 far.0 far.1) ∙ ⊎_elim
        (λ t. w.ids x z (t.0 ++ e ∷ a) (ap (λ l. l ++ e ∷ a) t.1 ∙ Rattle.std.proofs.Common.append_assoc x (z ∷ t.0) (e ∷ a)))
        (λ t. w.ids (b ++ e ∷ t.0) z y (ap (λ l. b ++ e ∷ l) t.1 ∙ sym (Rattle.std.proofs.Common.append_assoc b (e ∷ t.0) (z ∷ y))))
        (split b a x z y is)

    low_e : e.1 < none
    low_e = (apart_at (cells To nodes b ++ cell To e ∷ cells To nodes a) (cells To nodes b) (cell To e) (cells To nodes a) (apart To) refl).0

    all_at : (p : ℕ) → count p (cells To nodes (b ++ e ∷ a)) ≡ count p (cells To nodes b) + (cond {A = ℕ} (e.1 == p) 1 0 + count p (cells To nodes a))
    all_at p = ap (count p) (cells_at To) ∙ count-append p (cells To nodes b) (cell To e ∷ cells To nodes a)

    free_removed : IsFree nodes' free w.places.0
    free_removed = free_same nodes nodes' free w.places.0 (λ f h. same f h) w.places.1
      where
        same : (f : ℕ) → 0 < times f w.places.0 → (nodes' f).to_after ≡ (nodes f).to_after
        same f h =
            let most = w.places.2 f in
            let low : f < none = dite (dec_le none f) (λ le. absurd (omega (arith, h, most, ap (λ (t : Bool). cond {A = ℕ} t 1 0) (le-ltb f none le)))) (λ gt. omega arith) in
            let not_e : f ≢ e.1 = λ q. absurd (omega (arith, h, most, one_most (nat_lt f none), all_at f, ap (λ (t : Bool). cond {A = ℕ} t 1 0) (eq-eqb e.1 f (sym q)))) in
            let not_b : f ≢ before_of To (nodes e.1) = λ q. ⊎_elim
            (λ z. absurd (omega (arith, low, q ∙ (neighbours To).0 ∙ z)))
            (λ z. absurd (omega (arith, h, most, one_most (nat_lt f none), all_at f, ap (λ (k : ℕ). count k (cells To nodes b)) (q ∙ (neighbours To).0), z)))
            (last_is_place (key_of To (nodes e.1)) (cells To nodes b)) in
            ap (after_of To) (node_is f low not_e) ∙ after_is To f (nodes f) ∙ ap (λ (t : Bool). cond t (after_of To (nodes e.1)) (nodes f).to_after) (eqb f (before_of To (nodes e.1)) not_b)

    -- the flight without the message, whose place is free
    pub whole_removed : IsWhole nodes' heads' e.1 (b ++ a) next
    whole_removed = record {
      ids = ids_removed;
      order = order_removed;
      linked = linked_removed;
      firsts = firsts_removed;
      lasts = lasts_removed;
      places = (
        e.1 ∷ w.places.0,
        (refl, subst (λ (p : ℕ). IsFree nodes' p w.places.0) (sym (ap (λ (x : Node). x.to_after) (nodes_are e.1 low_e ∙ ap (λ (t : Bool). cond t (free_node free) (step e.1 (nodes e.1))) (eq-eqb e.1 e.1 refl)))) free_removed),
        (λ p. omega (arith, w.places.2 p, all_at p, ap (count p) (cells_same To), count-append p (cells To nodes b) (cells To nodes a))),
        omega (arith, w.places.3, length-append b a, length-append b (e ∷ a)),
      );
    }
