-- A flight after a message was put.
use Rattle.std.proofs.Common.{◌≡◌, ◌≢◌, ℕ, ◌+◌, ◌<◌, ◌≤◌, ⊎_elim, ◌==◌, ◌&&◌, List, [], ◌∷◌, ◌++◌, length, length-append, cond, nat_lt, Bool, true, false, refl, ap, ◌∙◌, sym, subst, arith, eq-eqb, le-ltb, set, get_or-set_same, get_or-set_other}
use Rattle.std.proofs.lemmas.List.{map-append}
use mathlib.Core.Logic.{dite}
use native.Mathlib.Decide.{ℕ_discrete, dec_le}
use Rattle.dn_wire.specs.declared.ids.Member.{Member}
use Rattle.dn_nodes.specs.declared.node.Node.{Node}
use Rattle.dn_flight.specs.Arena.{none, node_at, msg_of, member_number, free_node}
use Rattle.dn_flight.specs.Chains.{first_of, last_of, count, IsLinked, IsApart}
use Rattle.dn_flight.specs.Flight.{AreFrom}
use Rattle.dn_flight.specs.Side.{key_of, before_of, after_of, first_end, last_end}
use Rattle.dn_flight.specs.Whole.{IsWhole, IsFree, msgs_at, cells, times, appended, end_moved}
use Rattle.dn_flight.specs.declared.heads.Ends.{Ends}
use Rattle.dn_flight.specs.declared.msg.Msg.{Msg}
use Rattle.dn_flight.specs.declared.side.Side.{Side}
use Rattle.dn_flight.specs.declared.side.Side.TheVariants.{To, From}
use Rattle.dn_flight.proofs.Chains.{split, count-append, apart_at, put_linked, linked_same, first_put, last_put, last_is_place, eqb}
use Rattle.dn_flight.proofs.Nodes.{msg_appended, key_appended, to_before_appended, from_before_appended, after_appended, after_appended_other, first_moved, last_moved, first_moved_other, last_moved_other}
use Rattle.dn_flight.proofs.Order.{put_last}
use Rattle.dn_flight.proofs.Removed.{map_same, free_same, one_most}

abbrev head_of : List (ℕ × ℕ) → ℕ × ℕ
head_of [] = (0, 0)
head_of (z ∷ zs) = z

pub node_set : (nodes : List Node) (i p : ℕ) (n : Node) → i < length nodes → node_at (set nodes i n) p ≡ cond (p == i) n (node_at nodes p)
node_set nodes i p n h = dite (ℕ_discrete p i)
    (λ q. ap (node_at (set nodes i n)) q ∙ get_or-set_same nodes i n (free_node none) h ∙ sym (ap (λ (t : Bool). cond t n (node_at nodes p)) (eq-eqb p i q)))
    (λ ne. get_or-set_other nodes i p n (free_node none) (λ z. ne z) ∙ sym (ap (λ (t : Bool). cond t n (node_at nodes p)) (eqb p i ne)))

module _ (nodes nodes' : ℕ → Node) (heads heads' : ℕ → Ends) (place next : ℕ) (from to : Member) (payload : ℕ) (es : List (ℕ × ℕ)) (w : IsWhole nodes heads place es next) (low : place < none) where
  abbrev last_at : Side → ℕ → ℕ
  last_at side k = last_end side (heads k)

  -- the new node
  abbrev it : Node
  it = record { id = next; from = from; to = to; payload = payload; to_before = last_at To (member_number to); to_after = none; from_before = last_at From (member_number from); from_after = none }

  abbrev key : Side → ℕ
  key side = key_of side it

  abbrev step : ℕ → Node → Node
  step p x = appended From (last_at From (member_number from)) place p (appended To (last_at To (member_number to)) place p (cond (p == place) it x))

  abbrev ends_step : ℕ → Ends → Ends
  ends_step q x = end_moved From (last_at From (member_number from)) (member_number from) place q (end_moved To (last_at To (member_number to)) (member_number to) place q x)

  abbrev es' : List (ℕ × ℕ)
  es' = es ++ (next, place) ∷ []

  counts : (side : Side) (p : ℕ) (xs : List (ℕ × ℕ)) → count p (cells side nodes xs) ≡ count p (cells To nodes xs)
  counts side p [] = refl
  counts side p (x ∷ xs) = omega (arith, counts side p xs)

  apart : (side : Side) → IsApart (cells side nodes es)
  apart side p = omega (arith, w.places.2 p, counts side p es)

  -- the first free place, and those after it
  free_is : (fs : List ℕ) × ((p : ℕ) → times p w.places.0 ≡ cond (place == p) 1 0 + times p fs) × IsFree nodes (nodes place).to_after fs × (length w.places.0 ≡ length fs + 1)
  free_is = by w.places.0 w.places.1
    where
      by : (fs : List ℕ) → IsFree nodes place fs → (gs : List ℕ) × ((p : ℕ) → times p fs ≡ cond (place == p) 1 0 + times p gs) × IsFree nodes (nodes place).to_after gs × (length fs ≡ length gs + 1)
      by [] h = absurd (omega (arith, h, low))
      by (f ∷ fs) h = (fs, (λ p. ap (λ (k : ℕ). cond {A = ℕ} (k == p) 1 0 + times p fs) (sym h.0)), subst (λ (k : ℕ). IsFree nodes (nodes k).to_after fs) (sym h.0) h.1, omega arith)

  unheld : (side : Side) → count place (cells side nodes es) ≡ 0
  unheld side = omega (arith, w.places.2 place, free_is.1 place, counts side place es, one_most (nat_lt place none), ap (λ (t : Bool). cond {A = ℕ} t 1 0) (eq-eqb place place refl))

  pub last_low : (side : Side) (k : ℕ) → last_at side k ≤ none
  last_low side k = ⊎_elim
      (λ z. omega (arith, w.lasts side k, z))
      (λ z. dite (dec_le none (last_of k (cells side nodes es)))
      (λ le. absurd (omega (arith, z, apart side (last_of k (cells side nodes es)), ap (λ (t : Bool). cond {A = ℕ} t 1 0) (le-ltb (last_of k (cells side nodes es)) none le))))
      (λ gt. omega (arith, w.lasts side k)))
      (last_is_place k (cells side nodes es))

  last_else : (side : Side) (k : ℕ) → last_at side k ≢ place
  last_else side k q = ⊎_elim
      (λ z. absurd (omega (arith, low, q, w.lasts side k, z)))
      (λ z. absurd (omega (arith, unheld side, ap (λ (p : ℕ). count p (cells side nodes es)) (sym (w.lasts side k) ∙ q), z)))
      (last_is_place k (cells side nodes es))

  far_at : (b : List (ℕ × ℕ)) (x : ℕ × ℕ) (a : List (ℕ × ℕ)) → es ≡ b ++ x ∷ a → (x.1 < none) × (x.1 ≢ place)
  far_at b x a is =
      let at : cells To nodes es ≡ cells To nodes b ++ (x.1, key_of To (nodes x.1)) ∷ cells To nodes a = ap (cells To nodes) is ∙ map-append (λ y. (y.1, key_of To (nodes y.1))) b (x ∷ a) in
      let far = apart_at (cells To nodes es) (cells To nodes b) (x.1, key_of To (nodes x.1)) (cells To nodes a) (apart To) at in
      (far.0, λ q. absurd (omega (arith, unheld To, ap (count place) at, count-append place (cells To nodes b) ((x.1, key_of To (nodes x.1)) ∷ cells To nodes a), ap (λ (t : Bool). cond {A = ℕ} t 1 0) (eq-eqb x.1 place q))))

  module _ (nodes_are : (p : ℕ) → p < none → nodes' p ≡ step p (nodes p)) (heads_are : (q : ℕ) → heads' q ≡ ends_step q (heads q)) where
    base : (p : ℕ) (x : Node) → p ≢ place → cond (p == place) it x ≡ x
    base p x ne = ap (λ (t : Bool). cond t it x) (eqb p place ne)

    base_it : (x : Node) → cond (place == place) it x ≡ it
    base_it x = ap (λ (t : Bool). cond t it x) (eq-eqb place place refl)

    msg_is : (p : ℕ) (x : Node) → msg_of (step p x) ≡ msg_of (cond (p == place) it x)
    msg_is p x = msg_appended From (last_at From (member_number from)) place p (appended To (last_at To (member_number to)) place p (cond (p == place) it x)) ∙ msg_appended To (last_at To (member_number to)) place p (cond (p == place) it x)

    key_is : (side : Side) (p : ℕ) (x : Node) → key_of side (step p x) ≡ key_of side (cond (p == place) it x)
    key_is side p x = key_appended From side (last_at From (member_number from)) place p (appended To (last_at To (member_number to)) place p (cond (p == place) it x)) ∙ key_appended To side (last_at To (member_number to)) place p (cond (p == place) it x)

    before_is : (side : Side) (p : ℕ) (x : Node) → before_of side (step p x) ≡ before_of side (cond (p == place) it x)
    before_is To p x = to_before_appended From (last_at From (member_number from)) place p (appended To (last_at To (member_number to)) place p (cond (p == place) it x)) ∙ to_before_appended To (last_at To (member_number to)) place p (cond (p == place) it x)
    before_is From p x = from_before_appended From (last_at From (member_number from)) place p (appended To (last_at To (member_number to)) place p (cond (p == place) it x)) ∙ from_before_appended To (last_at To (member_number to)) place p (cond (p == place) it x)

    after_is : (side : Side) (p : ℕ) (x : Node) → after_of side (step p x) ≡ cond (p == last_at side (key side)) place (after_of side (cond (p == place) it x))
    after_is To p x = after_appended_other From (last_at From (member_number from)) place p (appended To (last_at To (member_number to)) place p (cond (p == place) it x)) ∙ after_appended To (last_at To (member_number to)) place p (cond (p == place) it x)
    after_is From p x = after_appended From (last_at From (member_number from)) place p (appended To (last_at To (member_number to)) place p (cond (p == place) it x)) ∙ ap (λ (k : ℕ). cond (p == last_at From (member_number from)) place k) (after_appended_other To (last_at To (member_number to)) place p (cond (p == place) it x))

    first_is : (side : Side) (q : ℕ) (x : Ends) → first_end side (ends_step q x) ≡ cond ((last_at side (key side) == none) && (q == key side)) place (first_end side x)
    first_is To q x = first_moved_other From (last_at From (member_number from)) (member_number from) place q (end_moved To (last_at To (member_number to)) (member_number to) place q x) ∙ first_moved To (last_at To (member_number to)) (member_number to) place q x
    first_is From q x = first_moved From (last_at From (member_number from)) (member_number from) place q (end_moved To (last_at To (member_number to)) (member_number to) place q x) ∙ ap (λ (k : ℕ). cond ((last_at From (member_number from) == none) && (q == member_number from)) place k) (first_moved_other To (last_at To (member_number to)) (member_number to) place q x)

    last_is : (side : Side) (q : ℕ) (x : Ends) → last_end side (ends_step q x) ≡ cond (q == key side) place (last_end side x)
    last_is To q x = last_moved_other From (last_at From (member_number from)) (member_number from) place q (end_moved To (last_at To (member_number to)) (member_number to) place q x) ∙ last_moved To (last_at To (member_number to)) (member_number to) place q x
    last_is From q x = last_moved From (last_at From (member_number from)) (member_number from) place q (end_moved To (last_at To (member_number to)) (member_number to) place q x) ∙ ap (λ (k : ℕ). cond (q == member_number from) place k) (last_moved_other To (last_at To (member_number to)) (member_number to) place q x)

    msg_new : msg_of (nodes' place) ≡ msg_of it
    msg_new = ap msg_of (nodes_are place low) ∙ msg_is place (nodes place) ∙ ap msg_of (base_it (nodes place))

    key_new : (side : Side) → key_of side (nodes' place) ≡ key side
    key_new side = ap (key_of side) (nodes_are place low) ∙ key_is side place (nodes place) ∙ ap (key_of side) (base_it (nodes place))

    msg_same : (p : ℕ) → p < none → p ≢ place → msg_of (nodes' p) ≡ msg_of (nodes p)
    msg_same p h ne = ap msg_of (nodes_are p h) ∙ msg_is p (nodes p) ∙ ap msg_of (base p (nodes p) ne)

    key_same : (side : Side) (p : ℕ) → p < none → p ≢ place → key_of side (nodes' p) ≡ key_of side (nodes p)
    key_same side p h ne = ap (key_of side) (nodes_are p h) ∙ key_is side p (nodes p) ∙ ap (key_of side) (base p (nodes p) ne)

    -- the messages, with the new one
    pub msgs_put : msgs_at nodes' es' ≡ msgs_at nodes es ++ msg_of it ∷ []
    msgs_put = map-append (λ x. msg_of (nodes' x.1)) es ((next, place) ∷ []) ∙ (λ j. map_same (λ x. msg_of (nodes' x.1)) (λ x. msg_of (nodes x.1)) es (λ b x a is. let far = far_at b x a is in msg_same x.1 far.0 far.1) j ++ msg_new j ∷ [])

    cells_put : (side : Side) → cells side nodes' es' ≡ cells side nodes es ++ (place, key side) ∷ []
    cells_put side = map-append (λ x. (x.1, key_of side (nodes' x.1))) es ((next, place) ∷ []) ∙ (λ j. map_same (λ x. (x.1, key_of side (nodes' x.1))) (λ x. (x.1, key_of side (nodes x.1))) es (λ b x a is. let far = far_at b x a is in (λ i. (x.1, key_same side x.1 far.0 far.1 i))) j ++ (place, key_new side j) ∷ [])

    before_it : (side : Side) → before_of side it ≡ last_of (key side) (cells side nodes es)
    before_it To = w.lasts To (member_number to)
    before_it From = w.lasts From (member_number from)

    after_it : (side : Side) → after_of side it ≡ none
    after_it To = refl
    after_it From = refl

    counted_low : (side : Side) (p : ℕ) → 0 < count p (cells side nodes es ++ (place, key side) ∷ []) → p < none
    counted_low side p h = dite (dec_le none p)
        (λ le. dite (ℕ_discrete place p)
        (λ q. absurd (omega (arith, q, low, le)))
        (λ ne. absurd (omega (arith, h, count-append p (cells side nodes es) ((place, key side) ∷ []), apart side p, ap (λ (t : Bool). cond {A = ℕ} t 1 0) (le-ltb p none le), ap (λ (t : Bool). cond {A = ℕ} t 1 0) (eqb place p ne)))))
        (λ gt. omega arith)

    linked_new : (side : Side) → IsLinked (λ p. before_of side (nodes' p)) (λ p. after_of side (nodes' p)) (cells side nodes' es')
    linked_new side =
        let done = put_linked (λ p. before_of side (nodes p)) (λ p. after_of side (nodes p)) (cells side nodes es) (place, key side) (w.linked side) (apart side) low (unheld side) in
        subst (IsLinked (λ p. before_of side (nodes' p)) (λ p. after_of side (nodes' p))) (sym (cells_put side))
        (linked_same (λ p. cond (p == place) (last_of (key side) (cells side nodes es)) (before_of side (nodes p))) (λ p. cond (p == place) none (cond (p == last_of (key side) (cells side nodes es)) place (after_of side (nodes p)))) (λ p. before_of side (nodes' p)) (λ p. after_of side (nodes' p)) (cells side nodes es ++ (place, key side) ∷ []) (λ p h. let h' = counted_low side p h in (before_new p h', after_new p h')) done)
      where
        before_new : (p : ℕ) → p < none → before_of side (nodes' p) ≡ cond (p == place) (last_of (key side) (cells side nodes es)) (before_of side (nodes p))
        before_new p h = ap (before_of side) (nodes_are p h) ∙ before_is side p (nodes p) ∙ by (p == place)
          where
            by : (t : Bool) → before_of side (cond t it (nodes p)) ≡ cond t (last_of (key side) (cells side nodes es)) (before_of side (nodes p))
            by true = before_it side
            by false = refl

        after_new : (p : ℕ) → p < none → after_of side (nodes' p) ≡ cond (p == place) none (cond (p == last_of (key side) (cells side nodes es)) place (after_of side (nodes p)))
        after_new p h = ap (after_of side) (nodes_are p h) ∙ after_is side p (nodes p) ∙ dite (ℕ_discrete p place)
            (λ same.
            ap (λ (t : Bool). cond t place (after_of side (cond (p == place) it (nodes p)))) (eqb p (last_at side (key side)) (λ z. last_else side (key side) (sym z ∙ same)))
            ∙ ap (λ (t : Bool). after_of side (cond t it (nodes p))) (eq-eqb p place same) ∙ after_it side
            ∙ sym (ap (λ (t : Bool). cond t none (cond (p == last_of (key side) (cells side nodes es)) place (after_of side (nodes p)))) (eq-eqb p place same)))
            (λ ne.
            (λ j. cond (p == w.lasts side (key side) j) place (after_of side (base p (nodes p) ne j)))
            ∙ sym (ap (λ (t : Bool). cond t none (cond (p == last_of (key side) (cells side nodes es)) place (after_of side (nodes p)))) (eqb p place ne)))

    flip_eq : (k j : ℕ) → (k == j) ≡ (j == k)
    flip_eq k j = dite (ℕ_discrete k j) (λ q. eq-eqb k j q ∙ sym (eq-eqb j k (sym q))) (λ ne. eqb k j ne ∙ sym (eqb j k (λ z. ne (sym z))))

    firsts_new : (side : Side) (k : ℕ) → first_end side (heads' k) ≡ first_of k (cells side nodes' es')
    firsts_new side k =
        ap (first_end side) (heads_are k) ∙ first_is side k (heads k)
        ∙ (λ j. cond ((w.lasts side (key side) j == none) && (k == key side)) place (w.firsts side k j))
        ∙ sym (first_put (cells side nodes es) (place, key side) (apart side) k) ∙ ap (first_of k) (sym (cells_put side))

    lasts_new : (side : Side) (k : ℕ) → last_end side (heads' k) ≡ last_of k (cells side nodes' es')
    lasts_new side k =
        ap (last_end side) (heads_are k) ∙ last_is side k (heads k)
        ∙ (λ j. cond (flip_eq k (key side) j) place (w.lasts side k j))
        ∙ sym (last_put (cells side nodes es) (place, key side) (apart side) k) ∙ ap (last_of k) (sym (cells_put side))

    ids_new : (b : List (ℕ × ℕ)) (x : ℕ × ℕ) (a : List (ℕ × ℕ)) → es' ≡ b ++ x ∷ a → (nodes' x.1).id ≡ x.0
    ids_new b x a is = ⊎_elim
        (λ t. let far = far_at b x t.0 t.1 in ap (λ (m : Msg). m.id) (msg_same x.1 far.0 far.1) ∙ w.ids b x t.0 t.1)
        (λ t. sole t.0 x a t.1)
        (split es ((next, place) ∷ []) b x a is)
      where
        sole : (c : List (ℕ × ℕ)) (y : ℕ × ℕ) (d : List (ℕ × ℕ)) → (next, place) ∷ [] ≡ c ++ y ∷ d → (nodes' y.1).id ≡ y.0
        sole [] y d q =
            let is : (next, place) ≡ y = ap head_of q in
            subst (λ (z : ℕ × ℕ). (nodes' z.1).id ≡ z.0) is (ap (λ (m : Msg). m.id) msg_new)
        sole (z ∷ c) y d q = absurd (omega (arith, ap length q, length-append c (y ∷ d)))

    free_new : IsFree nodes' (nodes place).to_after free_is.0
    free_new = free_same nodes nodes' (nodes place).to_after free_is.0 (λ f h. same f h) free_is.2
      where
        same : (f : ℕ) → 0 < times f free_is.0 → (nodes' f).to_after ≡ (nodes f).to_after
        same f h =
            let most = w.places.2 f in
            let low_f : f < none = dite (dec_le none f) (λ le. absurd (omega (arith, h, most, free_is.1 f, ap (λ (t : Bool). cond {A = ℕ} t 1 0) (le-ltb f none le)))) (λ gt. omega arith) in
            let not_it : f ≢ place = λ q. absurd (omega (arith, h, most, free_is.1 f, one_most (nat_lt f none), ap (λ (t : Bool). cond {A = ℕ} t 1 0) (eq-eqb place f (sym q)))) in
            let not_last : f ≢ last_at To (member_number to) = λ q. ⊎_elim
            (λ z. absurd (omega (arith, low_f, q, w.lasts To (member_number to), z)))
            (λ z. absurd (omega (arith, h, most, free_is.1 f, one_most (nat_lt f none), ap (λ (k : ℕ). count k (cells To nodes es)) (q ∙ w.lasts To (member_number to)), z)))
            (last_is_place (member_number to) (cells To nodes es)) in
            ap (after_of To) (nodes_are f low_f) ∙ after_is To f (nodes f) ∙ ap (λ (t : Bool). cond t place (after_of To (cond (f == place) it (nodes f)))) (eqb f (last_at To (member_number to)) not_last) ∙ ap (after_of To) (base f (nodes f) not_it)

    -- the flight with the message
    pub whole_put : IsWhole nodes' heads' (nodes place).to_after es' (next + 1)
    whole_put = record {
      ids = ids_new;
      order = subst (λ l. AreFrom 0 l (next + 1)) (sym msgs_put) (put_last 0 (msgs_at nodes es) next (msg_of it) w.order refl);
      linked = linked_new;
      firsts = firsts_new;
      lasts = lasts_new;
      places = (
        free_is.0,
        free_new,
        (λ p. omega (arith, w.places.2 p, free_is.1 p, ap (count p) (cells_put To), count-append p (cells To nodes es) ((place, key To) ∷ []))),
        omega (arith, w.places.3, free_is.3, length-append es ((next, place) ∷ [])),
      );
    }
