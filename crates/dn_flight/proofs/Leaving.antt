-- A sender leaves: its messages are taken out of their receivers' lists one by one, while its own list stays unmended. Beside the arena as
-- it is stands the arena as it would be with that list mended; they differ in what only that list says.
use Rattle.std.proofs.Common.{◌≡◌, ◌≢◌, ℕ, suc, ◌+◌, ◌<◌, ◌≤◌, ◌==◌, ◌&&◌, List, [], ◌∷◌, ◌++◌, length, length-append, filter, not, fold, cond, count_by, Bool, true, false, refl, ap, ◌∙◌, sym, subst, arith, eq-eqb, ne_eqb, eqb-true, le-ltb, append_assoc, Some}
use Rattle.std.proofs.lemmas.List.{map-append}
use Rattle.std.specs.BTreeMap.{is_at}
use Rattle.std.specs.Map.{remove_entry}
use Rattle.std.specs.Ordering.{nat_cmp}
use mathlib.Core.Logic.{dite}
use native.Mathlib.Decide.{dec_le}
use Rattle.dn_wire.specs.declared.ids.Member.{Member}
use Rattle.dn_nodes.specs.declared.node.Node.{Node}
use Rattle.dn_flight.specs.Arena.{none, member_number, msg_of, free_node, without_from}
use Rattle.dn_flight.specs.Chains.{has, first_of, last_of, count, IsLinked}
use Rattle.dn_flight.specs.Flight.{AreFrom, is_from, is_to, next_in, first_id, after_id, all_to}
use Rattle.dn_flight.specs.Side.{key_of, before_of, after_of, with_before, with_after, first_end, last_end, with_first, with_last}
use Rattle.dn_flight.specs.Whole.{IsWhole, IsFree, msgs_at, cells, unlinked, unended, id_at}
use Rattle.dn_flight.specs.declared.heads.Ends.{Ends}
use Rattle.dn_flight.specs.declared.msg.Msg.{Msg}
use Rattle.dn_flight.specs.declared.side.Side.{Side}
use Rattle.dn_flight.specs.declared.side.Side.TheVariants.{To, From}
use Rattle.dn_flight.proofs.Chains.{last_not, linked_same, has_at}
use Rattle.dn_flight.proofs.Members.{member_test}
use Rattle.dn_flight.proofs.Nodes.{key_unlinked, first_unended}
use Rattle.dn_flight.proofs.Removed.{map_same, free_same, place_low, before_low, after_low, has_end, free_low, msgs_same, whole_removed}
use Rattle.dn_flight.proofs.Walks.{AreLow, FirstAt, first_at, none_with, removed_at, first_to_member, after_it}

-- the node n as it is, and as it would be: they differ at most in which one stands before it in the sender's list
pub record IsNear (key : ℕ) (n v : Node) : Type 0 where
  pub same : n ≡ record v { from_before = n.from_before }
  pub before : (key_of From v ≢ key) → n.from_before ≡ v.from_before

-- the ends of member q, likewise
pub record AreNear (key q : ℕ) (x y : Ends) : Type 0 where
  pub to_first : x.to_first ≡ y.to_first
  pub to_last : x.to_last ≡ y.to_last
  pub from_first : (q ≢ key) → x.from_first ≡ y.from_first
  pub from_last : (q ≢ key) → x.from_last ≡ y.from_last

pub near_self : (key : ℕ) (n : Node) → IsNear key n n
near_self key n = record { same = refl; before = λ _. refl }

pub ends_near_self : (key q : ℕ) (x : Ends) → AreNear key q x x
ends_near_self key q x = record { to_first = refl; to_last = refl; from_first = λ _. refl; from_last = λ _. refl }

near_to : (key b a p : ℕ) (n v : Node) → IsNear key n v → IsNear key (unlinked To b a p n) (unlinked To b a p v)
near_to key b a p n v h = by (p == b) (p == a)
  where
    by : (t u : Bool) → IsNear key (cond u (with_before To (cond t (with_after To n a) n) b) (cond t (with_after To n a) n)) (cond u (with_before To (cond t (with_after To v a) v) b) (cond t (with_after To v a) v))
    by true true = record { same = ap (λ (z : Node). with_before To (with_after To z a) b) h.same; before = h.before }
    by true false = record { same = ap (λ (z : Node). with_after To z a) h.same; before = h.before }
    by false true = record { same = ap (λ (z : Node). with_before To z b) h.same; before = h.before }
    by false false = h

near_from : (key a p : ℕ) (n v : Node) → IsNear key n v → p < none → (p ≡ a → key_of From v ≡ key) → IsNear key n (unlinked From none a p v)
near_from key a p n v h low its =
    subst (λ (t : Bool). IsNear key n (cond (p == a) (with_before From (cond t (with_after From v a) v) none) (cond t (with_after From v a) v)))
    (sym (ne_eqb p none (λ q. absurd (omega (arith, q, low)))))
    (by (p == a) refl)
  where
    by : (u : Bool) → (p == a) ≡ u → IsNear key n (cond u (with_before From v none) v)
    by true q = record { same = h.same; before = λ ne. absurd (ne (its (eqb-true p a q))) }
    by false q = h

ends_near_to : (key b a k q : ℕ) (x y : Ends) → AreNear key q x y → AreNear key q (unended To b a k q x) (unended To b a k q y)
ends_near_to key b a k q x y h = by ((b == none) && (q == k)) ((a == none) && (q == k))
  where
    by : (t u : Bool) → AreNear key q (cond u (with_last To (cond t (with_first To x a) x) b) (cond t (with_first To x a) x)) (cond u (with_last To (cond t (with_first To y a) y) b) (cond t (with_first To y a) y))
    by true true = record { to_first = refl; to_last = refl; from_first = h.from_first; from_last = h.from_last }
    by true false = record { to_first = refl; to_last = h.to_last; from_first = h.from_first; from_last = h.from_last }
    by false true = record { to_first = h.to_first; to_last = refl; from_first = h.from_first; from_last = h.from_last }
    by false false = h

ends_near_from : (key b a q : ℕ) (x y : Ends) → AreNear key q x y → AreNear key q x (unended From b a key q y)
ends_near_from key b a q x y h = by (b == none) (a == none) (q == key) refl
  where
    apart : (q == key) ≡ true → q ≢ key → ⊥
    apart is ne = ne (eqb-true q key is)

    by : (t u s : Bool) → (q == key) ≡ s → AreNear key q x (cond (u && s) (with_last From (cond (t && s) (with_first From y a) y) b) (cond (t && s) (with_first From y a) y))
    by true true true is = record { to_first = h.to_first; to_last = h.to_last; from_first = λ ne. absurd (apart is ne); from_last = λ ne. absurd (apart is ne) }
    by true false true is = record { to_first = h.to_first; to_last = h.to_last; from_first = λ ne. absurd (apart is ne); from_last = λ ne. absurd (apart is ne) }
    by false true true is = record { to_first = h.to_first; to_last = h.to_last; from_first = λ ne. absurd (apart is ne); from_last = λ ne. absurd (apart is ne) }
    by false false true is = h
    by true true false is = h
    by true false false is = h
    by false true false is = h
    by false false false is = h

module _ {A : Type 0} where
  count_more : (p : A → Bool) (n : ℕ) (xs : List A) → fold (λ a x. a + cond {A = ℕ} (p x) 1 0) n xs ≡ n + count_by p xs
  count_more p n [] = omega arith
  count_more p n (x ∷ xs) = omega (arith, count_more p (n + cond {A = ℕ} (p x) 1 0) xs, count_more p (0 + cond {A = ℕ} (p x) 1 0) xs)

  count_first : (p : A → Bool) (x : A) (xs : List A) → count_by p (x ∷ xs) ≡ cond {A = ℕ} (p x) 1 0 + count_by p xs
  count_first p x xs = omega (arith, count_more p (0 + cond {A = ℕ} (p x) 1 0) xs)

  filter_gone : (p : A → Bool) (b : List A) (x : A) (a : List A) → p x ≡ true → filter (λ y. not (p y)) (b ++ x ∷ a) ≡ filter (λ y. not (p y)) (b ++ a)
  filter_gone p [] x a is = ap (λ (t : Bool). cond (not t) (x ∷ filter (λ y. not (p y)) a) (filter (λ y. not (p y)) a)) is
  filter_gone p (y ∷ b) x a is = ap (λ l. cond (not (p y)) (y ∷ l) l) (filter_gone p b x a is)

  count_gone : (p : A → Bool) (b : List A) (x : A) (a : List A) → p x ≡ true → count_by p (b ++ x ∷ a) ≡ 1 + count_by p (b ++ a)
  count_gone p [] x a is = count_first p x a ∙ ap (λ (t : Bool). cond {A = ℕ} t 1 0 + count_by p a) is
  count_gone p (y ∷ b) x a is = omega (arith, count_first p y (b ++ x ∷ a), count_first p y (b ++ a), count_gone p b x a is)

-- An arena as it is, with nodes n and ends x, while the member leaves: v and y are the nodes and ends with its list mended, and place is the
-- first that it has left.
pub record IsLeaving (m : Member) (n : ℕ → Node) (x : ℕ → Ends) (free : ℕ) (es : List (ℕ × ℕ)) (next place : ℕ) (v : ℕ → Node) (y : ℕ → Ends) : Type 0 where
  pub whole : IsWhole v y free es next
  pub near : (p : ℕ) → p < none → IsNear (member_number m) (n p) (v p)
  pub ends : (q : ℕ) → AreNear (member_number m) q (x q) (y q)
  pub at : place ≡ first_end From (y (member_number m))

pub leaves : (m : Member) (n : ℕ → Node) (x : ℕ → Ends) (free : ℕ) (es : List (ℕ × ℕ)) (next : ℕ) → IsWhole n x free es next → IsLeaving m n x free es next (first_end From (x (member_number m))) n x
leaves m n x free es next w = record { whole = w; near = λ p low. near_self (member_number m) (n p); ends = λ q. ends_near_self (member_number m) q (x q); at = refl }

-- entries are at places
pub are_low : (v : ℕ → Node) (y : ℕ → Ends) (free : ℕ) (es : List (ℕ × ℕ)) (next : ℕ) → IsWhole v y free es next → AreLow es
are_low v y free es next w b e a is = place_low v v y y free next b e a (subst (λ l. IsWhole v y free l next) is w)

-- the next message to the same receiver is at the next place of its list
pub next_low : (v : ℕ → Node) (y : ℕ → Ends) (free : ℕ) (es : List (ℕ × ℕ)) (next : ℕ) → IsWhole v y free es next
    → (b : List (ℕ × ℕ)) (e : ℕ × ℕ) (a : List (ℕ × ℕ)) → es ≡ b ++ e ∷ a → (v e.1).to_after ≤ none
next_low v y free es next w b e a is = after_low v v y y free next b e a (subst (λ l. IsWhole v y free l next) is w) To

pub next_is : (v : ℕ → Node) (y : ℕ → Ends) (free : ℕ) (es : List (ℕ × ℕ)) (next : ℕ) → IsWhole v y free es next
    → (b : List (ℕ × ℕ)) (e : ℕ × ℕ) (a : List (ℕ × ℕ)) → es ≡ b ++ e ∷ a → (id : ℕ) → id ≡ e.0
    → id_at v (v e.1).to_after ≡ next_in id (Some (msg_of (v e.1))) (msgs_at v es)
next_is v y free es next w b e a is id same =
    let all : msgs_at v es ≡ msgs_at v b ++ msg_of (v e.1) ∷ msgs_at v a = ap (msgs_at v) is ∙ map-append (λ z. msg_of (v z.1)) b (e ∷ a) in
    let its : (v e.1).id ≡ id = w.ids b e a is ∙ sym same in
    let link : (v e.1).to_after ≡ first_of (member_number (v e.1).to) (cells To v a) = (w.linked To (cells To v b) (e.1, key_of To (v e.1)) (cells To v a) (ap (cells To v) is ∙ map-append (λ z. (z.1, key_of To (v z.1))) b (e ∷ a))).1 in
    let low : AreLow a = λ c z d at. are_low v y free es next w (b ++ e ∷ c) z d (is ∙ ap (λ l. b ++ e ∷ l) at ∙ sym (append_assoc b (e ∷ c) (z ∷ d))) in
    ap (id_at v) link ∙ first_to_member v (v e.1).to a low
    ∙ sym (ap first_id ((λ j. after_id (sym its j) (all_to (v e.1).to (all j))) ∙ after_it 0 (is_to (v e.1).to) (msgs_at v b) (msg_of (v e.1)) (msgs_at v a) next (subst (λ l. AreFrom 0 l next) all w.order)))

module _ (m : Member) (n : ℕ → Node) (x : ℕ → Ends) (free : ℕ) (es : List (ℕ × ℕ)) (next place : ℕ) (v : ℕ → Node) (y : ℕ → Ends) (s : IsLeaving m n x free es next place v y) where
  key : ℕ
  key = member_number m

  module _ (more : place ≢ none) where
    pub found : FirstAt From v (member_number m) es place
    found = first_at From v (member_number m) es place (sym (s.whole.firsts From (member_number m)) ∙ sym s.at) more

    w : IsWhole v y free (found.0 ++ found.1 ∷ found.2) next
    w = subst (λ l. IsWhole v y free l next) found.3 s.whole

    v0 : Node
    v0 = v found.1.1

    -- the arena with the list mended, after its first message was taken out
    abbrev pub v' : ℕ → Node
    v' p = cond (p == found.1.1) (free_node free) (unlinked From (before_of From (v found.1.1)) (after_of From (v found.1.1)) p (unlinked To (before_of To (v found.1.1)) (after_of To (v found.1.1)) p (v p)))

    abbrev pub y' : ℕ → Ends
    y' q = unended From (before_of From (v found.1.1)) (after_of From (v found.1.1)) (key_of From (v found.1.1)) q (unended To (before_of To (v found.1.1)) (after_of To (v found.1.1)) (key_of To (v found.1.1)) q (y q))

    whole' : IsWhole v' y' found.1.1 (found.0 ++ found.2) next
    whole' = whole_removed v v' y y' free next found.0 found.1 found.2 w (λ p low. refl) (λ q. refl)

    low : found.1.1 < none
    low = place_low v v y y free next found.0 found.1 found.2 w

    links : (before_of From (v found.1.1) ≡ last_of (key_of From (v found.1.1)) (cells From v found.0)) × (after_of From (v found.1.1) ≡ first_of (key_of From (v found.1.1)) (cells From v found.2))
    links = w.linked From (cells From v found.0) (found.1.1, key_of From (v found.1.1)) (cells From v found.2) (map-append (λ e. (e.1, key_of From (v e.1))) found.0 (found.1 ∷ found.2))

    before_none : before_of From (v found.1.1) ≡ none
    before_none = links.0 ∙ ap (λ (k : ℕ). last_of k (cells From v found.0)) found.5 ∙ last_not none (member_number m) (cells From v found.0) found.6

    -- the message after it is from the same member
    after_key : (p : ℕ) → p < none → p ≡ after_of From (v found.1.1) → key_of From (v p) ≡ member_number m
    after_key p h is =
        let f = first_at From v (member_number m) found.2 p (sym (is ∙ links.1 ∙ ap (λ (k : ℕ). first_of k (cells From v found.2)) found.5)) (λ q. absurd (omega (arith, h, q))) in
        subst (λ (z : ℕ). key_of From (v z) ≡ member_number m) f.4 f.5

    here : IsNear (member_number m) (n place) (v found.1.1)
    here = subst (λ (z : ℕ). IsNear (member_number m) (n z) (v found.1.1)) found.4 (s.near found.1.1 low)

    module _ (n' : ℕ → Node) (x' : ℕ → Ends)
        (nodes_are : (p : ℕ) → p < none → n' p ≡ cond (p == place) (free_node free) (unlinked To (n place).to_before (n place).to_after p (n p)))
        (ends_are : (q : ℕ) → x' q ≡ unended To (n place).to_before (n place).to_after (member_number (n place).to) q (x q)) where
      to_before : (n place).to_before ≡ before_of To (v found.1.1)
      to_before = ap (λ (z : Node). z.to_before) here.same

      to_after : (n place).to_after ≡ after_of To (v found.1.1)
      to_after = ap (λ (z : Node). z.to_after) here.same

      to_key : member_number (n place).to ≡ key_of To (v found.1.1)
      to_key = ap (λ (z : Node). member_number z.to) here.same

      near' : (p : ℕ) → p < none → IsNear (member_number m) (n' p) (v' p)
      near' p h = subst (λ (z : Node). IsNear (member_number m) z (v' p)) (sym (nodes_are p h ∙ (λ j. cond (p == sym found.4 j) (free_node free) (unlinked To (to_before j) (to_after j) p (n p))))) (by (p == found.1.1) refl)
        where
          by : (t : Bool) → (p == found.1.1) ≡ t → IsNear (member_number m)
              (cond t (free_node free) (unlinked To (before_of To (v found.1.1)) (after_of To (v found.1.1)) p (n p)))
              (cond t (free_node free) (unlinked From (before_of From (v found.1.1)) (after_of From (v found.1.1)) p (unlinked To (before_of To (v found.1.1)) (after_of To (v found.1.1)) p (v p))))
          by true q = near_self (member_number m) (free_node free)
          by false q =
              let to = near_to (member_number m) (before_of To (v found.1.1)) (after_of To (v found.1.1)) p (n p) (v p) (s.near p h) in
              subst (λ (b : ℕ). IsNear (member_number m) (unlinked To (before_of To (v found.1.1)) (after_of To (v found.1.1)) p (n p)) (unlinked From b (after_of From (v found.1.1)) p (unlinked To (before_of To (v found.1.1)) (after_of To (v found.1.1)) p (v p)))) (sym before_none)
              (near_from (member_number m) (after_of From (v found.1.1)) p _ (unlinked To (before_of To (v found.1.1)) (after_of To (v found.1.1)) p (v p)) to h (λ is. key_unlinked To From (before_of To (v found.1.1)) (after_of To (v found.1.1)) p (v p) ∙ after_key p h is))

      ends' : (q : ℕ) → AreNear (member_number m) q (x' q) (y' q)
      ends' q = subst (λ (z : Ends). AreNear (member_number m) q z (y' q)) (sym (ends_are q ∙ (λ j. unended To (to_before j) (to_after j) (to_key j) q (x q))))
          (subst (λ (k : ℕ). AreNear (member_number m) q (unended To (before_of To (v found.1.1)) (after_of To (v found.1.1)) (key_of To (v found.1.1)) q (x q)) (unended From (before_of From (v found.1.1)) (after_of From (v found.1.1)) k q (unended To (before_of To (v found.1.1)) (after_of To (v found.1.1)) (key_of To (v found.1.1)) q (y q)))) (sym found.5)
          (ends_near_from (member_number m) (before_of From (v found.1.1)) (after_of From (v found.1.1)) q _ _ (ends_near_to (member_number m) (before_of To (v found.1.1)) (after_of To (v found.1.1)) (key_of To (v found.1.1)) q (x q) (y q) (s.ends q))))

      place' : (n place).from_after ≡ first_end From (y' (member_number m))
      place' =
          let b = before_of From (v found.1.1) in
          let a = after_of From (v found.1.1) in
          let k = key_of From (v found.1.1) in
          ap (λ (z : Node). z.from_after) here.same
          ∙ sym (first_unended From b a k (member_number m) (unended To (before_of To (v found.1.1)) (after_of To (v found.1.1)) (key_of To (v found.1.1)) (member_number m) (y (member_number m)))
          ∙ (λ j. cond ((eq-eqb b none before_none j) && (eq-eqb (member_number m) k (sym found.5) j)) a (first_end From (unended To (before_of To (v found.1.1)) (after_of To (v found.1.1)) (key_of To (v found.1.1)) (member_number m) (y (member_number m))))))

      pub leaves_more : IsLeaving m n' x' place (found.0 ++ found.2) next (n place).from_after v' y'
      leaves_more = record { whole = subst (λ (z : ℕ). IsWhole v' y' z (found.0 ++ found.2) next) found.4 whole'; near = near'; ends = ends'; at = place' }

    -- what taking the message out asks
    pub place_below : place < none
    place_below = subst (λ (z : ℕ). z < none) found.4 low

    pub free_below : free ≤ none
    free_below = free_low v v y y free next found.0 found.1 found.2 w

    pub before_below : (n place).to_before ≤ none
    before_below = omega (arith, before_low v v y y free next found.0 found.1 found.2 w To, ap (λ (z : Node). z.to_before) here.same)

    pub after_below : (n place).to_after ≤ none
    after_below = omega (arith, after_low v v y y free next found.0 found.1 found.2 w To, ap (λ (z : Node). z.to_after) here.same)

    pub receiver_end : first_end To (x (member_number (n place).to)) < none
    receiver_end =
        let k = member_number (n place).to in
        let same : first_end To (x k) ≡ first_end To (y (key_of To (v found.1.1))) = (s.ends k).to_first ∙ ap (λ (z : Node). first_end To (y (member_number z.to))) here.same in
        omega (arith, same, has_end v v y y free next found.0 found.1 found.2 w To)

    pub entry_goes : remove_entry (is_at (nat_cmp (n place).id)) es ≡ found.0 ++ found.2
    entry_goes =
        (λ j. remove_entry (is_at (nat_cmp ((ap (λ (z : Node). z.id) here.same ∙ w.ids found.0 found.1 found.2 refl) j))) (found.3 j))
        ∙ removed_at v found.0 found.1 found.2 0 next w.ids w.order

    pub fewer_entries : length es ≡ suc (length (found.0 ++ found.2))
    fewer_entries = omega (arith, ap length found.3, length-append found.0 (found.1 ∷ found.2), length-append found.0 found.2)

    -- what the messages become
    is_from_it : is_from m (msg_of (v found.1.1)) ≡ true
    is_from_it = member_test (v found.1.1).from m ∙ eq-eqb (member_number (v found.1.1).from) (member_number m) found.5

    all_now : msgs_at v (found.0 ++ found.1 ∷ found.2) ≡ msgs_at v found.0 ++ msg_of (v found.1.1) ∷ msgs_at v found.2
    all_now = map-append (λ e. msg_of (v e.1)) found.0 (found.1 ∷ found.2)

    left_then : msgs_at v' (found.0 ++ found.2) ≡ msgs_at v found.0 ++ msgs_at v found.2
    left_then = msgs_same v v' y y' free next found.0 found.1 found.2 w (λ p low. refl) (λ q. refl) ∙ map-append (λ e. msg_of (v e.1)) found.0 found.2

    pub others_stay : filter (λ z. not (is_from m z)) (msgs_at v' (found.0 ++ found.2)) ≡ filter (λ z. not (is_from m z)) (msgs_at v es)
    others_stay = ap (filter (λ z. not (is_from m z))) left_then ∙ sym (ap (λ l. filter (λ z. not (is_from m z)) (msgs_at v l)) found.3 ∙ ap (filter (λ z. not (is_from m z))) all_now ∙ filter_gone (is_from m) (msgs_at v found.0) (msg_of (v found.1.1)) (msgs_at v found.2) is_from_it)

    pub one_less : count_by (is_from m) (msgs_at v es) ≡ 1 + count_by (is_from m) (msgs_at v' (found.0 ++ found.2))
    one_less = ap (λ l. count_by (is_from m) (msgs_at v l)) found.3 ∙ ap (count_by (is_from m)) all_now ∙ count_gone (is_from m) (msgs_at v found.0) (msg_of (v found.1.1)) (msgs_at v found.2) is_from_it ∙ ap (λ l. 1 + count_by (is_from m) l) (sym left_then)

  module _ (done : place ≡ none) where
    all_gone : has (member_number m) (cells From v es) ≡ false
    all_gone = none_with From v (member_number m) es (are_low v y free es next s.whole) (sym (s.whole.firsts From (member_number m)) ∙ sym s.at ∙ done)

    other_key : (b : List (ℕ × ℕ)) (e : ℕ × ℕ) (a : List (ℕ × ℕ)) → es ≡ b ++ e ∷ a → key_of From (v e.1) ≢ member_number m
    other_key b e a is q =
        let at : cells From v es ≡ cells From v b ++ (e.1, key_of From (v e.1)) ∷ cells From v a = ap (cells From v) is ∙ map-append (λ z. (z.1, key_of From (v z.1))) b (e ∷ a) in
        true_false (sym (has_at (member_number m) (cells From v b) (e.1, key_of From (v e.1)) (cells From v a) q) ∙ sym (ap (has (member_number m)) at) ∙ all_gone)
      where
        true_false : true ≡ false → ⊥
        true_false h = cc

    lows : AreLow es
    lows = are_low v y free es next s.whole

    msg_same : (p : ℕ) → p < none → msg_of (n p) ≡ msg_of (v p)
    msg_same p h = ap msg_of (s.near p h).same

    key_same : (side : Side) (p : ℕ) → p < none → key_of side (n p) ≡ key_of side (v p)
    key_same To p h = ap (key_of To) (s.near p h).same
    key_same From p h = ap (key_of From) (s.near p h).same

    after_same : (side : Side) (p : ℕ) → p < none → after_of side (n p) ≡ after_of side (v p)
    after_same To p h = ap (after_of To) (s.near p h).same
    after_same From p h = ap (after_of From) (s.near p h).same

    before_same : (side : Side) (p : ℕ) → p < none → (key_of From (v p) ≢ member_number m) → before_of side (n p) ≡ before_of side (v p)
    before_same To p h ne = ap (before_of To) (s.near p h).same
    before_same From p h ne = (s.near p h).before ne

    pub msgs_are : msgs_at n es ≡ msgs_at v es
    msgs_are = map_same (λ e. msg_of (n e.1)) (λ e. msg_of (v e.1)) es (λ b e a is. msg_same e.1 (lows b e a is))

    cells_are : (side : Side) → cells side n es ≡ cells side v es
    cells_are side = map_same (λ e. (e.1, key_of side (n e.1))) (λ e. (e.1, key_of side (v e.1))) es (λ b e a is. (λ j. (e.1, key_same side e.1 (lows b e a is) j)))

    -- each place that is counted has an entry
    entry_at : (side : Side) (p : ℕ) (l : List (ℕ × ℕ)) → 0 < count p (cells side v l) → (b : List (ℕ × ℕ)) × (e : ℕ × ℕ) × (a : List (ℕ × ℕ)) × (l ≡ b ++ e ∷ a) × (e.1 ≡ p)
    entry_at side p [] h = absurd (omega (arith, h))
    entry_at side p (z ∷ l) h = by (z.1 == p) refl h (entry_at side p l)
      where
        by : (t : Bool) → (z.1 == p) ≡ t → 0 < cond {A = ℕ} t 1 0 + count p (cells side v l) → (0 < count p (cells side v l) → (b : List (ℕ × ℕ)) × (e : ℕ × ℕ) × (a : List (ℕ × ℕ)) × (l ≡ b ++ e ∷ a) × (e.1 ≡ p))
            → (b : List (ℕ × ℕ)) × (e : ℕ × ℕ) × (a : List (ℕ × ℕ)) × (z ∷ l ≡ b ++ e ∷ a) × (e.1 ≡ p)
        by true q k more = ([], z, l, refl, eqb-true z.1 p q)
        by false q k more = let f = more (omega (arith, k)) in (z ∷ f.0, f.1, f.2, ap (λ r. z ∷ r) f.3, f.4)

    linked_now : (side : Side) → IsLinked (λ p. before_of side (n p)) (λ p. after_of side (n p)) (cells side n es)
    linked_now side = subst (IsLinked (λ p. before_of side (n p)) (λ p. after_of side (n p))) (sym (cells_are side))
        (linked_same (λ p. before_of side (v p)) (λ p. after_of side (v p)) (λ p. before_of side (n p)) (λ p. after_of side (n p)) (cells side v es) (λ p h.
        let f = entry_at side p es h in
        let h' : p < none = subst (λ (z : ℕ). z < none) f.4 (lows f.0 f.1 f.2 f.3) in
        let ne : key_of From (v p) ≢ member_number m = subst (λ (z : ℕ). key_of From (v z) ≢ member_number m) f.4 (other_key f.0 f.1 f.2 f.3) in
        (before_same side p h' ne, after_same side p h')) (s.whole.linked side))

    abbrev now : ℕ → Ends
    now q = cond (q == member_number m) (without_from (x q)) (x q)

    firsts_now : (side : Side) (k : ℕ) → first_end side (now k) ≡ first_of k (cells side n es)
    firsts_now side k = by side (k == member_number m) refl ∙ ap (first_of k) (sym (cells_are side))
      where
        by : (side : Side) (t : Bool) → (k == member_number m) ≡ t → first_end side (cond (k == member_number m) (without_from (x k)) (x k)) ≡ first_of k (cells side v es)
        by To true q = ap (λ (u : Bool). first_end To (cond u (without_from (x k)) (x k))) q ∙ (s.ends k).to_first ∙ s.whole.firsts To k
        by To false q = ap (λ (u : Bool). first_end To (cond u (without_from (x k)) (x k))) q ∙ (s.ends k).to_first ∙ s.whole.firsts To k
        by From true q = ap (λ (u : Bool). first_end From (cond u (without_from (x k)) (x k))) q ∙ sym done ∙ s.at ∙ s.whole.firsts From (member_number m) ∙ ap (λ (z : ℕ). first_of z (cells From v es)) (sym (eqb-true k (member_number m) q))
        by From false q = ap (λ (u : Bool). first_end From (cond u (without_from (x k)) (x k))) q ∙ (s.ends k).from_first (λ e. true_false (sym (eq-eqb k (member_number m) e) ∙ q)) ∙ s.whole.firsts From k
          where
            true_false : true ≡ false → ⊥
            true_false h = cc

    lasts_now : (side : Side) (k : ℕ) → last_end side (now k) ≡ last_of k (cells side n es)
    lasts_now side k = by side (k == member_number m) refl ∙ ap (last_of k) (sym (cells_are side))
      where
        by : (side : Side) (t : Bool) → (k == member_number m) ≡ t → last_end side (cond (k == member_number m) (without_from (x k)) (x k)) ≡ last_of k (cells side v es)
        by To true q = ap (λ (u : Bool). last_end To (cond u (without_from (x k)) (x k))) q ∙ (s.ends k).to_last ∙ s.whole.lasts To k
        by To false q = ap (λ (u : Bool). last_end To (cond u (without_from (x k)) (x k))) q ∙ (s.ends k).to_last ∙ s.whole.lasts To k
        by From true q = ap (λ (u : Bool). last_end From (cond u (without_from (x k)) (x k))) q ∙ sym (last_not none k (cells From v es) (ap (λ (z : ℕ). has z (cells From v es)) (eqb-true k (member_number m) q) ∙ all_gone))
        by From false q = ap (λ (u : Bool). last_end From (cond u (without_from (x k)) (x k))) q ∙ (s.ends k).from_last (λ e. true_false (sym (eq-eqb k (member_number m) e) ∙ q)) ∙ s.whole.lasts From k
          where
            true_false : true ≡ false → ⊥
            true_false h = cc

    free_now : IsFree n free s.whole.places.0
    free_now = free_same v n free s.whole.places.0 (λ f h.
        let low : f < none = dite (dec_le none f) (λ le. absurd (omega (arith, h, s.whole.places.2 f, ap (λ (t : Bool). cond {A = ℕ} t 1 0) (le-ltb f none le)))) (λ gt. omega arith) in
        ap (after_of To) (s.near f low).same) s.whole.places.1

    whole_now : IsWhole n now free es next
    whole_now = record {
      ids = λ b e a is. ap (λ (z : Msg). z.id) (msg_same e.1 (lows b e a is)) ∙ s.whole.ids b e a is;
      order = subst (λ l. AreFrom 0 l next) (sym msgs_are) s.whole.order;
      linked = linked_now;
      firsts = firsts_now;
      lasts = lasts_now;
      places = (s.whole.places.0, free_now, (λ p. omega (arith, s.whole.places.2 p, ap (count p) (cells_are To))), s.whole.places.3);
    }

    -- the arena with the leaving member's ends taken away
    pub whole_left : (x' : ℕ → Ends) → ((q : ℕ) → x' q ≡ cond (q == member_number m) (without_from (x q)) (x q)) → IsWhole n x' free es next
    whole_left x' are = record {
      ids = whole_now.ids;
      order = whole_now.order;
      linked = whole_now.linked;
      firsts = λ side k. ap (first_end side) (are k) ∙ whole_now.firsts side k;
      lasts = λ side k. ap (last_end side) (are k) ∙ whole_now.lasts side k;
      places = whole_now.places;
    }

    -- no message is from the member
    none_from : (l : List (ℕ × ℕ)) → ((b : List (ℕ × ℕ)) (e : ℕ × ℕ) (a : List (ℕ × ℕ)) → l ≡ b ++ e ∷ a → key_of From (v e.1) ≢ member_number m)
        → (filter (λ z. not (is_from m z)) (msgs_at v l) ≡ msgs_at v l) × (count_by (is_from m) (msgs_at v l) ≡ 0)
    none_from [] h = (refl, refl)
    none_from (z ∷ l) h =
        let more = none_from l (λ b e a is. h (z ∷ b) e a (ap (λ r. z ∷ r) is)) in
        let not_it : is_from m (msg_of (v z.1)) ≡ false = member_test (v z.1).from m ∙ ne_eqb (member_number (v z.1).from) (member_number m) (h [] z l refl) in (
          ap (λ (t : Bool). cond (not t) (msg_of (v z.1) ∷ filter (λ u. not (is_from m u)) (msgs_at v l)) (filter (λ u. not (is_from m u)) (msgs_at v l))) not_it ∙ ap (λ r. msg_of (v z.1) ∷ r) more.0,
          omega (arith, count_first (is_from m) (msg_of (v z.1)) (msgs_at v l), ap (λ (t : Bool). cond {A = ℕ} t 1 0) not_it, more.1),
        )

    pub all_stay : filter (λ z. not (is_from m z)) (msgs_at v es) ≡ msgs_at n es
    all_stay = (none_from es other_key).0 ∙ sym msgs_are

    pub none_left : count_by (is_from m) (msgs_at v es) ≡ 0
    none_left = (none_from es other_key).1
