-- The entries of a flight, a number and a place each, as its ordered map holds them.
use Rattle.std.proofs.Common.{◌≡◌, ℕ, ◌+◌, ◌<◌, ◌≤◌, ◌==◌, List, [], ◌∷◌, ◌++◌, not, cond, Bool, true, false, refl, ap, ◌∙◌, sym, subst, arith, Some, None, eq-eqb, ne_eqb, le-ltb}
use Rattle.std.proofs.lemmas.List.{map-append}
use Rattle.std.specs.BTreeMap.{insert_entry, is_at}
use Rattle.std.specs.Cmp.{unsigned_tied}
use Rattle.std.specs.Map.{lookup, remove_entry}
use Rattle.std.specs.Option.{option_map}
use Rattle.std.specs.Ordering.{match_ordering, nat_cmp}
use Rattle.std.specs.declared.cmp.Ordering.{Ordering}
use Rattle.std.specs.declared.cmp.Ordering.TheVariants.{Less, Equal, Greater}
use mathlib.Core.Logic.{dite}
use native.Mathlib.Decide.{ℕ_discrete}
use Rattle.dn_nodes.specs.declared.node.Node.{Node}
use Rattle.dn_flight.specs.Arena.{msg_of}
use Rattle.dn_flight.specs.Flight.{AreFrom, with_id, without_id}
use Rattle.dn_flight.specs.Whole.{msgs_at}
use Rattle.dn_flight.specs.declared.msg.Msg.{Msg}

greater : (x y : ℕ) → y < x → nat_cmp x y ≡ Greater
greater x y h = λ j. cond (le-ltb x y (omega arith) j) Less (cond (ne_eqb x y (λ q. omega arith) j) Equal Greater)

-- a number above all others goes behind them
pub insert_last : (es : List (ℕ × ℕ)) (k v : ℕ) → ((b : List (ℕ × ℕ)) (e : ℕ × ℕ) (a : List (ℕ × ℕ)) → es ≡ b ++ e ∷ a → e.0 < k) → insert_entry nat_cmp es k v ≡ es ++ (k, v) ∷ []
insert_last [] k v h = refl
insert_last (e ∷ es) k v h =
    ap (λ (o : Ordering). match_ordering o ((k, v) ∷ e ∷ es) ((e.0, v) ∷ es) (e ∷ insert_entry nat_cmp es k v)) (greater k e.0 (h [] e es refl))
    ∙ ap (λ l. e ∷ l) (insert_last es k v (λ b x a is. h (e ∷ b) x a (ap (λ l. e ∷ l) is)))

none_some : {a : ℕ} → None ≡ Some a → ⊥
none_some e = cc

one_some : {a b : ℕ} → Some a ≡ Some b → a ≡ b
one_some e = cc

-- where an entry that is found stands, and what is left without it
abbrev pub Found : (ℕ → Bool) → List (ℕ × ℕ) → ℕ → Type 0
Found test es p = (b : List (ℕ × ℕ)) × (e : ℕ × ℕ) × (a : List (ℕ × ℕ)) × (es ≡ b ++ e ∷ a) × (e.1 ≡ p) × (test e.0 ≡ true) × (remove_entry test es ≡ b ++ a)

pub split_at : (test : ℕ → Bool) (es : List (ℕ × ℕ)) (p : ℕ) → lookup test es ≡ Some p → Found test es p
split_at test [] p h = absurd (none_some h)
split_at test (x ∷ es) p h = by (test x.0) refl h (split_at test es p)
  where
    by : (t : Bool) → test x.0 ≡ t → cond t (Some x.1) (lookup test es) ≡ Some p → (lookup test es ≡ Some p → Found test es p) → Found test (x ∷ es) p
    by true q h more = ([], x, es, refl, one_some h, q, ap (λ (t : Bool). cond t es (x ∷ remove_entry test es)) q)
    by false q h more = let f = more h in (x ∷ f.0, f.1, f.2, ap (λ l. x ∷ l) f.3, f.4, f.5, ap (λ (t : Bool). cond t es (x ∷ remove_entry test es)) q ∙ ap (λ l. x ∷ l) f.6)

flip_eq : (k j : ℕ) → (k == j) ≡ (j == k)
flip_eq k j = dite (ℕ_discrete k j) (λ q. eq-eqb k j q ∙ sym (eq-eqb j k (sym q))) (λ ne. ne_eqb k j ne ∙ sym (ne_eqb j k (λ z. ne (sym z))))

-- the message with a number is the one at the place that is found
pub found_msg : (nodes : ℕ → Node) (es : List (ℕ × ℕ)) (id : ℕ) → ((b : List (ℕ × ℕ)) (e : ℕ × ℕ) (a : List (ℕ × ℕ)) → es ≡ b ++ e ∷ a → (nodes e.1).id ≡ e.0)
    → with_id id (msgs_at nodes es) ≡ option_map (λ p. msg_of (nodes p)) (lookup (is_at (nat_cmp id)) es)
found_msg nodes [] id h = refl
found_msg nodes (x ∷ es) id h =
    let same : ((nodes x.1).id == id) ≡ is_at (nat_cmp id) x.0 = ap (λ (k : ℕ). k == id) (h [] x es refl) ∙ flip_eq x.0 id ∙ sym (unsigned_tied id x.0) in
    ap (λ (t : Bool). cond t (Some (msg_of (nodes x.1))) (with_id id (msgs_at nodes es))) same ∙ by (is_at (nat_cmp id) x.0) (found_msg nodes es id (λ b e a is. h (x ∷ b) e a (ap (λ l. x ∷ l) is)))
  where
    by : (t : Bool) → with_id id (msgs_at nodes es) ≡ option_map (λ p. msg_of (nodes p)) (lookup (is_at (nat_cmp id)) es)
        → cond t (Some (msg_of (nodes x.1))) (with_id id (msgs_at nodes es)) ≡ option_map (λ p. msg_of (nodes p)) (cond t (Some x.1) (lookup (is_at (nat_cmp id)) es))
    by true more = refl
    by false more = more

-- numbers that ascend differ
without_below : (id low : ℕ) (msgs : List Msg) (next : ℕ) → id < low → AreFrom low msgs next → without_id id msgs ≡ msgs
without_below id low [] next lt h = refl
without_below id low (x ∷ msgs) next lt h =
    ap (λ (t : Bool). cond (not t) (x ∷ without_id id msgs) (without_id id msgs)) (ne_eqb x.id id (λ q. omega (arith, q, lt, h.0)))
    ∙ ap (λ l. x ∷ l) (without_below id (x.id + 1) msgs next (omega (arith, lt, h.0)) h.1)

pub at_least : (low : ℕ) (b : List Msg) (x : Msg) (a : List Msg) (next : ℕ) → AreFrom low (b ++ x ∷ a) next → low ≤ x.id
at_least low [] x a next h = h.0
at_least low (y ∷ b) x a next h = omega (arith, h.0, at_least (y.id + 1) b x a next h.1)

pub without_one : (low : ℕ) (b : List Msg) (x : Msg) (a : List Msg) (next : ℕ) → AreFrom low (b ++ x ∷ a) next → without_id x.id (b ++ x ∷ a) ≡ b ++ a
without_one low [] x a next h =
    ap (λ (t : Bool). cond (not t) (x ∷ without_id x.id a) (without_id x.id a)) (eq-eqb x.id x.id refl) ∙ without_below x.id (x.id + 1) a next (omega arith) h.1
without_one low (y ∷ b) x a next h =
    ap (λ (t : Bool). cond (not t) (y ∷ without_id x.id (b ++ x ∷ a)) (without_id x.id (b ++ x ∷ a))) (ne_eqb y.id x.id (λ q. omega (arith, q, at_least (y.id + 1) b x a next h.1)))
    ∙ ap (λ l. y ∷ l) (without_one (y.id + 1) b x a next h.1)

-- all numbers are below the next
pub below_next : (low : ℕ) (b : List Msg) (x : Msg) (a : List Msg) (next : ℕ) → AreFrom low (b ++ x ∷ a) next → x.id < next
below_next low [] x [] next h = omega (arith, h.1)
below_next low [] x (y ∷ a) next h = omega (arith, h.1.0, below_next (x.id + 1) [] y a next h.1)
below_next low (y ∷ b) x a next h = below_next (y.id + 1) b x a next h.1

true_false : true ≡ false → ⊥
true_false e = cc

pub is_it : (id k : ℕ) → is_at (nat_cmp id) k ≡ true → id ≡ k
is_it id k h = dite (ℕ_discrete id k) (λ q. q) (λ ne. absurd (true_false (sym h ∙ unsigned_tied id k ∙ ne_eqb id k ne)))

-- without the message that was found
pub left_at : (nodes : ℕ → Node) (es : List (ℕ × ℕ)) (id next p : ℕ) → AreFrom 0 (msgs_at nodes es) next → ((b : List (ℕ × ℕ)) (e : ℕ × ℕ) (a : List (ℕ × ℕ)) → es ≡ b ++ e ∷ a → (nodes e.1).id ≡ e.0)
    → (f : Found (is_at (nat_cmp id)) es p) → msgs_at nodes (f.0 ++ f.2) ≡ without_id id (msgs_at nodes es)
left_at nodes es id next p order ids f =
    let msg = λ (x : ℕ × ℕ). msg_of (nodes x.1) in
    let all : msgs_at nodes es ≡ msgs_at nodes f.0 ++ msg_of (nodes f.1.1) ∷ msgs_at nodes f.2 = ap (msgs_at nodes) f.3 ∙ map-append msg f.0 (f.1 ∷ f.2) in
    let same : (nodes f.1.1).id ≡ id = ids f.0 f.1 f.2 f.3 ∙ sym (is_it id f.1.0 f.5) in
    map-append msg f.0 f.2
    ∙ sym (without_one 0 (msgs_at nodes f.0) (msg_of (nodes f.1.1)) (msgs_at nodes f.2) next (subst (λ l. AreFrom 0 l next) all order))
    ∙ (λ j. without_id (same j) (sym all j))

-- where none has the number, all stay
pub without_none : (id : ℕ) (msgs : List Msg) → with_id id msgs ≡ None → without_id id msgs ≡ msgs
without_none id [] h = refl
without_none id (x ∷ msgs) h = by (x.id == id) h (without_none id msgs)
  where
    by : (t : Bool) → cond t (Some x) (with_id id msgs) ≡ None → (with_id id msgs ≡ None → without_id id msgs ≡ msgs) → cond (not t) (x ∷ without_id id msgs) (without_id id msgs) ≡ x ∷ msgs
    by true h more = absurd (some_none h)
      where
        some_none : Some x ≡ None → ⊥
        some_none e = cc
    by false h more = ap (λ l. x ∷ l) (more h)
