-- The first message of a list, and the next one.
use Rattle.std.proofs.Common.{◌≡◌, ◌≢◌, ℕ, ◌+◌, ◌<◌, ◌≤◌, ◌==◌, ◌&&◌, List, [], ◌∷◌, ◌++◌, filter, cond, nat_lt, Bool, true, false, refl, ap, ◌∙◌, sym, subst, arith, eq-eqb, ne_eqb, eqb-true, lt-ltb, le-ltb, Some, None, slice_get}
use Rattle.std.proofs.lemmas.List.{map-append}
use Rattle.std.specs.BTreeMap.{is_at}
use Rattle.std.specs.Cmp.{unsigned_tied}
use Rattle.std.specs.Map.{remove_entry}
use Rattle.std.specs.Option.{option_map}
use Rattle.std.specs.BTreeMap.Range.{range_contains}
use Rattle.std.specs.Ordering.{nat_cmp, is_lt}
use Rattle.std.specs.declared.cmp.Ordering.TheVariants.{Less, Equal, Greater}
use Rattle.std.specs.declared.ops.Bound.TheVariants.{Excluded, Unbounded}
use Rattle.dn_wire.specs.declared.ids.Member.{Member}
use Rattle.dn_nodes.specs.declared.node.Node.{Node}
use Rattle.dn_flight.specs.Arena.{none, member_number, msg_of}
use Rattle.dn_flight.specs.Chains.{has, first_of}
use Rattle.dn_flight.specs.Flight.{AreFrom, first_id, after_id, all_to}
use Rattle.dn_flight.specs.Side.{key_of}
use Rattle.dn_flight.specs.Whole.{msgs_at, cells, id_at}
use Rattle.dn_flight.specs.declared.msg.Msg.{Msg}
use Rattle.dn_flight.specs.declared.side.Side.{Side}
use Rattle.dn_flight.specs.declared.side.Side.TheVariants.{To}
use Rattle.dn_flight.proofs.Entries.{at_least}
use Rattle.dn_flight.proofs.Members.{member_test}

-- each entry is at a place
abbrev pub AreLow : List (ℕ × ℕ) → Type 0
AreLow es = (b : List (ℕ × ℕ)) (e : ℕ × ℕ) (a : List (ℕ × ℕ)) → es ≡ b ++ e ∷ a → e.1 < none

-- where the first entry with a key stands
abbrev pub FirstAt : Side → (ℕ → Node) → ℕ → List (ℕ × ℕ) → ℕ → Type 0
FirstAt side nodes key es p =
    (b : List (ℕ × ℕ)) × (e : ℕ × ℕ) × (a : List (ℕ × ℕ)) × (es ≡ b ++ e ∷ a) × (e.1 ≡ p) × (key_of side (nodes e.1) ≡ key) × (has key (cells side nodes b) ≡ false)

pub first_at : (side : Side) (nodes : ℕ → Node) (key : ℕ) (es : List (ℕ × ℕ)) (p : ℕ) → first_of key (cells side nodes es) ≡ p → p ≢ none → FirstAt side nodes key es p
first_at side nodes key [] p h ne = absurd (ne (sym h))
first_at side nodes key (y ∷ es) p h ne = by (key_of side (nodes y.1) == key) refl h (λ k. first_at side nodes key es p k ne)
  where
    by : (t : Bool) → (key_of side (nodes y.1) == key) ≡ t → cond t y.1 (first_of key (cells side nodes es)) ≡ p → (first_of key (cells side nodes es) ≡ p → FirstAt side nodes key es p) → FirstAt side nodes key (y ∷ es) p
    by true q k more = ([], y, es, refl, k, eqb-true (key_of side (nodes y.1)) key q, refl)
    by false q k more = let f = more k in (y ∷ f.0, f.1, f.2, ap (λ l. y ∷ l) f.3, f.4, f.5, ap (λ (t : Bool). cond t true (has key (cells side nodes f.0))) q ∙ f.6)

pub none_with : (side : Side) (nodes : ℕ → Node) (key : ℕ) (es : List (ℕ × ℕ)) → AreLow es → first_of key (cells side nodes es) ≡ none → has key (cells side nodes es) ≡ false
none_with side nodes key [] low h = refl
none_with side nodes key (y ∷ es) low h = by (key_of side (nodes y.1) == key) refl h (none_with side nodes key es (λ b e a is. low (y ∷ b) e a (ap (λ l. y ∷ l) is)))
  where
    by : (t : Bool) → (key_of side (nodes y.1) == key) ≡ t → cond t y.1 (first_of key (cells side nodes es)) ≡ none → (first_of key (cells side nodes es) ≡ none → has key (cells side nodes es) ≡ false) → has key (cells side nodes (y ∷ es)) ≡ false
    by true q k more = absurd (omega (arith, k, low [] y es refl))
    by false q k more = ap (λ (t : Bool). cond t true (has key (cells side nodes es))) q ∙ more k

pub first_low : (side : Side) (nodes : ℕ → Node) (key : ℕ) (es : List (ℕ × ℕ)) → AreLow es → first_of key (cells side nodes es) ≤ none
first_low side nodes key [] low = omega arith
first_low side nodes key (y ∷ es) low = by (key_of side (nodes y.1) == key) (first_low side nodes key es (λ b e a is. low (y ∷ b) e a (ap (λ l. y ∷ l) is)))
  where
    by : (t : Bool) → first_of key (cells side nodes es) ≤ none → cond t y.1 (first_of key (cells side nodes es)) ≤ none
    by true more = omega (arith, low [] y es refl)
    by false more = more

pub id_there : (nodes : ℕ → Node) (p : ℕ) → p < none → id_at nodes p ≡ Some (nodes p).id
id_there nodes p low = ap (λ (t : Bool). cond t None (Some (nodes p).id)) (ne_eqb p none (λ q. absurd (omega (arith, q, low))))

-- the first message to a member is at the first place of its list
pub first_to_member : (nodes : ℕ → Node) (m : Member) (es : List (ℕ × ℕ)) → AreLow es → id_at nodes (first_of (member_number m) (cells To nodes es)) ≡ first_id (all_to m (msgs_at nodes es))
first_to_member nodes m [] low = refl
first_to_member nodes m (y ∷ es) low =
    by (member_number (nodes y.1).to == member_number m) (first_to_member nodes m es (λ b e a is. low (y ∷ b) e a (ap (λ l. y ∷ l) is)))
    ∙ ap (λ (t : Bool). first_id (cond t (msg_of (nodes y.1) ∷ all_to m (msgs_at nodes es)) (all_to m (msgs_at nodes es)))) (sym (member_test (nodes y.1).to m))
  where
    by : (t : Bool) → id_at nodes (first_of (member_number m) (cells To nodes es)) ≡ first_id (all_to m (msgs_at nodes es))
        → id_at nodes (cond t y.1 (first_of (member_number m) (cells To nodes es))) ≡ first_id (cond t (msg_of (nodes y.1) ∷ all_to m (msgs_at nodes es)) (all_to m (msgs_at nodes es)))
    by true more = id_there nodes y.1 (low [] y es refl)
    by false more = more

-- behind a message stand those with greater numbers
all_after : (id low : ℕ) (p : Msg → Bool) (msgs : List Msg) (next : ℕ) → id < low → AreFrom low msgs next → after_id id (filter p msgs) ≡ filter p msgs
all_after id low p [] next lt h = refl
all_after id low p (x ∷ msgs) next lt h = by (p x) (all_after id (x.id + 1) p msgs next (omega (arith, lt, h.0)) h.1)
  where
    by : (t : Bool) → after_id id (filter p msgs) ≡ filter p msgs → after_id id (cond t (x ∷ filter p msgs) (filter p msgs)) ≡ cond t (x ∷ filter p msgs) (filter p msgs)
    by true more = ap (λ (t : Bool). cond t (x ∷ after_id id (filter p msgs)) (after_id id (filter p msgs))) (lt-ltb id x.id (omega (arith, lt, h.0))) ∙ ap (λ l. x ∷ l) more
    by false more = more

pub after_it : (low : ℕ) (p : Msg → Bool) (b : List Msg) (x : Msg) (a : List Msg) (next : ℕ) → AreFrom low (b ++ x ∷ a) next → after_id x.id (filter p (b ++ x ∷ a)) ≡ filter p a
after_it low p [] x a next h = by (p x) (all_after x.id (x.id + 1) p a next (omega arith) h.1)
  where
    by : (t : Bool) → after_id x.id (filter p a) ≡ filter p a → after_id x.id (cond t (x ∷ filter p a) (filter p a)) ≡ filter p a
    by true more = ap (λ (t : Bool). cond t (x ∷ after_id x.id (filter p a)) (after_id x.id (filter p a))) (le-ltb x.id x.id (omega arith)) ∙ more
    by false more = more
after_it low p (y ∷ b) x a next h = by (p y) (after_it (y.id + 1) p b x a next h.1)
  where
    by : (t : Bool) → after_id x.id (filter p (b ++ x ∷ a)) ≡ filter p a → after_id x.id (cond t (y ∷ filter p (b ++ x ∷ a)) (filter p (b ++ x ∷ a))) ≡ filter p a
    by true more = ap (λ (t : Bool). cond t (y ∷ after_id x.id (filter p (b ++ x ∷ a))) (after_id x.id (filter p (b ++ x ∷ a)))) (le-ltb x.id y.id (omega (arith, at_least (y.id + 1) b x a next h.1))) ∙ more
    by false more = more

-- the entry of a number goes, and the others stay
pub removed_at : (nodes : ℕ → Node) (b : List (ℕ × ℕ)) (e : ℕ × ℕ) (a : List (ℕ × ℕ)) (low next : ℕ)
    → ((c : List (ℕ × ℕ)) (z : ℕ × ℕ) (d : List (ℕ × ℕ)) → b ++ e ∷ a ≡ c ++ z ∷ d → (nodes z.1).id ≡ z.0)
    → AreFrom low (msgs_at nodes (b ++ e ∷ a)) next → remove_entry (is_at (nat_cmp e.0)) (b ++ e ∷ a) ≡ b ++ a
removed_at nodes [] e a low next ids h = ap (λ (t : Bool). cond t a (e ∷ remove_entry (is_at (nat_cmp e.0)) a)) (unsigned_tied e.0 e.0 ∙ eq-eqb e.0 e.0 refl)
removed_at nodes (y ∷ b) e a low next ids h =
    let msg = λ (x : ℕ × ℕ). msg_of (nodes x.1) in
    let less : (nodes y.1).id + 1 ≤ (nodes e.1).id = at_least ((nodes y.1).id + 1) (msgs_at nodes b) (msg e) (msgs_at nodes a) next (subst (λ l. AreFrom ((nodes y.1).id + 1) l next) (map-append msg b (e ∷ a)) h.1) in
    let here : (nodes y.1).id ≡ y.0 = ids [] y (b ++ e ∷ a) refl in
    let there : (nodes e.1).id ≡ e.0 = ids (y ∷ b) e a refl in
    ap (λ (t : Bool). cond t (b ++ e ∷ a) (y ∷ remove_entry (is_at (nat_cmp e.0)) (b ++ e ∷ a))) (unsigned_tied e.0 y.0 ∙ ne_eqb e.0 y.0 (λ q. absurd (omega (arith, q, less, here, there))))
    ∙ ap (λ l. y ∷ l) (removed_at nodes b e a ((nodes y.1).id + 1) next (λ c z d is. ids (y ∷ c) z d (ap (λ l. y ∷ l) is)) h.1)

-- the first entry is that of the least number
pub first_is : (nodes : ℕ → Node) (es : List (ℕ × ℕ)) (e : ℕ × ℕ)
    → ((b : List (ℕ × ℕ)) (z : ℕ × ℕ) (a : List (ℕ × ℕ)) → es ≡ b ++ z ∷ a → (nodes z.1).id ≡ z.0)
    → slice_get es 0 ≡ Some e → Some e.0 ≡ first_id (msgs_at nodes es)
first_is nodes [] e ids h = absurd (none_some h)
  where
    none_some : None ≡ Some e → ⊥
    none_some q = cc
first_is nodes (z ∷ es) e ids h = ap (λ (k : ℕ). Some k) (sym (ap (λ (x : ℕ × ℕ). x.0) (some_one h)) ∙ sym (ids [] z es refl))
  where
    some_one : Some z ≡ Some e → z ≡ e
    some_one q = cc

-- the first entry above a number, likewise
pub first_above : (nodes : ℕ → Node) (id : ℕ) (test : ℕ → Bool) (es : List (ℕ × ℕ)) → ((k : ℕ) → test k ≡ nat_lt id k)
    → ((b : List (ℕ × ℕ)) (z : ℕ × ℕ) (a : List (ℕ × ℕ)) → es ≡ b ++ z ∷ a → (nodes z.1).id ≡ z.0)
    → option_map (λ (e : ℕ × ℕ). e.0) (slice_get (filter (λ (e : ℕ × ℕ). test e.0) es) 0) ≡ first_id (after_id id (msgs_at nodes es))
first_above nodes id test [] same ids = refl
first_above nodes id test (z ∷ es) same ids =
    let here : test z.0 ≡ nat_lt id (nodes z.1).id = same z.0 ∙ ap (nat_lt id) (sym (ids [] z es refl)) in
    by (test z.0) (first_above nodes id test es same (λ b e a is. ids (z ∷ b) e a (ap (λ l. z ∷ l) is)))
    ∙ ap (λ (t : Bool). first_id (cond t (msg_of (nodes z.1) ∷ after_id id (msgs_at nodes es)) (after_id id (msgs_at nodes es)))) here
  where
    by : (t : Bool) → option_map (λ (e : ℕ × ℕ). e.0) (slice_get (filter (λ (e : ℕ × ℕ). test e.0) es) 0) ≡ first_id (after_id id (msgs_at nodes es))
        → option_map (λ (e : ℕ × ℕ). e.0) (slice_get (cond t (z ∷ filter (λ (e : ℕ × ℕ). test e.0) es) (filter (λ (e : ℕ × ℕ). test e.0) es)) 0) ≡ first_id (cond t (msg_of (nodes z.1) ∷ after_id id (msgs_at nodes es)) (after_id id (msgs_at nodes es)))
    by true more = ap (λ (k : ℕ). Some k) (sym (ids [] z es refl))
    by false more = more

-- what a range above a number asks of a key
pub above_test : (id k : ℕ) → range_contains nat_cmp (Excluded id) Unbounded k ≡ nat_lt id k
above_test id k = by (nat_lt id k) (id == k)
  where
    by : (t u : Bool) → (is_lt (cond t Less (cond u Equal Greater)) && true) ≡ t
    by true true = refl
    by true false = refl
    by false true = refl
    by false false = refl
