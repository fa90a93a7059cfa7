-- Draws of two passes, by place.
use Rattle.std.proofs.Common.{◌≡◌, ℕ, zero, suc, ◌+◌, ◌<◌, ◌≤◌, ◌≢◌, ◌⊎◌, List, [], ◌∷◌, sym, refl, ap, subst, inl, inr, ⊎_elim, arith, cond, nat_lt, Bool, true, false, ltb-true, ltb-false}
use mathlib.Core.Option.{some, some-injective, some-ne-none}
use lib.ListN.{get_elem?}
use Rattle.dn_gate.specs.Draws.{Draw}
use Rattle.dn_gate.specs.Order.{IsMerge}
use Rattle.dn_counts.specs.Counts.{total}
use Rattle.dn_gate.specs.Rule.{insert_draw, merge_draws, Ascends}

abbrev pub Among : Draw → List Draw → Type 0
Among d ds = (j : ℕ) × (get_elem? ds j ≡ some d)

abbrev pick : Draw → Draw → List Draw → List Draw → Bool → List Draw
pick d e es rest b = cond b (d ∷ e ∷ es) (e ∷ rest)

total-pick : (g : Draw → ℕ) (d e : Draw) (es rest : List Draw) (b : Bool) → total g rest ≡ g d + total g es → total g (pick d e es rest b) ≡ g d + (g e + total g es)
total-pick g d e es rest true h = refl
total-pick g d e es rest false h = omega arith

pub total-insert : (g : Draw → ℕ) (d : Draw) (es : List Draw) → total g (insert_draw d es) ≡ g d + total g es
total-insert g d [] = refl
total-insert g d (e ∷ es) = total-pick g d e es (insert_draw d es) (nat_lt d.place e.place) (total-insert g d es)

pub total-merge : (g : Draw → ℕ) (ds es : List Draw) → total g (merge_draws ds es) ≡ total g ds + total g es
total-merge g [] es = omega arith
total-merge g (d ∷ ds) es = omega (arith, total-insert g d (merge_draws ds es), total-merge g ds es)

among-pick : (x d e : Draw) (es rest : List Draw) (b : Bool) → (Among x rest → (x ≡ d) ⊎ Among x es) → Among x (pick d e es rest b) → (x ≡ d) ⊎ Among x (e ∷ es)
among-pick x d e es rest true h (zero, a) = inl (sym (some-injective d x a))
among-pick x d e es rest true h (suc j, a) = inr (j, a)
among-pick x d e es rest false h (zero, a) = inr (0, a)
among-pick x d e es rest false h (suc j, a) = ⊎_elim (λ t. inl t) (λ t. inr (suc t.0, t.1)) (h (j, a))

pub among-insert : (x d : Draw) (es : List Draw) → Among x (insert_draw d es) → (x ≡ d) ⊎ Among x es
among-insert x d [] (zero, a) = inl (sym (some-injective d x a))
among-insert x d [] (suc j, a) = absurd (some-ne-none x (sym a))
among-insert x d (e ∷ es) t = among-pick x d e es (insert_draw d es) (nat_lt d.place e.place) (among-insert x d es) t

pub among-merge : (x : Draw) (ds es : List Draw) → Among x (merge_draws ds es) → Among x ds ⊎ Among x es
among-merge x [] es t = inr t
among-merge x (d ∷ ds) es t = ⊎_elim (λ e. inl (0, ap some (sym e))) (λ a. ⊎_elim (λ b. inl (suc b.0, b.1)) (λ b. inr b) (among-merge x ds es a)) (among-insert x d (merge_draws ds es) t)

rises-cons : (x : Draw) (ds : List Draw) → ((d : Draw) → Among d ds → x.place < d.place) → Ascends ds → Ascends (x ∷ ds)
rises-cons x ds above r zero zero d e lt a b = absurd (omega arith)
rises-cons x ds above r zero (suc k) d e lt a b = omega (arith, above e (k, b), ap (λ (q : Draw). q.place) (some-injective x d a))
rises-cons x ds above r (suc j) zero d e lt a b = absurd (omega arith)
rises-cons x ds above r (suc j) (suc k) d e lt a b = r j k d e (omega arith) a b

rises-rest : (x : Draw) (ds : List Draw) → Ascends (x ∷ ds) → Ascends ds
rises-rest x ds r j k d e lt a b = r (suc j) (suc k) d e (omega arith) a b

rises-above : (x : Draw) (ds : List Draw) → Ascends (x ∷ ds) → (d : Draw) → Among d ds → x.place < d.place
rises-above x ds r d t = r 0 (suc t.0) x d (omega arith) refl t.1

rises-pick : (d e : Draw) (es rest : List Draw) (b : Bool) → nat_lt d.place e.place ≡ b → Ascends (e ∷ es) → e.place ≢ d.place → Ascends rest → ((x : Draw) → Among x rest → (x ≡ d) ⊎ Among x es) → Ascends (pick d e es rest b)
rises-pick d e es rest true is r ne rr mem = let lt : d.place < e.place = ltb-true d.place e.place is in
    rises-cons d (e ∷ es) (λ x t. among_first x t lt) r
  where
    among_first : (x : Draw) → Among x (e ∷ es) → d.place < e.place → d.place < x.place
    among_first x (zero, a) lt = omega (arith, lt, ap (λ (q : Draw). q.place) (some-injective e x a))
    among_first x (suc j, a) lt = omega (arith, lt, rises-above e es r x (j, a))
rises-pick d e es rest false is r ne rr mem = let le : e.place ≤ d.place = ltb-false d.place e.place is in
    rises-cons e rest (λ x t. ⊎_elim (λ q. le_ne (ap (λ (y : Draw). y.place) q) le) (λ q. rises-above e es r x q) (mem x t)) rr
  where
    le_ne : {x : ℕ} → x ≡ d.place → e.place ≤ d.place → e.place < x
    le_ne {x} q le = let ne' : e.place ≢ d.place = ne in omega arith

pub rises-insert : (d : Draw) (es : List Draw) → Ascends es → ((x : Draw) → Among x es → x.place ≢ d.place) → Ascends (insert_draw d es)
rises-insert d [] r ne = rises-cons d [] (λ x t. absurd (some-ne-none x (sym t.1))) r
rises-insert d (e ∷ es) r ne = rises-pick d e es (insert_draw d es) (nat_lt d.place e.place) refl r (ne e (0, refl)) (rises-insert d es (rises-rest e es r) (λ x t. ne x (suc t.0, t.1))) (λ x t. among-insert x d es t)

pub rises-merge : (ds es : List Draw) → Ascends ds → Ascends es → ((x y : Draw) → Among x ds → Among y es → x.place ≢ y.place) → Ascends (merge_draws ds es)
rises-merge [] es r q apart = q
rises-merge (d ∷ ds) es r q apart = rises-insert d (merge_draws ds es) (rises-merge ds es (rises-rest d ds r) q (λ x y a b. apart x y (suc a.0, a.1) b))
    (λ x t. ⊎_elim (λ a. let lt = rises-above d ds r x a in λ e. absurd (omega (arith, lt, e))) (λ b e. apart d x (0, refl) b (sym e)) (among-merge x ds es t))

merge_right : (es : List Draw) → IsMerge es [] es
merge_right [] = (refl, refl)
merge_right (e ∷ es) = inr (es, refl, merge_right es)

-- the first of ds, and then the others with es
merge_insert : (d : Draw) (zs ds es : List Draw) → ((x : Draw) → Among x ds → d.place < x.place) → IsMerge zs ds es → IsMerge (insert_draw d zs) (d ∷ ds) es
merge_insert d [] ds es above h = inl (ds, refl, h)
merge_insert d (z ∷ zs) ds es above h = by (nat_lt d.place z.place) refl (λ ys'. merge_insert d zs ds ys' above)
  where
    by : (b : Bool) → nat_lt d.place z.place ≡ b → ((ys' : List Draw) → IsMerge zs ds ys' → IsMerge (insert_draw d zs) (d ∷ ds) ys') → IsMerge (pick d z zs (insert_draw d zs) b) (d ∷ ds) es
    by true is more = inl (ds, refl, h)
    by false is more = ⊎_elim
        (λ l. let lt : d.place < z.place = above z (0, ap (λ xs. get_elem? xs 0) l.1) in let le : z.place ≤ d.place = ltb-false d.place z.place is in absurd (omega arith))
        (λ r. inr (r.0, r.1, more r.0 r.2))
        h

pub merge_keeps : (ds es : List Draw) → Ascends ds → IsMerge (merge_draws ds es) ds es
merge_keeps [] es up = merge_right es
merge_keeps (d ∷ ds) es up = merge_insert d (merge_draws ds es) ds es (rises-above d ds up) (merge_keeps ds es (rises-rest d ds up))

pub merged_order : (ns ds es : List Draw) → Ascends ds → ns ≡ merge_draws ds es → IsMerge ns ds es
merged_order ns ds es up e = subst (λ xs. IsMerge xs ds es) (sym e) (merge_keeps ds es up)
