-- The words and the passes that `make` gives.
use Rattle.std.proofs.Common.{◌≡◌, ℕ, zero, suc, ◌+◌, ◌-◌, ◌<◌, ◌≢◌, List, [], ◌∷◌, ◌++◌, length, get_or, set, refl, sym, ap, ◌∙◌, subst, arith, None, IfSome, slice_get, cond, nat_lt, lt-ltb, get_or-set_same, get_or-set_other}
use mathlib.Core.Logic.{dite}
use mathlib.Core.Option.{some-ne-none}
use lib.ListN.{get_elem?}
use native.Mathlib.Decide.{ℕ_discrete}
use Rattle.atomic_table.specs.Table.{Splits}
use Rattle.dn_counts.specs.Numbers.{range}
use Rattle.dn_counts.specs.Counts.{times}
use Rattle.dn_gate.specs.Rule.{At, view, without_first, of_first, IsKept, has_closing, was}
use Rattle.dn_gate.specs.Pass.{GateId, PassView, pass_view, IsPass, IsFresh, IsNew}
use Rattle.atomic_table.specs.Seated.{TableId}
use Rattle.dn_gate.specs.declared.view.View.{View}
use Rattle.dn_counts.proofs.Sums.{times-append, hit, miss}
use Rattle.dn_counts.proofs.Numbered.{range_two, first_of-range, rest_of-range}
use Rattle.dn_gate.proofs.Joins.{cuts}

-- one client more that was there before
pub was_more : (xs : List ℕ) (c i : ℕ) → i ≢ c → was (xs ++ c ∷ []) i ≡ was xs i
was_more xs c i ne = let e : times i (xs ++ c ∷ []) ≡ times i xs = omega (arith, times-append i xs (c ∷ []), miss c i (λ q. ne (sym q))) in ap (λ (k : ℕ). cond {A = ℕ} (nat_lt 0 k) 1 0) e

pub was_it : (xs : List ℕ) (c : ℕ) → was (xs ++ c ∷ []) c ≡ 1
was_it xs c = ap (λ b. cond {A = ℕ} b 1 0) (lt-ltb 0 (times c (xs ++ c ∷ [])) (omega (arith, times-append c xs (c ∷ []), hit c c refl)))

-- the words after it
pub word_more : (ws xs ys : List ℕ) (n c : ℕ) → length ws ≡ n + 1 → c < n → ys ≡ xs ++ c ∷ [] → ((i : ℕ) → i < n → get_or ws (i + 1) 0 ≡ was xs i) → (i : ℕ) → i < n → get_or (set ws (c + 1) 1) (i + 1) 0 ≡ was ys i
word_more ws xs ys n c long inside e h i lt = dite (ℕ_discrete i c)
    (λ q. ap (λ (k : ℕ). get_or (set ws (c + 1) 1) (k + 1) 0) q ∙ get_or-set_same ws (c + 1) 1 0 (omega arith) ∙ sym (was_it xs c) ∙ ap (λ l. was l c) (sym e) ∙ ap (was ys) (sym q))
    (λ ne. get_or-set_other ws (c + 1) (i + 1) 1 0 (λ q. ne (omega arith)) ∙ h i lt ∙ sym (was_more xs c i ne) ∙ ap (λ l. was l i) (sym e))

pub all_at : {A : Type 0} (P : ℕ → A → Type 0) (Q : A → Type 0) → ((i : ℕ) (a : A) → P i a → Q a) → (xs : List A) → ((i : ℕ) → IfSome (slice_get xs i) (P i)) → (k : ℕ) (d : A) → k < length xs → Q (get_or xs k d)
all_at P Q f [] h k d lt = absurd (omega arith)
all_at P Q f (x ∷ xs) h zero d lt = f 0 x (h 0)
all_at P Q f (x ∷ xs) h (suc k) d lt = all_at (λ i. P (suc i)) Q (λ i. f (suc i)) xs (λ i. h (suc i)) k d (omega arith)

module _ {T : Type 0} where
  pub new_of : (gate : GateId) (i : ℕ) (p : PassView T) → IsFresh gate i p → IsNew gate p
  new_of gate i p f = (f.gate_is, (f.nothing.4, f.nothing.5), f.nothing.3)

  -- a view that has done nothing
  abbrev pub idle_view : ℕ → ℕ → List ℕ → List ℕ → View T
  idle_view passes clients before numbers = view passes clients before numbers None None [] [] [] None [] [] 0 [] 0

  pub cuts_at : (clients p : ℕ) (b : List ℕ) (id passes n k c : ℕ) (d : List ℕ) (m : At T) → m ≡ (idle_view passes c d (range n k), []) → 1 < k
      → Splits (IsKept {T = T} clients p b) id m.0 (without_first m.0) (of_first m.0)
  cuts_at clients p b id passes n k c d m e h =
      cuts T clients p b id m.0 n (n + 1) (range (n + 1 + 1) (k - 2)) (ap (λ (x : At T). x.0.numbers) e ∙ range_two n k h) (ap (λ (x : At T). x.0.claim) e) (ap (λ (x : At T). x.0.unmarked) e) (ap (λ (x : At T). x.0.draws) e) (ap (λ (x : At T). x.0.values) e) (ap (λ (x : At T). x.0.repeats) e) (ap (λ (x : At T). x.0.closing) e) (ap (λ (x : At T). x.0.taken) e)

  pub made_pass : (passes clients n : ℕ) (b : List ℕ) (m : At T) → m ≡ (idle_view passes clients b (n ∷ []), []) → IsPass m n
  made_pass passes clients n b m e = record {
    live = omega (arith, ap (λ (x : At T). length x.0.numbers) e);
    least_is = sym (ap (λ (x : At T). Rattle.dn_counts.specs.Numbers.least x.0.numbers) e);
    empty = λ _. ap (λ (x : At T). x.1) e;
    ascends = λ i j x y lt a b. absurd (some-ne-none x (sym a ∙ ap (λ (q : At T). get_elem? q.0.draws i) e));
    made = ap (λ (x : At T). x.0.closings) e ∙ sym (ap (λ (x : At T). has_closing x.0) e);
  }

  pub made_fresh : (table own : TableId) (id passes clients n : ℕ) (b : List ℕ) (m : At T) → own ≡ table → m ≡ (idle_view passes clients b (n ∷ []), []) → IsFresh record { table = table; clients = clients; passes = passes; before = b } n (pass_view own id m)
  made_fresh table own id passes clients n b m t e = record {
    gate_is = λ i. record { table = t i; clients = (e i).0.clients; passes = (e i).0.passes; before = (e i).0.before };
    numbers = ap (λ (x : At T). x.0.numbers) e;
    nothing = (ap (λ (x : At T). x.0.draws) e, ap (λ (x : At T). x.0.values) e, ap (λ (x : At T). x.0.repeats) e, ap (λ (x : At T). x.0.closing) e, ap (λ (x : At T). x.0.claim) e, ap (λ (x : At T). x.0.unmarked) e, ap (λ (x : At T). x.0.looked) e, ap (λ (x : At T). x.0.taken) e, ap (λ (x : At T). x.0.refused) e);
  }

  pub first_cut : (passes clients n k : ℕ) (b : List ℕ) (m n' : At T) → 0 < k → m ≡ (idle_view passes clients b (range n k), []) → n' ≡ (of_first m.0, []) → n' ≡ (idle_view passes clients b (n ∷ []), [])
  first_cut passes clients n k b m n' h e d = d ∙ ap (λ (x : At T). (of_first x.0, [])) e ∙ ap (λ ns. (idle_view passes clients b ns, [])) (first_of-range n k h)

  pub rest_cut : (passes clients n k j : ℕ) (b : List ℕ) (m n' : At T) → 0 < k → k - 1 ≡ j → m ≡ (idle_view passes clients b (range n k), []) → n' ≡ (without_first m.0, m.1) → n' ≡ (idle_view passes clients b (range (n + 1) j), [])
  rest_cut passes clients n k j b m n' h is e d = d ∙ ap (λ (x : At T). (without_first x.0, x.1)) e ∙ ap (λ ns. (idle_view passes clients b ns, [])) (rest_of-range n k h ∙ ap (range (n + 1)) is)
