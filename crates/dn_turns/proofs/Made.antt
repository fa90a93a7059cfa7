-- The passes that `make` gives.
use Rattle.std.proofs.Common.{◌≡◌, ℕ, zero, suc, ◌+◌, ◌-◌, ◌<◌, List, [], ◌∷◌, ◌++◌, length, refl, sym, ap, ◌∙◌, subst, arith, Option, Some, None, IfSome, All, slice_get}
use Rattle.atomic_table.specs.Table.{Me, Splits, opening}
use Rattle.dn_counts.specs.Numbers.{range}
use Rattle.dn_turns.specs.Rule.{view, first_view, without_first, of_first, IsKept}
use Rattle.dn_turns.specs.Turns.{IsPass, IsFresh, LockId, PassView, pass_view}
use Rattle.atomic_table.specs.Seated.{TableId}
use Rattle.dn_turns.specs.declared.view.View.{View}
use Rattle.dn_turns.proofs.Keeps.{starts, cuts}
use Rattle.dn_counts.proofs.Numbered.{range_two, first_of-range, rest_of-range}

pub all_of : {A : Type 0} (Q : A → Type 0) (xs : List A) → ((i : ℕ) → IfSome (slice_get xs i) Q) → All Q xs
all_of Q [] h k d lt = absurd (omega arith)
all_of Q (x ∷ xs) h zero d lt = h zero
all_of Q (x ∷ xs) h (suc k) d lt = all_of Q xs (λ i. h (suc i)) k d (omega arith)

-- each pass that was made may be used
pub all_ready : {E B : Type 0} (lock : LockId) (b : B) (log : List (ℕ × E)) (xs : List (PassView E B)) → ((i : ℕ) → IfSome (slice_get xs i) (IsFresh lock b log i)) → All (λ p. (p.lock ≡ lock) × (p.turn ≡ None)) xs
all_ready {E} {B} lock b log xs h = all_of (λ p. (p.lock ≡ lock) × (p.turn ≡ None)) xs (λ i. at i (slice_get xs i) (h i))
  where
    at : (i : ℕ) (o : Option (PassView E B)) → IfSome o (IsFresh lock b log i) → IfSome o (λ p. (p.lock ≡ lock) × (p.turn ≡ None))
    at i None t = tt
    at i (Some p) t = (t.lock_is, t.turn)

module _ {E B L : Type 0} (list : L → List (ℕ × E)) (base_of : L → B) where
  abbrev At : Type 0
  At = Me (Option L) (View E B)

  pub starts_at : (p : ℕ) (l v : L) (slots : List (Option L)) → slots ≡ Some l ∷ [] → v ≡ l → IsKept list base_of p (opening (0 ∷ 0 ∷ []) slots (first_view p (base_of v) (list v)))
  starts_at p l v slots e d = subst (λ (q : List (Option L) × L). IsKept list base_of p (opening (0 ∷ 0 ∷ []) q.0 (first_view p (base_of q.1) (list q.1)))) (λ i. (sym e i, sym d i)) (starts list base_of p l)

  pub cuts_at : (p id passes n k : ℕ) (b : B) (log : List (ℕ × E)) (m : At) → m ≡ (view passes (Some b) (range n k) 0 None None log None [], []) → 1 < k
      → Splits (IsKept list base_of p) id m.0 (without_first m.0) (of_first m.0)
  cuts_at p id passes n k b log m e h =
      cuts list base_of p id m.0 n (n + 1) (range (n + 1 + 1) (k - 2)) (ap (λ (x : At). x.0.numbers) e ∙ range_two n k h) (ap (λ (x : At). x.0.drawn) e) (ap (λ (x : At). x.0.ticket) e) (ap (λ (x : At). x.0.turn) e) (ap (λ (x : At). x.0.full) e) (ap (λ (x : At). x.0.met) e)

  pub made_pass : (passes n : ℕ) (b : B) (log : List (ℕ × E)) (m : At) → m ≡ (view passes (Some b) (n ∷ []) 0 None None log None [], []) → IsPass list base_of m n None
  made_pass passes n b log m e = record {
    live = omega (arith, ap (λ (x : At). length x.0.numbers) e);
    least = sym (ap (λ (x : At). Rattle.dn_counts.specs.Numbers.least x.0.numbers) e);
    same = sym (ap (λ (x : At). x.0.full) e);
    past = tt;
    settled = ap (λ (x : At). x.0.met) e;
    out = λ _. (ap (λ (x : At). x.1) e, ap (λ (x : At). x.0.ticket) e);
    lent = λ g turned. absurd (off (sym turned ∙ ap (λ (x : At). x.0.turn) e));
  }
    where
      off : {g : List (ℕ × E)} → Some g ≡ None → ⊥
      off q = cc

  pub made_fresh : (table own : TableId) (id passes n : ℕ) (b : B) (log : List (ℕ × E)) (m : At) → own ≡ table → m ≡ (view passes (Some b) (n ∷ []) 0 None None log None [], []) → IsFresh record { table = table; passes = passes } b log n (pass_view own id m.0)
  made_fresh table own id passes n b log m t e = record {
    lock_is = λ i. record { table = t i; passes = (e i).0.passes };
    base_is = ap (λ (x : At). x.0.base) e;
    numbers = ap (λ (x : At). x.0.numbers) e;
    drawn = ap (λ (x : At). x.0.drawn) e;
    turn = ap (λ (x : At). x.0.turn) e;
    seen = ap (λ (x : At). x.0.seen) e;
    full = ap (λ (x : At). x.0.full) e;
  }

  pub first_cut : (passes n k : ℕ) (b : B) (log : List (ℕ × E)) (m n' : At) → 0 < k → m ≡ (view passes (Some b) (range n k) 0 None None log None [], []) → n' ≡ (of_first m.0, []) → n' ≡ (view passes (Some b) (n ∷ []) 0 None None log None [], [])
  first_cut passes n k b log m n' h e d = d ∙ ap (λ (x : At). (of_first x.0, [])) e ∙ ap (λ ns. (view passes (Some b) ns 0 None None log None [], [])) (first_of-range n k h)

  pub rest_cut : (passes n k j : ℕ) (b : B) (log : List (ℕ × E)) (m n' : At) → 0 < k → k - 1 ≡ j → m ≡ (view passes (Some b) (range n k) 0 None None log None [], []) → n' ≡ (without_first m.0, m.1) → n' ≡ (view passes (Some b) (range (n + 1) j) 0 None None log None [], [])
  rest_cut passes n k j b log m n' h is e d = d ∙ ap (λ (x : At). (without_first x.0, x.1)) e ∙ ap (λ ns. (view passes (Some b) ns 0 None None log None [], [])) (rest_of-range n k h ∙ ap (range (n + 1)) is)
