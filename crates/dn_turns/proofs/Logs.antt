-- Logs that go on from what was seen.
use Rattle.std.proofs.Common.{◌≡◌, ℕ, zero, suc, ◌+◌, ◌<◌, ◌≤◌, List, [], ◌∷◌, ◌++◌, length, sym, refl, ap, ◌∙◌, subst, ⊎_elim, arith, append_assoc, append-nil}
use mathlib.Core.Option.{some, some-ne-none}
use lib.ListN.{get_elem?}
use Rattle.atomic_table.proofs.Lists.{at_snoc}
use Rattle.dn_counts.specs.Counts.{times}
use Rattle.dn_turns.specs.Logs.{Follows, GrowsBelow}

module _ {A : Type 0} where
  head_or : A → List A → A
  head_or a [] = a
  head_or a (x ∷ xs) = x

  rest_of : List A → List A
  rest_of [] = []
  rest_of (x ∷ xs) = xs

  -- of two beginnings of one list the shorter begins the longer
  pub parts : (s r t q : List A) → s ++ r ≡ t ++ q → length s ≤ length t → (m : List A) × (t ≡ s ++ m) × (r ≡ m ++ q)
  unfolding head_or rest_of
  parts [] r t q e le = (t, refl, e)
  parts (x ∷ s) r [] q e le = absurd (omega arith)
  parts (x ∷ s) r (y ∷ t) q e le =
      let more = parts s r t q (tails e) (omega arith) in
      (more.0, (λ i. sym (heads e) i ∷ more.1 i), more.2)
    where
      heads : x ∷ (s ++ r) ≡ y ∷ (t ++ q) → x ≡ y
      heads p = ap (head_or x) p

      tails : x ∷ (s ++ r) ≡ y ∷ (t ++ q) → s ++ r ≡ t ++ q
      tails p = ap rest_of p

  pub at_after : (m q : List A) (j : ℕ) (a : A) → get_elem? q j ≡ some a → get_elem? (m ++ q) (length m + j) ≡ some a
  at_after [] q j a e = let n : j ≡ 0 + j = omega arith in subst (λ (k : ℕ). get_elem? q k ≡ some a) n e
  at_after (x ∷ m) q j a e = let n : suc (length m + j) ≡ suc (length m) + j = omega arith in subst (λ (k : ℕ). get_elem? (x ∷ m ++ q) k ≡ some a) n (at_after m q j a e)

  pub at_front : (m q : List A) (j : ℕ) (a : A) → get_elem? m j ≡ some a → get_elem? (m ++ q) j ≡ some a
  at_front [] q j a e = absurd (some-ne-none a (sym e))
  at_front (x ∷ m) q zero a e = e
  at_front (x ∷ m) q (suc j) a e = at_front m q j a e

module _ {A : Type 0} where
  pub in_range : (l : List A) (j : ℕ) (a : A) → get_elem? l j ≡ some a → j < length l
  in_range [] j a e = absurd (some-ne-none a (sym e))
  in_range (x ∷ l) zero a e = omega arith
  in_range (x ∷ l) (suc j) a e = omega (arith, in_range l j a e)

module _ {E : Type 0} where
  pub grows_none : (n : ℕ) (log : List (ℕ × E)) → GrowsBelow n log log
  grows_none n log j p le at = absurd (omega (arith, le, in_range log j p at))

  pub grows_same : (n : ℕ) (seen log : List (ℕ × E)) → log ≡ seen → GrowsBelow n seen log
  grows_same n seen log same = subst (GrowsBelow n seen) (sym same) (grows_none n seen)

  pub grows_by : (n : ℕ) (seen log : List (ℕ × E)) (e : ℕ × E) → e.0 < n → GrowsBelow n seen log → GrowsBelow n seen (log ++ e ∷ [])
  grows_by n seen log e lt h j p le at = ⊎_elim (λ t. h j p le t) (λ (t : e ≡ p). subst (λ (x : ℕ × E). x.0 < n) t lt) (at_snoc log e p j at)

  -- what was seen is the whole log
  pub whole_log : (ns : List ℕ) (log : List (ℕ × E)) → Follows ns log log
  whole_log ns log = ([], sym (append-nil log), λ j p e. absurd (some-ne-none p (sym e)))

  -- a log that goes on by an entry of another's
  pub goes_on : (ns : List ℕ) (seen log : List (ℕ × E)) (e : ℕ × E) → times e.0 ns ≡ 0 → Follows ns seen log → Follows ns seen (log ++ e ∷ [])
  goes_on ns seen log e none f = (
    f.0 ++ e ∷ [],
    ap (λ l. l ++ e ∷ []) f.1 ∙ append_assoc seen f.0 (e ∷ []),
    λ j p at. ⊎_elim (λ t. f.2 j p t) (λ (t : e ≡ p). subst (λ (x : ℕ × E). times x.0 ns ≡ 0) t none) (at_snoc f.0 e p j at),
  )

  -- of two that began one log, the longer one goes on from the shorter
  pub nearer : (ms ns : List ℕ) (s t log : List (ℕ × E)) → Follows ms s log → Follows ns t log → length s ≤ length t → Follows ms s t
  nearer ms ns s t log f g le =
      let d = parts s f.0 t g.0 (sym f.1 ∙ g.1) le in
      (d.0, d.1, λ j p e. f.2 j p (subst (λ l. get_elem? l j ≡ some p) (sym d.2) (at_front d.0 g.0 j p e)))

  -- and the log goes on from the longer by entries of neither
  pub both_follow : (ms ns os : List ℕ) (s t log : List (ℕ × E)) → ((k : ℕ) → times k os ≡ times k ms + times k ns) → Follows ms s log → Follows ns t log → length s ≤ length t → Follows os t log
  both_follow ms ns os s t log sum f g le =
      let d = parts s f.0 t g.0 (sym f.1 ∙ g.1) le in (
        g.0,
        g.1,
        λ j p e. omega (arith, sum p.0, g.2 j p e, f.2 (length d.0 + j) p (subst (λ l. get_elem? l (length d.0 + j) ≡ some p) (sym d.2) (at_after d.0 g.0 j p e))),
      )
