-- What `collect` gives.
use Rattle.std.specs.Prelude.{◌≡◌, ◌⊎◌, ℕ, List, [], ◌∷◌, ◌++◌, length, map}
use Rattle.std.specs.List.{range_with_len}
use Rattle.dn_counts.specs.Counts.{total}
use Rattle.dn_gate.specs.Rule.{At, view, is_mark, took, puts, IsOnly}
use Rattle.dn_gate.specs.Pass.{PassView}
use Rattle.dn_gate.specs.declared.view.View.{View}
use Rattle.dn_wire.specs.declared.ids.ClientId.{ClientId}

module _ {T : Type 0} where
  abbrev pub named : ℕ × T → ClientId × T
  named p = (record { 0 = p.0 }, p.1)

  abbrev pub clients_of : List (ClientId × T) → List ℕ
  clients_of = map (λ p. p.0.0)

  -- between the two the pass looked at each client's word once, in their order, and what it found is so
  abbrev pub LookedAt : PassView T → PassView T → (List (ℕ × ℕ) → Type 0) → Type 0
  LookedAt p q So = (found : List (ℕ × ℕ)) × (q.looked ≡ p.looked ++ found) × (map (λ w. w.0) found ≡ range_with_len 0 p.gate.clients) × So found

  -- after the values of these clients were taken
  abbrev pub took_all : View T → List ℕ → View T
  took_all v cs = view v.passes v.clients v.before v.numbers v.claim v.unmarked v.draws v.values v.repeats v.closing v.looked (v.taken ++ cs) v.right v.refused v.closings

  abbrev pub KnowsPuts : View T → ℕ → ℕ → Type 0
  KnowsPuts v i n = length v.numbers ≡ v.passes → puts i v ≡ n

  -- the word of client i wasn't marked, also not before, or its value was taken and put behind the others
  abbrev pub IsLeftOrTaken : View T → ℕ → At T → List (ClientId × T) → List (ClientId × T) → Type 0
  IsLeftOrTaken v i m xs ys =
      ((m ≡ (v, [])) × (ys ≡ xs) × KnowsPuts v i 0 × (total (is_mark i) v.looked ≡ 0)) ⊎ ((x : T) × (m ≡ (took v i, [])) × (ys ≡ xs ++ named (i, x) ∷ []) × IsOnly v i x × KnowsPuts v i 1)
