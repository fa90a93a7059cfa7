-- The servers but one.
use Rattle.std.proofs.Common.{◌≡◌, ◌≢◌, ℕ, ◌+◌, false, List, [], ◌∷◌, ◌++◌, map, cond, refl, ap, ◌∙◌}
use Rattle.std.specs.Prelude.{filter, not, ◌==◌}
use Rattle.std.proofs.lemmas.Bool.{eq-eqb}
use Rattle.std.proofs.lemmas.Bool.Decides.{eqb_tells}
use Rattle.std.proofs.lemmas.List.{map-append}
use Rattle.std.proofs.lemmas.List.Elements.{filter-append}
use Rattle.std.proofs.Common.{inl, inr}
use Rattle.dn_bits.specs.Bits.{below}
use Rattle.dn_bits.proofs.SumLemmas.{below_more}
use Rattle.dn_server.specs.Server.{server_member}

append_nil : (xs : List ℕ) → xs ++ [] ≡ xs
append_nil [] = refl
append_nil (x ∷ xs) = ap (λ l. x ∷ l) (append_nil xs)

abbrev pub but_one : ℕ → ℕ → List ℕ
but_one own n = filter (λ j. not (j == own)) (below n)

one_more : (own i : ℕ) → but_one own (i + 1) ≡ but_one own i ++ cond (not (i == own)) (i ∷ []) []
one_more own i = ap (filter (λ j. not (j == own))) (below_more i) ∙ filter-append (λ j. not (j == own)) (below i) (i ∷ [])

pub others_skip : (own i : ℕ) → i ≡ own → map server_member (but_one own (i + 1)) ≡ map server_member (but_one own i)
others_skip own i e =
    ap (map server_member) (one_more own i ∙ ap (λ b. but_one own i ++ cond (not b) (i ∷ []) []) (eq-eqb i own e) ∙ append_nil (but_one own i))

pub differs : (i own : ℕ) → i ≢ own → (i == own) ≡ false
differs i own n = elim (eqb_tells i own) [ inl same ↦ absurd (n same.1) | inr other ↦ other.0 ]

pub others_take : (own i : ℕ) → i ≢ own → map server_member (but_one own (i + 1)) ≡ map server_member (but_one own i) ++ server_member i ∷ []
others_take own i n =
    ap (map server_member) (one_more own i ∙ ap (λ b. but_one own i ++ cond (not b) (i ∷ []) []) (differs i own n))
    ∙ map-append server_member (but_one own i) (i ∷ [])
