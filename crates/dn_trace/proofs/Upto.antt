-- What was said up to a place.
use Rattle.std.proofs.Common.{◌≡◌, ℕ, ◌+◌, ◌<◌, List, [], ◌∷◌, ◌++◌, length, get_or, take, refl, sym, ap, ◌∙◌, subst, arith, inl, inr}
use Rattle.std.specs.Prelude.{Contains, ◌⊎◌}
use Rattle.std.proofs.lemmas.List.{take_more, take_all}
use Rattle.std.proofs.lemmas.List.Elements.{Contains-append_left, Contains-push, Contains-push_cases}
use Rattle.dn_wire.specs.declared.ids.SignerId.{SignerId}
use Rattle.dn_record_types.specs.declared.statement.Statement.{Statement}
use Rattle.dn_seal.specs.Said.{SaidView}
use Rattle.dn_trace.specs.Trial.{Trial, Says}

-- the trial on what was said before place n
abbrev pub upto : Trial → ℕ → Trial
upto trial n = record trial { given = take n trial.given }

module _ (xs : List SaidView) (n : ℕ) (x : SaidView) (lt : n < length xs) (at : get_or xs n x ≡ x) where
  one_more : take (n + 1) xs ≡ take n xs ++ x ∷ []
  one_more = take_more xs n x lt ∙ ap (λ y. take n xs ++ y ∷ []) at

  pub said_kept : (who : SignerId) (s : Statement) → Says (take n xs) who s → Says (take (n + 1) xs) who s
  said_kept who s says = (says.0, subst (λ l. Contains l says.0) (sym one_more) (Contains-append_left (take n xs) (x ∷ []) says.0 says.1), says.2, says.3)

  pub said_new : Says (take (n + 1) xs) x.signer x.statement
  said_new = (x, subst (λ l. Contains l x) (sym one_more) (Contains-push (take n xs) x), refl, refl)

  pub said_cases : (who : SignerId) (s : Statement) → Says (take (n + 1) xs) who s → Says (take n xs) who s ⊎ ((x.signer ≡ who) × (x.statement ≡ s))
  said_cases who s says =
      elim (Contains-push_cases (take n xs) x says.0 (subst (λ l. Contains l says.0) one_more says.1)) [
        | inl before ↦ inl (says.0, before, says.2, says.3)
        | inr here ↦ inr (ap (λ y. y.signer) here ∙ says.2, ap (λ y. y.statement) here ∙ says.3)
      ]

pub upto_all : (trial : Trial) (n : ℕ) → n ≡ length trial.given → upto trial n ≡ trial
upto_all trial n e = ap (λ l. record trial { given = l }) (ap (λ k. take k trial.given) e ∙ take_all (length trial.given) trial.given (omega arith))
