-- Pad bits that a server signed, among what was given and what was carried.
use Rattle.std.proofs.Common.{◌≡◌, ℕ, Bool, List, Option, Some, None, sym, ◌∙◌, subst, inl, inr}
use Rattle.std.specs.Prelude.{MatchOption, Contains}
use Rattle.std.proofs.lemmas.List.Elements.{All-contains}
use Rattle.dn_wire.specs.declared.ids.Round.{Round}
use Rattle.dn_record_types.specs.declared.statement.Statement.TheVariants as kinds
use Rattle.dn_seal.specs.Dealt.{server}
use Rattle.dn_seal.specs.Said.{SaidView}
use Rattle.dn_trace.specs.Trial.{Trial, Says, IsCarried, round_of}
use Rattle.dn_trace.specs.Reasons.{Signed}
use Rattle.dn_trace.specs.Evidence.{AreCarried}

pub match_both : {A : Type 0} (o : Option A) (P R : Type 0) (Q S : A → Type 0) → (P → R) → ((x : A) → Q x → S x) → MatchOption o P Q → MatchOption o R S
match_both None P R Q S f g h = f h
match_both (Some x) P R Q S f g h = g x h

module _ (trial : Trial) (carried : List SaidView) (are : AreCarried trial carried) (j : ℕ) where
  pub signed_nowhere : ((pad : List Bool) → ¬ Says trial.given (server j) (kinds.PadBits (round_of trial) trial.k pad))
      → ((pad : List Bool) → ¬ Says carried (server j) (kinds.PadBits (round_of trial) trial.k pad)) → (pad : List Bool) → ¬ Signed trial j pad
  signed_nowhere not_given not_carried pad (inl given) = not_given pad given
  signed_nowhere not_given not_carried pad (inr (inl in_rebuttal)) = not_carried pad (are.whole (server j) pad in_rebuttal)
  signed_nowhere not_given not_carried pad (inr (inr entered)) = let e = entered.client in absurd cc

  pub signed_carried : (pad : List Bool) → Says carried (server j) (kinds.PadBits (round_of trial) trial.k pad) → Signed trial j pad
  signed_carried pad says =
      let is = All-contains (λ y. IsCarried trial y.signer y.statement) carried says.0 are.each says.1 in
      inr (inl (subst (λ w. IsCarried trial w (kinds.PadBits (round_of trial) trial.k pad)) says.2 (subst (IsCarried trial says.0.signer) says.3 is)))

-- what was said, at the round and place of a trial
pub says_here : (trial : Trial) (xs ys : List SaidView) (j : ℕ) (r : Round) (k : ℕ) (pad : List Bool) → xs ≡ ys → r ≡ round_of trial → k ≡ trial.k
    → Says xs (server j) (kinds.PadBits r k pad) → Says ys (server j) (kinds.PadBits (round_of trial) trial.k pad)
says_here trial xs ys j r k pad e f g =
    λ says. (says.0, subst (λ l. Contains l says.0) e says.1, says.2, says.3 ∙ (λ i. kinds.PadBits (f i) (g i) pad))

pub says_there : (trial : Trial) (ys xs : List SaidView) (j : ℕ) (r : Round) (k : ℕ) (pad : List Bool) → ys ≡ xs → r ≡ round_of trial → k ≡ trial.k
    → Says ys (server j) (kinds.PadBits (round_of trial) trial.k pad) → Says xs (server j) (kinds.PadBits r k pad)
says_there trial ys xs j r k pad e f g =
    λ says. (says.0, subst (λ l. Contains l says.0) e says.1, says.2, says.3 ∙ (λ i. kinds.PadBits (sym f i) (sym g i) pad))
