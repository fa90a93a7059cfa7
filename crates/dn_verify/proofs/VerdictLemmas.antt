-- Accusations that were heard, and the trials on them.
use Rattle.std.proofs.Common.{◌≡◌, ℕ, ◌+◌, ◌<◌, false, List, get_or, take, length, refl, sym, ap, subst, ◌∙◌, arith, inl, inr}
use Rattle.std.specs.Prelude.{Contains, Option, Some, None, Result, Ok, Err, MatchOption, IfErr}
use Rattle.std.proofs.lemmas.Bool.{false≢true}
use Rattle.std.proofs.lemmas.List.{take_more}
use Rattle.std.proofs.lemmas.List.Elements.{Contains-push_cases}
use Rattle.dn_wire.specs.declared.ids.Round.{Round}
use Rattle.dn_wire.specs.declared.ids.SlotId.{SlotId}
use Rattle.dn_wire.specs.declared.ids.SignerId.{SignerId}
use Rattle.dn_bits.specs.Bits.{bit}
use Rattle.dn_record_types.specs.declared.body.Body.{Body}
use Rattle.dn_record_types.specs.declared.statement.Statement.{Statement}
use Rattle.dn_record_types.specs.declared.statement.Statement.TheVariants.{Accusation}
use Rattle.dn_layout.specs.Layout.{bits_of}
use Rattle.dn_layout.proofs.RangeLemmas.{range_within}
use Rattle.dn_roster.specs.Roster.{RosterView}
use Rattle.dn_seal.specs.Said.{SaidView}
use Rattle.dn_cert.specs.declared.rules.Valid.{Valid}
use Rattle.dn_cert.specs.declared.rules.Invalid.{Invalid}
use Rattle.dn_cert.specs.declared.rules.Invalid.TheVariants.{Key, Place, Zero}
use Rattle.dn_cert.specs.Chain.{ChainView, bodies, IsLayoutAfter, IsChain}
use Rattle.dn_cert.specs.Evidence.{IsInSlot, IsValid, IsInvalid}
use Rattle.dn_cert.proofs.ChainLemmas.{one_body, layout_is_one_lem}
use Rattle.dn_trace.specs.Trial.{Trial}
use Rattle.dn_trace.specs.Verdict.{IsVerdict}
use Rattle.dn_trace.specs.declared.judging.Verdict.{Verdict}
use Rattle.dn_verify.specs.Verdicts.{IsAccused, IsTrialOn, IsTrialIn, IsJudgedSo, verdict_lines}
use Rattle.dn_verify.specs.Verdicts.IsJudgedSo.{judged}

module _ (layout : List ℕ) (b : Body) where
  same_slot : (s : Statement) (slot slot' : SlotId) (k k' : ℕ) → s ≡ Accusation b.r slot k → s ≡ Accusation b.r slot' k' → slot ≡ slot'
  same_slot s slot slot' k k' one other = cc

  same_place : (s : Statement) (slot slot' : SlotId) (k k' : ℕ) → s ≡ Accusation b.r slot k → s ≡ Accusation b.r slot' k' → k ≡ k'
  same_place s slot slot' k k' one other = cc

  -- an accusation that doesn't hold doesn't
  pub not_valid : (who : SignerId) (s : Statement) (fault : Invalid) (v : Valid) → IsInvalid layout b who s fault → IsValid layout b who s v → ⊥
  not_valid who s Key v is valid = is v.slot v.k valid.by_slot
  not_valid who s Place v (slot, k, by, outside) valid =
      let slots = same_slot s slot v.slot k v.k by.1 valid.by_slot.1 in
      let places = same_place s slot v.slot k v.k by.1 valid.by_slot.1 in
      outside (subst (λ x. IsInSlot layout x k) (ap (λ x. x.0) (sym slots)) (subst (λ x. IsInSlot layout v.slot.0 x) (sym places) valid.place))
  not_valid who s Zero v (slot, k, by, inside, inl thin) valid = false≢true (sym valid.full ∙ thin)
  not_valid who s Zero v (slot, k, by, inside, inr zero) valid =
      let places = same_place s slot v.slot k v.k by.1 valid.by_slot.1 in
      false≢true (sym zero ∙ ap (bit b.out) places ∙ valid.one)

  pub invalid_result : (who : SignerId) (s : Statement) (result : Result Valid Invalid) → IfErr result (IsInvalid layout b who s)
      → ((v : Valid) → result ≡ Ok v → ⊥) → (v : Valid) → IsValid layout b who s v → ⊥
  invalid_result who s (Ok x) told not_ok v valid = not_ok x refl
  invalid_result who s (Err fault) told not_ok v valid = not_valid who s fault v told valid

  -- an accusation that holds is of a place within the round
  pub valid_within : (who : SignerId) (s : Statement) (v : Valid) → IsValid layout b who s v → v.k < bits_of layout
  valid_within who s v valid =
      let within = range_within layout v.slot.0 valid.place.0 valid.place.1 valid.place.2 in
      omega (arith, within.2, valid.place.4)

  module _ (k : ℕ) (heard : List SaidView) where
    -- nothing that was heard so far accuses, and what is heard next doesn't either
    pub accused_more : (i : ℕ) (said : SaidView) → i < length heard → said ≡ get_or heard i said → (¬ IsAccused layout b k (take i heard))
        → ((v : Valid) → IsValid layout b said.signer said.statement v → v.k ≡ k → ⊥) → ¬ IsAccused layout b k (take (i + 1) heard)
    accused_more i said within at before here is =
        elim (Contains-push_cases (take i heard) (get_or heard i said) is.said (subst (λ xs. Contains xs is.said) (take_more heard i said within) is.among)) [
          | inl earlier ↦ before (record { said = is.said; among = earlier; v = is.v; valid = is.valid; place = is.place })
          | inr last ↦ here is.v (subst (λ (x : SaidView). IsValid layout b x.signer x.statement is.v) (sym (at ∙ last)) is.valid) is.place
        ]

-- the trials on a round are those on its body
module _ (roster : RosterView) (chain : ChainView) (heard : List SaidView) (r : Round) (k : ℕ) (chained : IsChain chain) where
  pub trial_here : (b : Body) (layout : List ℕ) (trial : Trial) → Contains (bodies chain) b → b.r ≡ r → IsLayoutAfter chain b.prev.0 layout
      → IsTrialOn roster b layout k heard trial → IsTrialIn roster chain heard r k trial
  trial_here b layout trial there at after on =
      subst (IsTrialIn roster chain heard r k) (sym on.is)
      (record { held = there; round = at; after = after; on = record { is = refl; fits = on.fits; accused = on.accused } })

  pub trial_there : (b : Body) (layout : List ℕ) (trial : Trial) → Contains (bodies chain) b → b.r ≡ r → IsLayoutAfter chain b.prev.0 layout
      → IsTrialIn roster chain heard r k trial → IsTrialOn roster b layout k heard trial
  trial_there b layout trial there at after is =
      let one : trial.body ≡ b = one_body chain chained trial.body b is.held there (ap (λ (x : Round). x.0) (is.round ∙ sym at)) in
      let same : trial.layout ≡ layout =
      layout_is_one_lem chain b.prev.0 trial.layout layout chained (subst (λ (x : Body). IsLayoutAfter chain x.prev.0 trial.layout) one is.after) after in
      subst (λ x. IsTrialOn roster x layout k heard trial) one (subst (λ l. IsTrialOn roster trial.body l k heard trial) same is.on)

  -- what is found on the round's body is found on the round
  module _ (b : Body) (layout : List ℕ) (there : Contains (bodies chain) b) (at : b.r ≡ r) (after : IsLayoutAfter chain b.prev.0 layout) where
    pub found_in : (found : Option Verdict)
        → MatchOption found ((trial : Trial) → ¬ IsTrialOn roster b layout k heard trial) (λ v. (trial : Trial) × IsTrialOn roster b layout k heard trial × IsVerdict trial v.blamed v.silent)
        → MatchOption found ((trial : Trial) → ¬ IsTrialIn roster chain heard r k trial) (λ v. (trial : Trial) × IsTrialIn roster chain heard r k trial × IsVerdict trial v.blamed v.silent)
    found_in None none = λ trial is. none trial (trial_there b layout trial there at after is)
    found_in (Some v) (trial, on, verdict) = (trial, trial_here b layout trial there at after on, verdict)

-- what is found is told
pub judged_so : (roster : RosterView) (chain : ChainView) (heard : List SaidView) (r : Round) (k : ℕ) (found : Option Verdict) (v : Verdict) → found ≡ Some v
    → MatchOption found ((trial : Trial) → ¬ IsTrialIn roster chain heard r k trial) (λ v. (trial : Trial) × IsTrialIn roster chain heard r k trial × IsVerdict trial v.blamed v.silent)
    → IsJudgedSo roster chain heard r k (verdict_lines v.blamed v.silent)
judged_so roster chain heard r k found v is told =
    let at : (trial : Trial) × IsTrialIn roster chain heard r k trial × IsVerdict trial v.blamed v.silent =
    subst (λ o. MatchOption o ((trial : Trial) → ¬ IsTrialIn roster chain heard r k trial) (λ v. (trial : Trial) × IsTrialIn roster chain heard r k trial × IsVerdict trial v.blamed v.silent)) is told in
    judged at.0 v.blamed v.silent at.1 at.2 refl
