-- What a server holds stays, and it holds more only where it certifies a round or takes a certificate.
use Rattle.std.proofs.Common.{◌≡◌, ℕ, Bool, false, List, [], ◌∷◌, refl, sym, ap, subst, ◌∙◌, arith, inl, inr}
use Rattle.std.specs.Prelude.{◌⊎◌, Contains}
use Rattle.std.proofs.lemmas.List.Elements.{Contains-append_left, Contains-append_right}
use Rattle.dn_wire.specs.declared.ids.Round.{Round}
use Rattle.dn_seal.specs.Said.{SaidView}
use Rattle.dn_cert.specs.Certificate.{CertificateView}
use Rattle.dn_cert.specs.Chain.{ChainView, with_held}
use Rattle.dn_server.specs.declared.act.Act.{Act}
use Rattle.dn_server.specs.declared.act.Act.TheVariants as acts
use Rattle.dn_server.specs.declared.answer.Answer.{Answer}
use Rattle.dn_server.specs.declared.answer.Answer.TheVariants as answers
use Rattle.dn_server.specs.declared.answer.Reason.{Reason}
use Rattle.dn_server.specs.Answers.{ignored, does}
use Rattle.dn_server.specs.Server.{ServerView}
use Rattle.dn_rounds.specs.Going.{Step, Steps}
use Rattle.dn_rounds.specs.Going.Step.{commits, reveals, signs, signs_thin, certifies, commit_conflicts, reveal_conflicts, body_opposed, thin_opposed}
use Rattle.dn_rounds.specs.Going.Steps.{no_step, one_more}
use Rattle.dn_exchange.specs.Opening.{Opens}
use Rattle.dn_exchange.specs.Opening.Opens.{is_old, is_running, is_spent, opens}
use Rattle.dn_exchange.specs.Submitting.{Submitted, Submits, TakesSubmission}
use Rattle.dn_exchange.specs.Submitting.Submits.{is_refused, repeats as repeats_claim, finds_no_leaf as no_leaf, is_claimed}
use Rattle.dn_exchange.specs.Closing.{Closes, Ticks, Shuts}
use Rattle.dn_exchange.specs.Closing.Closes.{lists, meets_other, finds_no_leaf}
use Rattle.dn_exchange.specs.Closing.Ticks.{counts, closes_at}
use Rattle.dn_exchange.specs.Closing.Shuts.{is_shut, closes_now}
use Rattle.dn_exchange.specs.Ending.{Abandons, HoldsOn}
use Rattle.dn_exchange.specs.Ending.Abandons.{is_idle, abandons}
use Rattle.dn_exchange.specs.Ending.HoldsOn.{is_known, has_no_prev, is_off_floor, is_of_other_length, is_held, ends_run}
use Rattle.dn_exchange.specs.Hearing.{HearsRound}
use Rattle.dn_exchange.specs.Hearing.HearsRound.{is_early, is_past, is_idle as idle_round, repeats as repeats_round, is_second, is_faulty, goes_on}
use Rattle.dn_exchange.specs.Listening.{Hears, not_by_server, of_round, of_evidence}
use Rattle.dn_exchange.specs.Holding.{HoldsBesides, MayCertify, CertifiesAlone}
use Rattle.dn_exchange.proofs.EvidenceSound.{hears_grown}

abbrev chain_of : ServerView → ChainView
chain_of v = v.chain

-- one step leaves the chain, or certifies the round and ends its run
record Certified (v : ServerView) (did : List Act) (w : ServerView) : Type 0 where
  certificate : CertificateView
  told : Contains did (acts.Certified certificate)
  held : HoldsBesides v certificate w
  ended : w.run.is_running ≡ false

step_chain : (v : ServerView) (did : List Act) (w : ServerView) → Step v did w → (w.chain ≡ v.chain) ⊎ Certified v did w
step_chain v did w (commits sum due free leaf d e) = inl (ap chain_of e)
step_chain v did w (reveals sum due free leaf d e) = inl (ap chain_of e)
step_chain v did w (signs sum b due free leaf d e) = inl (ap chain_of e)
step_chain v did w (signs_thin b due free leaf d e) = inl (ap chain_of e)
step_chain v did w (certifies b c agreed is follows d e) =
    inr (record { certificate = c; told = subst (λ l. Contains l (acts.Certified c)) (sym d) (0, omega arith, refl); held = ap chain_of e; ended = ap (λ (x : ServerView). x.run.is_running) e })
step_chain v did w (commit_conflicts sum other due free d e) = inl (ap chain_of e)
step_chain v did w (reveal_conflicts sum other due free d e) = inl (ap chain_of e)
step_chain v did w (body_opposed sum b j other due free d e) = inl (ap chain_of e)
step_chain v did w (thin_opposed b j other due free d e) = inl (ap chain_of e)

-- a run that has ended takes no step
pub none_after : (v : ServerView) (did : List Act) (w : ServerView) → v.run.is_running ≡ false → Steps v did w → w ≡ v
none_after v did w off (no_step d e) = e
none_after v did w off (one_more first rest between on step steps d) = absurd (let clash = sym off ∙ on in cc)

longer : CertificateView → ChainView → ChainView
longer c chain = record chain { held = with_held c.body chain.held }

steps_chain : (v : ServerView) (did : List Act) (w : ServerView) → Steps v did w → MayCertify v did w
unfolding longer
steps_chain v did w (no_step d e) = inl (ap chain_of e)
steps_chain v did w (one_more first rest between on step steps d) = elim (step_chain v first between step) [
  | inl same ↦ elim (steps_chain between rest w steps) [
    | inl stays ↦ inl (stays ∙ same)
    | inr more ↦
        inr (more.0, subst (λ l. Contains l (acts.Certified more.0)) (sym d) (Contains-append_right first rest (acts.Certified more.0) more.1), more.2 ∙ ap (longer more.0) same)
  ]
  | inr made ↦
      inr (
        made.certificate,
        subst (λ l. Contains l (acts.Certified made.certificate)) (sym d) (Contains-append_left first rest (acts.Certified made.certificate) made.told),
        ap chain_of (none_after between rest w made.ended steps) ∙ made.held,
      )
]

closes_chain : (v : ServerView) (did : List Act) (w : ServerView) → Closes v did w → MayCertify v did w
closes_chain v did w (lists rest free leaf goes d) = elim (steps_chain _ rest w goes.steps) [
  | inl stays ↦ inl stays
  | inr more ↦ inr (more.0, subst (λ l. Contains l (acts.Certified more.0)) (sym d) (Contains-append_right (_ ∷ _ ∷ []) rest (acts.Certified more.0) more.1), more.2)
]
closes_chain v did w (meets_other other conflicts d e) = inl (ap chain_of e)
closes_chain v did w (finds_no_leaf free leaf bent d e) = inl (ap chain_of e)

-- an answer that is the acts
by_acts : (v : ServerView) (did : List Act) (a : Answer) (w : ServerView) → a ≡ does did → MayCertify v did w → CertifiesAlone v a w
by_acts v did a w e h = subst (λ x. CertifiesAlone v x w) (sym e) h

by_reason : (v : ServerView) (reason : Reason) (a : Answer) (w : ServerView) → a ≡ ignored reason → w ≡ v → CertifiesAlone v a w
by_reason v reason a w e same = subst (λ x. CertifiesAlone v x w) (sym e) (ap chain_of same)

pub opens_chain : (v : ServerView) (r : Round) (a : Answer) (w : ServerView) → Opens v r a w → w.chain ≡ v.chain
opens_chain v r a w (is_old o e same) = ap chain_of same
opens_chain v r a w (is_running n o e same) = ap chain_of same
opens_chain v r a w (is_spent n o l e same) = ap chain_of same
opens_chain v r a w (opens prev layout n o l latest after e same) = ap chain_of same

pub submits_chain : (v : ServerView) (said : SaidView) (cipher : List Bool) (a : Answer) (w : ServerView) → TakesSubmission v said cipher a w → w.chain ≡ v.chain
submits_chain v said cipher a w took = by took.0 took.2
  where
    by : (s : Submitted) → Submits v s a w → w.chain ≡ v.chain
    by s (is_refused refused same) = ap chain_of same
    by s (repeats_claim fits has e same) = ap chain_of same
    by s (no_leaf fits has few e same) = ap chain_of same
    by s (is_claimed fits has few e same) = ap chain_of same

pub ticks_chain : (v : ServerView) (a : Answer) (w : ServerView) → Ticks v a w → CertifiesAlone v a w
ticks_chain v a w (counts due e same) = by_acts v [] a w e (inl (ap chain_of same))
ticks_chain v a w (closes_at did due closes e) = by_acts v did a w e (closes_chain _ did w closes)

pub shuts_chain : (v : ServerView) (a : Answer) (w : ServerView) → Shuts v a w → CertifiesAlone v a w
shuts_chain v a w (is_shut shut e same) = by_reason v _ a w e same
shuts_chain v a w (closes_now did shut closes e) = by_acts v did a w e (closes_chain _ did w closes)

pub abandons_chain : (v : ServerView) (a : Answer) (w : ServerView) → Abandons v a w → w.chain ≡ v.chain
abandons_chain v a w (is_idle idle e same) = ap chain_of same
abandons_chain v a w (abandons on e same) = ap chain_of same

pub holds_chain : (v : ServerView) (c : CertificateView) (a : Answer) (w : ServerView) → HoldsOn v c a w → (w.chain ≡ v.chain) ⊎ HoldsBesides v c w
holds_chain v c a w (is_known r refused e same) = inl (ap chain_of same)
holds_chain v c a w (has_no_prev prev refused e same) = inl (ap chain_of same)
holds_chain v c a w (is_off_floor count last refused e same) = inl (ap chain_of same)
holds_chain v c a w (is_of_other_length have need refused e same) = inl (ap chain_of same)
holds_chain v c a w (is_held follows other e same) = inr (ap chain_of same)
holds_chain v c a w (ends_run follows runs e same) = inr (ap chain_of same)

hears_round_chain : (v : ServerView) (j : ℕ) (r : Round) (said : SaidView) (a : Answer) (w : ServerView) → HearsRound v j r said a w → CertifiesAlone v a w
hears_round_chain v j r said a w (is_early low e same) = subst (λ x. CertifiesAlone v x w) (sym e) (ap chain_of same)
hears_round_chain v j r said a w (is_past low e same) = by_reason v _ a w e same
hears_round_chain v j r said a w (idle_round same_round idle e same) = by_reason v _ a w e same
hears_round_chain v j r said a w (repeats_round same_round on kept e same) = by_reason v _ a w e same
hears_round_chain v j r said a w (is_second other same_round on kept differs e same) = by_acts v _ a w e (inl (ap chain_of same))
hears_round_chain v j r said a w (is_faulty fault same_round on kept has e same) = by_acts v _ a w e (inl (ap chain_of same))
hears_round_chain v j r said a w (goes_on did same_round on kept fine goes e) = by_acts v did a w e (steps_chain _ did w goes.steps)

-- where the chain is as it was, whatever is answered
as_it_was : (v : ServerView) (a : Answer) (w : ServerView) → w.chain ≡ v.chain → CertifiesAlone v a w
as_it_was v (answers.Acts did) w same = inl same
as_it_was v (answers.Ignored reason) w same = same
as_it_was v answers.Early w same = same

pub hears_chain : (v : ServerView) (said : SaidView) (a : Answer) (w : ServerView) → Hears v said a w → CertifiesAlone v a w
hears_chain v said a w (not_by_server r round other e same) = by_reason v _ a w e same
hears_chain v said a w (of_round j r by round hears) = hears_round_chain v j r said a w hears
hears_chain v said a w (of_evidence round hears) = as_it_was v a w (ap chain_of (hears_grown v said a w hears).1.is)
