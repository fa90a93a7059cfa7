-- What an honest client puts where a message reaches it.
use Rattle.std.proofs.Common.{◌≡◌, ℕ, List, refl, sym, ap, subst, ◌∙◌, inl, inr, true, false, Bool, cond}
use Rattle.std.specs.Prelude.{Option, Some, None}
use Rattle.dn_wire.specs.declared.ids.ClientId.{ClientId}
use Rattle.dn_wire.specs.declared.ids.Member.TheVariants as members
use Rattle.dn_record_types.specs.declared.body.Body.{Body}
use Rattle.dn_cert.specs.declared.opened.Opened.{Opened}
use Rattle.dn_cert.specs.declared.opened.Opened.TheVariants as opened
use Rattle.dn_client.specs.Client.{ClientView}
use Rattle.dn_report.specs.declared.event.Event.TheVariants as events
use Rattle.dn_report.specs.declared.outcome.Outcome.{Outcome}
use Rattle.dn_report.specs.declared.outcome.Outcome.TheVariants as outcomes
use Rattle.dn_report.specs.declared.words.IgnoredWord.{IgnoredWord}
use Rattle.dn_report.specs.declared.words.IgnoredWord.TheVariants as ignored
use Rattle.dn_flight.specs.declared.msg.Msg.{Msg}
use Rattle.dn_flight.specs.Flight.{with_id}
use Rattle.dn_state.specs.declared.delivering.Reached.{Reached}
use Rattle.dn_state.specs.declared.delivering.Reached.TheVariants as came
use Rattle.dn_state.specs.Parts.{PartsView}
use Rattle.dn_state.specs.Members.{client_at, with_client}
use Rattle.dn_state.specs.Delivering.{opened_at, body_of, is_receipt_for, without_message, IsReached, ComesOfReached, ReachesClient}
use Rattle.dn_state.specs.Delivering.ReachesClient.{is_left, reaches, passes}
use Rattle.dn_headline.specs.Run.{RunView}
use Rattle.dn_steps.specs.Tied.{IsTied}
use Rattle.dn_steps.proofs.Runs.{next_run}
use Rattle.dn_steps.proofs.Taking.{delivering, number}
use Rattle.dn_steps.proofs.ToClients.{rebuttal_fronts}
use Rattle.dn_steps.proofs.Unputting.{KeepsFronts, AreUnput, none_unput, one_unput, both_unput, body_unput, unput_keeps}

-- the client's core puts nothing
abbrev IsNoRebuttal : Reached → Type 0
IsNoRebuttal (came.Rebutted envelope) = ⊥
IsNoRebuttal _ = Unit {0}

unput_came : (i : ClientId) (body : Option Body) (reached : Reached) (old new : PartsView) (lines : List Outcome) → IsNoRebuttal reached
    → ComesOfReached i body reached old new lines → AreUnput lines
unput_came i body came.Noted old new lines calm h = one_unput outcomes.Noted lines h.1 refl
unput_came i body (came.Held r) old new lines calm h =
    both_unput h.lines_first h.lines_rest lines h.told (one_unput (outcomes.Held (members.Client i) r) h.lines_first h.begins.1 refl)
    (body_unput body h.between new h.lines_rest h.goes_on)
unput_came i body (came.Rebutted envelope) old new lines calm h = absurd calm
unput_came i body (came.Ignored word) old new lines calm h = one_unput (outcomes.Ignored h.why) lines h.tells.1 refl

noted_or_not : (t : Bool) → IsNoRebuttal (cond t came.Noted (came.Ignored (Some ignored.Kind)))
noted_or_not true = tt
noted_or_not false = tt

module _ (w : RunView) (old : PartsView) (id : ℕ) (m : Msg) (tied : IsTied w old) (found : with_id id old.flight.msgs ≡ Some m) (i : ClientId) (to : m.to ≡ members.Client i) where
  abbrev gone : PartsView
  gone = without_message old id

  unput_so : (lines : List Outcome) → AreUnput lines → KeepsFronts w (next_run w (delivering id lines) w.plains w.sums)
  unput_so lines unput = unput_keeps w (events.Deliver id) lines w.plains w.sums unput

  quiet_core : (x : Opened) (reached : Reached) (after : ClientView) (new : PartsView) (lines : List Outcome) → IsNoRebuttal reached
      → ComesOfReached i (body_of x) reached (with_client gone i after) new lines → KeepsFronts w (next_run w (delivering id lines) w.plains w.sums)
  quiet_core x reached after new lines calm comes = unput_so lines (unput_came i (body_of x) reached (with_client gone i after) new lines calm comes)

  core_fronts : (c : ClientView) → client_at old i ≡ Some c → (x : Opened) (reached : Reached) (d : ClientView) (new : PartsView) (lines : List Outcome)
      → opened_at gone m.payload ≡ Some x → IsReached i x c reached d → ComesOfReached i (body_of x) reached (with_client gone i d) new lines
      → KeepsFronts w (next_run w (delivering id lines) w.plains w.sums)
  core_fronts c at_c (opened.Submission cipher said) reached d new lines carries is comes =
      quiet_core (opened.Submission cipher said) reached d new lines (subst IsNoRebuttal (sym is.0) tt) comes
  core_fronts c at_c (opened.Plain said) reached d new lines carries is comes =
      quiet_core (opened.Plain said) reached d new lines (subst IsNoRebuttal (sym is.0) (noted_or_not (is_receipt_for i said.statement))) comes
  core_fronts c at_c (opened.Certificate certificate) reached d new lines carries is comes =
      quiet_core (opened.Certificate certificate) reached d new lines (elim is [
        | inl held ↦ subst IsNoRebuttal (sym held.is) tt
        | inr refused ↦ subst IsNoRebuttal (sym refused.is) tt
      ]) comes
  core_fronts c at_c (opened.Challenge challenge) reached d new lines carries is comes =
      elim is [
        | inl rebuts ↦
            rebuttal_fronts w old id m tied found i to c d challenge rebuts.envelope.items new lines at_c rebuts.rebutted
            (subst (λ (z : Reached). ComesOfReached i None z (with_client gone i d) new lines) rebuts.is comes)
        | inr refused ↦ quiet_core (opened.Challenge challenge) reached d new lines (subst IsNoRebuttal (sym refused.is) tt) comes
      ]

  client_reached : (new : PartsView) (lines : List Outcome) → ReachesClient i m.payload gone new lines → KeepsFronts w (next_run w (delivering id lines) w.plains w.sums)
  client_reached new lines (is_left left tells) = unput_so lines (one_unput (outcomes.Ignored ignored.Left) lines tells.1 refl)
  client_reached new lines (reaches x c stays carries at_c core) = core_fronts c at_c x core.reached core.after new lines carries core.is core.comes
  client_reached new lines (passes stays none becomes) = unput_so lines (none_unput lines becomes.1)

  pub client_reached_fronts : (new : PartsView) (lines : List Outcome) → ReachesClient i m.payload (without_message old m.id) new lines
      → KeepsFronts w (next_run w (delivering id lines) w.plains w.sums)
  client_reached_fronts new lines h =
      client_reached new lines (subst (λ (n : ℕ). ReachesClient i m.payload (without_message old n) new lines) (number w old id m tied found) h)
