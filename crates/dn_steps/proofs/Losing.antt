-- A message is lost.
use Rattle.std.proofs.Common.{◌≡◌, ℕ, [], refl, sym, ap, subst, ◌∙◌, inl, inr, true, false, Bool, cond}
use Rattle.std.specs.Prelude.{◌==◌}
use Rattle.std.specs.List.{list_any}
use Rattle.std.proofs.lemmas.Bool.{cases_Bool}
use Rattle.dn_cert.proofs.Orders.{nothing}
use Rattle.dn_report.specs.declared.event.Event.TheVariants as events
use Rattle.dn_state.specs.Parts.{PartsView}
use Rattle.dn_state.specs.Delivering.{without_message}
use Rattle.dn_headline.specs.Log.{Step, Log, nobody, with_outcomes, with_removal, with_step, AreNumbered}
use Rattle.dn_headline.specs.Run.{RunView, log}
use Rattle.dn_headline.specs.Group.{GroupView}
use Rattle.dn_links.specs.Judging.{OtherStep}
use Rattle.dn_steps.specs.Fitting.{FitsLog}
use Rattle.dn_steps.specs.Tied.{IsTied}
use Rattle.dn_steps.proofs.Removing.{with_loss, loss_fits, no_loss_fits}
use Rattle.dn_steps.proofs.Runs.{next_run, log_next, step_cases}
use Rattle.dn_steps.proofs.Resting.{without_keeps_members, none_put, rested}

abbrev losing : ℕ → Step
losing id = record { event = events.Lose id; outcomes = [] }

log_after : (l : Log) (id : ℕ) → with_step l (losing id) ≡ cond (list_any (λ k. k == id) l.flight) (with_loss l id) l
unfolding with_outcomes
log_after l id = refl

fits_after : (g : GroupView) (l : Log) (parts : PartsView) (id : ℕ) → FitsLog g l parts
    → FitsLog g (cond (list_any (λ k. k == id) l.flight) (with_loss l id) l) (without_message parts id)
fits_after g l parts id fits =
    elim (cases_Bool (list_any (λ k. k == id) l.flight)) [
      | inl flies ↦ rw flies (loss_fits g l parts id fits)
      | inr none ↦ rw none (no_loss_fits g l parts id fits none)
    ]

same_puts : (t : Bool) (l : Log) (id : ℕ) → (cond t (with_loss l id) l).puts ≡ l.puts
same_puts true l id = refl
same_puts false l id = refl

pub lost_is_tied : (w : RunView) (old new : PartsView) (id : ℕ) → IsTied w old → new ≡ without_message old id → IsTied (next_run w (losing id) w.plains w.sums) new
lost_is_tied w old new id tied is = subst (IsTied (next_run w (losing id) w.plains w.sums)) (sym is) (rested w old (without_message old id) (losing id) tied (record {
  quiet = λ o h. absurd (nothing o h);
  members = without_keeps_members old id;
  fits = subst (λ (l : Log). FitsLog w.group l (without_message old id)) (sym at) (fits_after w.group (log w) old id tied.fits);
  orderly = record { numbered = numbered_none; delivers = λ k e taken. absurd cc };
  unput = λ k p past there own. none_put (log w).puts _ (ap (λ (l : Log). l.puts) at ∙ same_puts (list_any (λ k. k == id) (log w).flight) (log w) id) k p past there;
  unheard = λ x j r t m h phase carries now. absurd (lose_is_not now.0 now.1);
  untexted = λ i h. refl;
  judge = λ x h. elim (step_cases w (losing id) x h) [
    | inl before ↦ inl before
    | inr this ↦ inr (inr (subst OtherStep this (record { event = λ r k e. absurd cc; blames = λ m reason line. nothing _ line })))
  ];
})) where
  at : log (next_run w (losing id) w.plains w.sums) ≡ cond (list_any (λ k. k == id) (log w).flight) (with_loss (log w) id) (log w)
  at = log_next w (losing id) w.plains w.sums ∙ log_after (log w) id

  lose_is_not : (k : ℕ) → events.Lose id ≡ events.Deliver k → ⊥
  lose_is_not k e = absurd cc

  numbered_none : AreNumbered true nobody (with_removal (log w) (events.Lose id) []) []
  numbered_none = tt
