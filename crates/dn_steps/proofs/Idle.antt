-- An event of which nothing comes but lines.
use Rattle.std.proofs.Common.{◌≡◌, ◌≢◌, ℕ, List, [], ◌∷◌, refl, sym, ap, subst, ◌∙◌, inl, inr, true, false, Bool}
use Rattle.std.specs.Prelude.{Contains}
use Rattle.dn_wire.specs.declared.ids.ClientId.{ClientId}
use Rattle.dn_wire.specs.declared.ids.Round.{Round}
use Rattle.dn_cert.proofs.Orders.{nothing}
use Rattle.dn_report.specs.declared.event.Event.{Event}
use Rattle.dn_report.specs.declared.event.Event.TheVariants as events
use Rattle.dn_report.specs.declared.outcome.Outcome.{Outcome}
use Rattle.dn_report.specs.declared.outcome.Outcome.TheVariants as outcomes
use Rattle.dn_report.specs.declared.words.IgnoredWord.{IgnoredWord}
use Rattle.dn_state.specs.Parts.{PartsView}
use Rattle.dn_headline.specs.Group.{IsHonestClient}
use Rattle.dn_headline.specs.Log.{Step, Log, actor_of, is_own, with_outcomes, with_removal, AreNumbered}
use Rattle.dn_headline.specs.Run.{RunView, log}
use Rattle.dn_headline.specs.Plains.{text_in}
use Rattle.dn_links.specs.Judging.{OtherStep}
use Rattle.dn_steps.specs.Fitting.{FitsLog}
use Rattle.dn_steps.specs.Tied.{IsTied}
use Rattle.dn_steps.proofs.Places.{only}
use Rattle.dn_steps.proofs.Runs.{next_run, log_next, step_cases, is_quiet, is_of_put, is_blame, unput_lines}
use Rattle.dn_steps.proofs.Resting.{same_members, none_put, rested}

-- an event that takes no message out of flight, and calls no judge
pub record IsCalm (e : Event) : Type 0 where
  pub removes : (l : Log) (lines : List Outcome) → with_removal l e lines ≡ l
  pub delivers : (id : ℕ) → e ≢ events.Deliver id
  pub judges : (r : Round) (k : ℕ) → e ≢ events.Judge r k

-- the lines put nothing, tell nothing of servers, and blame nobody
pub record AreIdle (lines : List Outcome) : Type 0 where
  pub unput : (o : Outcome) → Contains lines o → is_of_put o ≡ false
  pub quiet : (o : Outcome) → Contains lines o → is_quiet o ≡ true
  pub blames : (o : Outcome) → Contains lines o → is_blame o ≡ false

pub no_lines : AreIdle []
no_lines = record { unput = λ o h. absurd (nothing o h); quiet = λ o h. absurd (nothing o h); blames = λ o h. absurd (nothing o h) }

pub one_ignored : (word : IgnoredWord) → AreIdle (outcomes.Ignored word ∷ [])
one_ignored word = record {
  unput = λ o h. ap is_of_put (sym (only (outcomes.Ignored word) o h));
  quiet = λ o h. ap is_quiet (sym (only (outcomes.Ignored word) o h));
  blames = λ o h. ap is_blame (sym (only (outcomes.Ignored word) o h));
}

pub clash : (t : Bool) → t ≡ true → t ≡ false → ⊥
clash true a b = absurd cc
clash false a b = absurd cc

pub other_step : (e : Event) (lines : List Outcome) → ((r : Round) (k : ℕ) → e ≢ events.Judge r k) → ((o : Outcome) → Contains lines o → is_blame o ≡ false)
    → OtherStep (record { event = e; outcomes = lines })
other_step e lines judges blames = record { event = judges; blames = λ m reason h. clash true refl (blames (outcomes.Blame m reason) h) }

module _ (w : RunView) (old : PartsView) (e : Event) (lines : List Outcome) (tied : IsTied w old) (calm : IsCalm e) (idle : AreIdle lines)
    (untexted : (i : ClientId) → IsHonestClient w.group i → text_in i e ≡ []) where
  abbrev s : Step
  s = record { event = e; outcomes = lines }

  abbrev v : RunView
  v = next_run w s w.plains w.sums

  unput : (with_outcomes (is_own e) (actor_of (log w) e) (log w) lines ≡ log w) × AreNumbered (is_own e) (actor_of (log w) e) (log w) lines
  unput = unput_lines (is_own e) (actor_of (log w) e) (log w) lines idle.unput

  at : log v ≡ log w
  at =
      log_next w s w.plains w.sums ∙ ap (λ (l : Log). with_outcomes (is_own e) (actor_of (log w) e) l lines) (calm.removes (log w) lines)
      ∙ unput.0

  pub idle_is_tied : (new : PartsView) → new ≡ old → IsTied v new
  idle_is_tied new same = subst (IsTied v) (sym same) (rested w old old s tied (record {
    quiet = idle.quiet;
    members = same_members old;
    fits = subst (λ (l : Log). FitsLog w.group l old) (sym at) tied.fits;
    orderly = record {
      numbered = subst (λ (l : Log). AreNumbered (is_own e) (actor_of (log w) e) l lines) (sym (calm.removes (log w) lines)) unput.1;
      delivers = λ id is taken. absurd (calm.delivers id is);
    };
    unput = λ n p past there own. none_put (log w).puts (log v).puts (ap (λ (l : Log). l.puts) at) n p past there;
    unheard = λ x j r t m honest phase carries now. calm.delivers now.0 now.1;
    untexted = untexted;
    judge = λ x h. elim (step_cases w s x h) [
      | inl before ↦ inl before
      | inr this ↦ inr (inr (subst OtherStep this (other_step e lines calm.judges idle.blames)))
    ];
  }))
