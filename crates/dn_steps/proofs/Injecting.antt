-- A member puts bytes that are injected.
use Rattle.std.proofs.Common.{◌≡◌, ℕ, ◌≤◌, List, [], ◌∷◌, ◌++◌, length, refl, sym, ap, subst, ◌∙◌, inl, inr, true, false, Bool}
use Rattle.std.specs.Prelude.{Contains, slice_get, Some}
use Rattle.std.proofs.lemmas.List.Elements.{Contains-append_cases}
use Rattle.dn_wire.specs.declared.ids.Member.{Member}
use Rattle.dn_report.specs.declared.event.Event.TheVariants as events
use Rattle.dn_report.specs.declared.outcome.Outcome.{Outcome}
use Rattle.dn_report.specs.declared.outcome.Outcome.TheVariants as outcomes
use Rattle.dn_state.specs.Parts.{PartsView}
use Rattle.dn_state.specs.Putting.{Puts}
use Rattle.dn_state.specs.Doing.{injecting}
use Rattle.dn_headline.specs.Log.{Step, Log, Put, with_outcomes}
use Rattle.dn_headline.specs.Run.{RunView, log}
use Rattle.dn_links.specs.Judging.{OtherStep}
use Rattle.dn_steps.specs.Fitting.{FitsLog}
use Rattle.dn_steps.specs.Tied.{IsTied}
use Rattle.dn_steps.proofs.Places.{place_from_behind}
use Rattle.dn_steps.proofs.Putting.{PutsSo, puts_so}
use Rattle.dn_steps.proofs.Runs.{next_run, log_next, step_cases, is_of_put, is_blame, put_is_quiet, put_blames_none}
use Rattle.dn_steps.proofs.PutLines.{puts_lines, puts_keep_members}
use Rattle.dn_steps.proofs.Resting.{rested}
use Rattle.dn_steps.proofs.Unputting.{KeepsFronts}

module _ (w : RunView) (old new : PartsView) (from to : Member) (payload : List ℕ) (lines : List Outcome) (tied : IsTied w old)
    (h : Puts old (injecting from) (to ∷ []) payload new lines) where
  abbrev s : Step
  s = record { event = events.Inject from to payload; outcomes = lines }

  so : PutsSo w.group false from (to ∷ []) payload (log w) new lines
  so = puts_so w.group (log w) old new (injecting from) (to ∷ []) payload lines tied.fits tied.group.opens tt h

  at : log (next_run w s w.plains w.sums) ≡ with_outcomes false from (log w) lines
  at = log_next w s w.plains w.sums

  of_put : (o : Outcome) → Contains lines o → is_of_put o ≡ true
  of_put o there = puts_lines old new (injecting from) (to ∷ []) payload lines h o there

  no_blame : (o : Outcome) → is_blame o ≡ true → Contains lines o → ⊥
  no_blame o is there = both (is_blame o) is (put_blames_none o (of_put o there)) where
    both : (t : Bool) → t ≡ true → t ≡ false → ⊥
    both true a b = absurd cc
    both false a b = absurd cc

  injected : (k : ℕ) (p : Put) → length (log w).puts ≤ k → slice_get (log (next_run w s w.plains w.sums)).puts k ≡ Some p → p.own ≡ true → ⊥
  injected k p past there own =
      let placed : slice_get ((log w).puts ++ so.more) k ≡ Some p = subst (λ (ps : List Put). slice_get ps k ≡ Some p) (ap (λ (l : Log). l.puts) at ∙ so.puts) there in
      let same = so.each p (place_from_behind (log w).puts so.more k p past placed) in
      let e : false ≡ true = ap (λ (q : Put). q.own) same ∙ own in absurd cc

  pub injected_is_tied : IsTied (next_run w s w.plains w.sums) new
  injected_is_tied = rested w old new s tied (record {
    quiet = λ o there. put_is_quiet o (of_put o there);
    members = puts_keep_members old new (injecting from) (to ∷ []) payload lines h;
    fits = subst (λ (l : Log). FitsLog w.group l new) (sym at) so.fits;
    orderly = record { numbered = so.numbered; delivers = λ k e taken. absurd cc };
    unput = injected;
    unheard = λ x j r t m honest phase carries now. inject_is_not now.0 now.1;
    untexted = λ i honest. refl;
    judge = λ x there. elim (step_cases w s x there) [
      | inl before ↦ inl before
      | inr this ↦ inr (inr (subst OtherStep this (record { event = λ r k e. absurd cc; blames = λ m reason line. no_blame (outcomes.Blame m reason) refl line })))
    ];
  }) where
    inject_is_not : (k : ℕ) → events.Inject from to payload ≡ events.Deliver k → ⊥
    inject_is_not k e = absurd cc

  pub injected_fronts : KeepsFronts w (next_run w s w.plains w.sums)
  injected_fronts p h =
      elim (Contains-append_cases (log w).puts so.more p (subst (λ (ps : List Put). Contains ps p) (ap (λ (l : Log). l.puts) at ∙ so.puts) h)) [
        | inl was ↦ inl was
        | inr more ↦ inr (λ own. let e : false ≡ true = ap (λ (q : Put). q.own) (so.each p more) ∙ own in absurd cc)
      ]
