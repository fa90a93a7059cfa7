-- Events are shown in their order.
use Rattle.std.proofs.Common.{◌≡◌, arith, ℕ, ◌+◌, List, [], ◌∷◌, ◌++◌, length, All, sym, ap, subst, ◌∙◌, refl}
use Rattle.std.proofs.lemmas.List.{length_push}
use Rattle.std.proofs.lemmas.List.Elements.{All-push}
use Rattle.dn_roster.proofs.DealingLemmas.{range-more}
use Rattle.dn_world.specs.declared.step.Step.{Step}
use Rattle.dn_state.specs.Events.{IsWithinLimits}
use Rattle.dn_run_report.specs.declared.shown.Shown.{Shown}
use Rattle.dn_run_report.specs.declared.shown.Shown.TheVariants as shown
use Rattle.dn_run_report.specs.Report.{events_shown, numbers_below}
use Rattle.dn_runner.specs.Played.{RunView, IsInOrder}

events_shown-more : (xs : List Shown) (n : ℕ) → events_shown (xs ++ shown.Event n ∷ []) ≡ events_shown xs ++ n ∷ []
events_shown-more [] n = refl
events_shown-more (shown.Event number ∷ xs) n = ap (λ l. number ∷ l) (events_shown-more xs n)
events_shown-more (shown.Race server workers ∷ xs) n = events_shown-more xs n
events_shown-more (shown.Board server read ∷ xs) n = events_shown-more xs n
events_shown-more (shown.Ignored word ∷ xs) n = events_shown-more xs n

-- one event more, which is shown last
pub one_event_more : (v w : RunView) (s : Step) (n : ℕ) → IsInOrder v → IsWithinLimits s.event → n ≡ length v.history → w.history ≡ v.history ++ s ∷ []
    → w.shown ≡ v.shown ++ shown.Event n ∷ [] → IsInOrder w
one_event_more v w s n order within number history shows = record {
  events = subst (λ h. All (λ x. IsWithinLimits x.event) h) (sym history) (All-push (λ x. IsWithinLimits x.event) v.history s order.events within);
  shown =
      ap events_shown shows ∙ events_shown-more v.shown n ∙ ap (λ l. l ++ n ∷ []) (order.shown ∙ ap numbers_below (sym number)) ∙ sym (range-more n)
      ∙ ap numbers_below (ap (λ k. k + 1) number ∙ sym (length_push v.history s) ∙ ap length (sym history));
}

-- nothing happened, and nothing is shown
pub nothing_in_order : (v : RunView) → v.history ≡ [] → v.shown ≡ [] → IsInOrder v
nothing_in_order v history shows = record {
  events = subst (λ h. All (λ x. IsWithinLimits x.event) h) (sym history) (λ k d within. absurd (omega (arith, within)));
  shown = ap events_shown shows ∙ ap (λ h. numbers_below (length h)) (sym history);
}

-- what is no event shows no event more
pub mark_shown : (xs : List Shown) (mark : Shown) → events_shown (mark ∷ []) ≡ [] → events_shown (xs ++ mark ∷ []) ≡ events_shown xs
mark_shown [] mark is = is
mark_shown (shown.Event number ∷ xs) mark is = ap (λ l. number ∷ l) (mark_shown xs mark is)
mark_shown (shown.Race server workers ∷ xs) mark is = mark_shown xs mark is
mark_shown (shown.Board server read ∷ xs) mark is = mark_shown xs mark is
mark_shown (shown.Ignored word ∷ xs) mark is = mark_shown xs mark is

-- one mark more, which is shown last
pub one_mark_more : (v w : RunView) (mark : Shown) → IsInOrder v → events_shown (mark ∷ []) ≡ [] → w.history ≡ v.history → w.shown ≡ v.shown ++ mark ∷ [] → IsInOrder w
one_mark_more v w mark order is history shows = record {
  events = subst (λ h. All (λ x. IsWithinLimits x.event) h) (sym history) order.events;
  shown = ap events_shown shows ∙ mark_shown v.shown mark is ∙ order.shown ∙ ap (λ h. numbers_below (length h)) (sym history);
}
