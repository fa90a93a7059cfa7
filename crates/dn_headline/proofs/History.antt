-- A run with one step more has all that it had.
use Rattle.std.proofs.Common.{◌≡◌, ℕ, List, [], ◌∷◌, ◌++◌, refl, sym, ap, subst, ◌∙◌, inl, inr, Bool, true, false, cond}
use Rattle.std.specs.Prelude.{Contains, ◌==◌}
use Rattle.std.specs.List.{list_any}
use Rattle.std.proofs.lemmas.List.Elements.{Contains-append_left, Contains-append_right, Contains-append_cases}
use Rattle.dn_wire.specs.declared.ids.Member.{Member}
use Rattle.dn_report.specs.declared.event.Event.{Event}
use Rattle.dn_report.specs.declared.event.Event.TheVariants as events
use Rattle.dn_report.specs.declared.outcome.Outcome.{Outcome}
use Rattle.dn_report.specs.declared.outcome.Outcome.TheVariants as outcomes
use Rattle.dn_cert.proofs.Orders.{here, nothing, first_or_later}
use Rattle.dn_headline.specs.Group.{GroupView}
use Rattle.dn_headline.specs.Log.{Step, nobody, Put, Message, Log, message_of, actor_of, actor_after, is_own, is_early_or_none, with_outcome, with_outcomes, with_removal, with_step, with_steps, no_log}
use Rattle.dn_headline.specs.Run.{RunView, PlainMade, SumMade, log}
use Rattle.dn_headline.specs.Step.{Grows}

append_nil : {A : Type 0} (xs : List A) → xs ≡ xs ++ []
append_nil [] = refl
append_nil (x ∷ xs) = ap (λ ys. x ∷ ys) (append_nil xs)

append_assoc : {A : Type 0} (xs ys zs : List A) → (xs ++ ys) ++ zs ≡ xs ++ (ys ++ zs)
append_assoc [] ys zs = refl
append_assoc (x ∷ xs) ys zs = ap (λ ws. x ∷ ws) (append_assoc xs ys zs)

-- the log has all that another had
record LogGrows (old new : Log) : Type 0 where
  more : List Put
  puts : new.puts ≡ old.puts ++ more
  delivered : (m : Message) → Contains old.delivered m → Contains new.delivered m
  lost : (m : Message) → Contains old.lost m → Contains new.lost m

same_grows : (log : Log) → LogGrows log log
same_grows log = record { more = []; puts = append_nil log.puts; delivered = λ m h. h; lost = λ m h. h }

both_grow : (a b c : Log) → LogGrows a b → LogGrows b c → LogGrows a c
both_grow a b c g h = record {
  more = g.more ++ h.more;
  puts = h.puts ∙ ap (λ ps. ps ++ h.more) g.puts ∙ append_assoc a.puts g.more h.more;
  delivered = λ m x. h.delivered m (g.delivered m x);
  lost = λ m x. h.lost m (g.lost m x);
}

outcome_grows : (own : Bool) (actor : Member) (log : Log) (o : Outcome) → LogGrows log (with_outcome own actor log o)
unfolding with_outcome
outcome_grows own actor log (outcomes.Post payload by bytes) = record { more = record { by = by; own = own; bytes = bytes } ∷ []; puts = refl; delivered = λ m h. h; lost = λ m h. h }
outcome_grows own actor log (outcomes.Sent id payload to) = record { more = _; puts = refl; delivered = λ m h. h; lost = λ m h. h }
outcome_grows own actor log (outcomes.Full payload to) = record { more = _; puts = refl; delivered = λ m h. h; lost = λ m h. Contains-append_left log.lost _ m h }
outcome_grows own actor log _ = same_grows log

outcomes_grow : (own : Bool) (actor : Member) (log : Log) (os : List Outcome) → LogGrows log (with_outcomes own actor log os)
unfolding with_outcomes
outcomes_grow own actor log [] = same_grows log
outcomes_grow own actor log (o ∷ os) =
    both_grow log (with_outcome own actor log o) (with_outcomes own (actor_after actor o) (with_outcome own actor log o) os)
    (outcome_grows own actor log o) (outcomes_grow own (actor_after actor o) (with_outcome own actor log o) os)

deliver_grows : (t : Bool) (log : Log) (flight : List ℕ) (m : Message)
    → LogGrows log (cond t log (record log { flight = flight; delivered = log.delivered ++ m ∷ [] }))
deliver_grows true log flight m = same_grows log
deliver_grows false log flight m = record { more = []; puts = append_nil log.puts; delivered = λ x h. Contains-append_left log.delivered (m ∷ []) x h; lost = λ x h. h }

lose_grows : (t : Bool) (log : Log) (flight : List ℕ) (m : Message)
    → LogGrows log (cond t (record log { flight = flight; lost = log.lost ++ m ∷ [] }) log)
lose_grows true log flight m = record { more = []; puts = append_nil log.puts; delivered = λ x h. h; lost = λ x h. Contains-append_left log.lost (m ∷ []) x h }
lose_grows false log flight m = same_grows log

removal_grows : (log : Log) (e : Event) (os : List Outcome) → LogGrows log (with_removal log e os)
removal_grows log (events.Deliver id) os = deliver_grows (list_any is_early_or_none os) log _ (message_of log id)
removal_grows log (events.Lose id) os = lose_grows (list_any (λ k. k == id) log.flight) log _ (message_of log id)
removal_grows log (events.Leave client) os = record { more = []; puts = append_nil log.puts; delivered = λ m h. h; lost = λ m h. h }
removal_grows log _ os = same_grows log

step_grows : (log : Log) (s : Step) → LogGrows log (with_step log s)
step_grows log s =
    both_grow log (with_removal log s.event s.outcomes) (with_step log s)
    (removal_grows log s.event s.outcomes) (outcomes_grow (is_own s.event) (actor_of log s.event) (with_removal log s.event s.outcomes) s.outcomes)

steps_more : (log : Log) (history : List Step) (s : Step) → with_steps log (history ++ s ∷ []) ≡ with_step (with_steps log history) s
unfolding with_steps
steps_more log [] s = refl
steps_more log (t ∷ ts) s = steps_more (with_step log t) ts s

-- a run with one step more, and with what was made in it
pub history_grows : (w : RunView) (s : Step) (plains : List PlainMade) (sums : List SumMade)
    → ((m : PlainMade) → Contains w.plains m → Contains plains m) → ((m : SumMade) → Contains w.sums m → Contains sums m)
    → Grows w (record { group = w.group; history = w.history ++ s ∷ []; plains = plains; sums = sums }) s.outcomes
history_grows w s plains sums more_plains more_sums =
    let g = step_grows (log w) s in
    let is = steps_more no_log w.history s in
    record {
      more = g.more;
      puts = ap (λ (l : Log). l.puts) is ∙ g.puts;
      happened = λ o h. (h.0, Contains-append_left w.history (s ∷ []) h.0 h.1, h.2);
      new = λ o h. elim (Contains-append_cases w.history (s ∷ []) h.0 h.1) [
        | inl old ↦ inl (h.0, old, h.2)
        | inr last ↦ elim (first_or_later s [] h.0 last) [
          | inl e ↦ inr (subst (λ (x : Step). Contains x.outcomes o) (sym e) h.2)
          | inr behind ↦ absurd (nothing h.0 behind)
        ]
      ];
      told = λ o h. (s, Contains-append_right w.history (s ∷ []) s (here s []), h);
      plains = more_plains;
      sums = more_sums;
      delivered = λ m h. subst (λ (l : Log). Contains l.delivered m) (sym is) (g.delivered m h);
      lost = λ m h. subst (λ (l : Log). Contains l.lost m) (sym is) (g.lost m h);
    }

-- ---- a tick, server by server

outcomes_more : (own : Bool) (actor : Member) (log : Log) (os more : List Outcome)
    → (next : Member) × (with_outcomes own actor log (os ++ more) ≡ with_outcomes own next (with_outcomes own actor log os) more)
unfolding with_outcomes
outcomes_more own actor log [] more = (actor, refl)
outcomes_more own actor log (o ∷ os) more = outcomes_more own (actor_after actor o) (with_outcome own actor log o) os more

abbrev pub tick : List Outcome → Step
tick os = record { event = events.Tick; outcomes = os }

-- a run whose last step is a tick, with the outcomes of one server more
pub ticks_grow : (group : GroupView) (history : List Step) (os more : List Outcome) (plains more_plains : List PlainMade) (sums more_sums : List SumMade)
    → ((m : PlainMade) → Contains plains m → Contains more_plains m) → ((m : SumMade) → Contains sums m → Contains more_sums m)
    → Grows (record { group = group; history = history ++ tick os ∷ []; plains = plains; sums = sums })
    (record { group = group; history = history ++ tick (os ++ more) ∷ []; plains = more_plains; sums = more_sums }) more
ticks_grow group history os more plains more_plains sums more_sums grow_plains grow_sums =
    let start = with_steps no_log history in
    let was = steps_more no_log history (tick os) in
    let parts = outcomes_more true nobody start os more in
    let is = steps_more no_log history (tick (os ++ more)) ∙ parts.1 in
    let g = outcomes_grow true parts.0 (with_outcomes true nobody start os) more in
    record {
      more = g.more;
      puts = ap (λ (l : Log). l.puts) is ∙ g.puts ∙ ap (λ (l : Log). l.puts ++ g.more) (sym was);
      happened = λ o h. elim (Contains-append_cases history (tick os ∷ []) h.0 h.1) [
        | inl old ↦ (h.0, Contains-append_left history (tick (os ++ more) ∷ []) h.0 old, h.2)
        | inr last ↦ (
          tick (os ++ more),
          Contains-append_right history (tick (os ++ more) ∷ []) (tick (os ++ more)) (here (tick (os ++ more)) []),
          Contains-append_left os more o (subst (λ (x : Step). Contains x.outcomes o) (sym (only (tick os) h.0 last)) h.2),
        )
      ];
      new = λ o h. elim (Contains-append_cases history (tick (os ++ more) ∷ []) h.0 h.1) [
        | inl old ↦ inl (h.0, Contains-append_left history (tick os ∷ []) h.0 old, h.2)
        | inr last ↦ elim (Contains-append_cases os more o (subst (λ (x : Step). Contains x.outcomes o) (sym (only (tick (os ++ more)) h.0 last)) h.2)) [
          | inl there ↦ inl (tick os, Contains-append_right history (tick os ∷ []) (tick os) (here (tick os) []), there)
          | inr new ↦ inr new
        ]
      ];
      told = λ o h. (
        tick (os ++ more),
        Contains-append_right history (tick (os ++ more) ∷ []) (tick (os ++ more)) (here (tick (os ++ more)) []),
        Contains-append_right os more o h,
      );
      plains = grow_plains;
      sums = grow_sums;
      delivered = λ m h. subst (λ (l : Log). Contains l.delivered m) (sym is) (g.delivered m (subst (λ (l : Log). Contains l.delivered m) was h));
      lost = λ m h. subst (λ (l : Log). Contains l.lost m) (sym is) (g.lost m (subst (λ (l : Log). Contains l.lost m) was h));
    }
  where
    only : (s x : Step) → Contains (s ∷ []) x → s ≡ x
    only s x h = elim (first_or_later s [] x h) [ inl e ↦ e | inr behind ↦ absurd (nothing x behind) ]
