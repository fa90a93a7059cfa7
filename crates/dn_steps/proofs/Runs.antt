-- A run with one step more.
use Rattle.std.proofs.Common.{◌≡◌, List, [], ◌∷◌, ◌++◌, refl, sym, subst, inl, inr, true, false, Bool}
use Rattle.std.specs.Prelude.{Contains, ◌⊎◌}
use Rattle.std.specs.List.{list_any}
use Rattle.std.proofs.lemmas.List.Elements.{Contains-append_cases}
use Rattle.dn_report.specs.declared.outcome.Outcome.{Outcome}
use Rattle.dn_report.specs.declared.outcome.Outcome.TheVariants as outcomes
use Rattle.dn_wire.specs.declared.ids.Member.{Member}
use Rattle.dn_wire.specs.declared.ids.Member.TheVariants as members
use Rattle.dn_cert.proofs.Orders.{here, later}
use Rattle.dn_headline.specs.Log.{Step, Log, no_log, actor_after, is_early_or_none, with_outcome, with_outcomes, with_step, with_steps, IsNext, AreNumbered}
use Rattle.dn_headline.specs.Run.{RunView, PlainMade, SumMade, log}
use Rattle.dn_headline.specs.Step.{Grows}
use Rattle.dn_headline.proofs.History.{history_grows}
use Rattle.dn_steps.proofs.Places.{only}

-- the run after a step, in which this was made so far
abbrev pub next_run : RunView → Step → List PlainMade → List SumMade → RunView
next_run w s plains sums = record { group = w.group; history = w.history ++ s ∷ []; plains = plains; sums = sums }

steps_more : (start : Log) (history : List Step) (s : Step) → with_steps start (history ++ s ∷ []) ≡ with_step (with_steps start history) s
unfolding with_steps
steps_more start [] s = refl
steps_more start (t ∷ ts) s = steps_more (with_step start t) ts s

pub log_next : (w : RunView) (s : Step) (plains : List PlainMade) (sums : List SumMade) → log (next_run w s plains sums) ≡ with_step (log w) s
log_next w s plains sums = steps_more no_log w.history s

-- its steps are those before and this one
pub step_cases : (w : RunView) (s x : Step) → Contains (w.history ++ s ∷ []) x → Contains w.history x ⊎ (s ≡ x)
step_cases w s x h = elim (Contains-append_cases w.history (s ∷ []) x h) [ inl old ↦ inl old | inr new ↦ inr (only s x new) ]

pub run_grows : (w : RunView) (s : Step) (plains : List PlainMade) (sums : List SumMade) → ((m : PlainMade) → Contains w.plains m → Contains plains m)
    → ((m : SumMade) → Contains w.sums m → Contains sums m) → Grows w (next_run w s plains sums) s.outcomes
run_grows w s plains sums more_plains more_sums = history_grows w s plains sums more_plains more_sums

-- ---- lines

-- the line tells nothing of an honest server's core
abbrev pub is_quiet : Outcome → Bool
is_quiet (outcomes.Opened j r prev) = false
is_quiet (outcomes.Closed j r count) = false
is_quiet (outcomes.Abandoned j r) = false
is_quiet (outcomes.Told i j r told) = false
is_quiet (outcomes.Spoiled j r by reason) = false
is_quiet (outcomes.Certified j r) = false
is_quiet (outcomes.Held (members.Server j) r) = false
is_quiet _ = true

abbrev pub AreQuiet : List Outcome → Type 0
AreQuiet lines = (o : Outcome) → Contains lines o → is_quiet o ≡ true

-- the line tells of bytes or a message that is put
abbrev pub is_of_put : Outcome → Bool
is_of_put (outcomes.Post payload by bytes) = true
is_of_put (outcomes.Sent id payload to) = true
is_of_put (outcomes.Full payload to) = true
is_of_put _ = false

-- the line blames a member
abbrev pub is_blame : Outcome → Bool
is_blame (outcomes.Blame m reason) = true
is_blame _ = false

pub put_is_quiet : (o : Outcome) → is_of_put o ≡ true → is_quiet o ≡ true
put_is_quiet (outcomes.Post payload by bytes) e = refl
put_is_quiet (outcomes.Sent id payload to) e = refl
put_is_quiet (outcomes.Full payload to) e = refl
put_is_quiet _ e = absurd cc

pub put_is_taken : (o : Outcome) → is_of_put o ≡ true → is_early_or_none o ≡ false
put_is_taken (outcomes.Post payload by bytes) e = refl
put_is_taken (outcomes.Sent id payload to) e = refl
put_is_taken (outcomes.Full payload to) e = refl
put_is_taken _ e = absurd cc

pub put_blames_none : (o : Outcome) → is_of_put o ≡ true → is_blame o ≡ false
put_blames_none (outcomes.Post payload by bytes) e = refl
put_blames_none (outcomes.Sent id payload to) e = refl
put_blames_none (outcomes.Full payload to) e = refl
put_blames_none _ e = absurd cc

-- ---- lines that put nothing

unput_line : (own : Bool) (actor : Member) (log : Log) (o : Outcome) → is_of_put o ≡ false → (with_outcome own actor log o ≡ log) × IsNext log o
unfolding with_outcome
unput_line own actor log (outcomes.Post payload by bytes) e = absurd cc
unput_line own actor log (outcomes.Sent id payload to) e = absurd cc
unput_line own actor log (outcomes.Full payload to) e = absurd cc
unput_line own actor log _ e = (refl, tt)

-- they leave the log as it is
pub unput_lines : (own : Bool) (actor : Member) (log : Log) (lines : List Outcome) → ((o : Outcome) → Contains lines o → is_of_put o ≡ false)
    → (with_outcomes own actor log lines ≡ log) × AreNumbered own actor log lines
unfolding with_outcomes
unput_lines own actor log [] none = (refl, tt)
unput_lines own actor log (o ∷ os) none =
    let one = unput_line own actor log o (none o (here o os)) in
    let rest = unput_lines own (actor_after actor o) log os (λ x h. none x (later o os x h)) in (
      subst (λ (l : Log). with_outcomes own (actor_after actor o) l os ≡ log) (sym one.0) rest.0,
      (one.1, subst (λ (l : Log). AreNumbered own (actor_after actor o) l os) (sym one.0) rest.1),
    )

-- where no line says that a message was early or that there is none, it was taken
pub all_taken : (lines : List Outcome) → ((o : Outcome) → Contains lines o → is_early_or_none o ≡ false) → list_any is_early_or_none lines ≡ false
all_taken [] none = refl
all_taken (o ∷ os) none = rw (none o (here o os)) (all_taken os (λ x h. none x (later o os x h)))
