-- What is put by a step, and that nothing is where its lines tell of none.
use Rattle.std.proofs.Common.{◌≡◌, ℕ, List, [], ◌∷◌, ◌++◌, refl, sym, ap, subst, ◌∙◌, inl, inr, Bool, true, false, cond}
use Rattle.std.specs.Prelude.{Contains, ◌⊎◌, ◌==◌, Option, Some, None}
use Rattle.std.specs.List.{list_any}
use Rattle.std.proofs.lemmas.List.Elements.{Contains-append_cases}
use Rattle.dn_cert.proofs.Orders.{nothing}
use Rattle.dn_record_types.specs.declared.body.Body.{Body}
use Rattle.dn_report.specs.declared.event.Event.{Event}
use Rattle.dn_report.specs.declared.event.Event.TheVariants as events
use Rattle.dn_report.specs.declared.outcome.Outcome.{Outcome}
use Rattle.dn_state.specs.Parts.{PartsView}
use Rattle.dn_state.specs.Delivering.{TellsBody, TellsBodyIf}
use Rattle.dn_headline.specs.Log.{Log, Put, Step, message_of, actor_of, is_own, is_early_or_none, without, with_removal}
use Rattle.dn_headline.specs.Run.{RunView, PlainMade, SumMade, log}
use Rattle.dn_auditing.specs.Known.{IsOwnFront}
use Rattle.dn_steps.proofs.Places.{only}
use Rattle.dn_steps.proofs.Runs.{next_run, log_next, is_of_put, unput_lines}
use Rattle.dn_steps.proofs.RoundLines.{told_plain}

-- in front of what members' own cores put newly stands what they signed themselves
abbrev pub KeepsFronts : RunView → RunView → Type 0
KeepsFronts w v = (p : Put) → Contains (log v).puts p → Contains (log w).puts p ⊎ IsOwnFront v.group p

-- no line tells that something is put
abbrev pub AreUnput : List Outcome → Type 0
AreUnput lines = (o : Outcome) → Contains lines o → is_of_put o ≡ false

-- ---- what takes a message out of flight puts nothing

-- a log in which the same was put
pub record SamePuts (a b : Log) : Type 0 where
  pub payloads : b.payloads ≡ a.payloads
  pub puts : b.puts ≡ a.puts

one_of_both : (t : Bool) (l a b : Log) → SamePuts l a → SamePuts l b → SamePuts l (cond t a b)
one_of_both true l a b first second = first
one_of_both false l a b first second = second

pub removal_puts : (l : Log) (e : Event) (os : List Outcome) → SamePuts l (with_removal l e os)
removal_puts l (events.Deliver id) os =
    one_of_both (list_any is_early_or_none os) l l (record l { flight = without l.flight id; delivered = l.delivered ++ message_of l id ∷ [] })
    (record { payloads = refl; puts = refl }) (record { payloads = refl; puts = refl })
removal_puts l (events.Lose id) os =
    one_of_both (list_any (λ k. k == id) l.flight) l (record l { flight = without l.flight id; lost = l.lost ++ message_of l id ∷ [] }) l
    (record { payloads = refl; puts = refl }) (record { payloads = refl; puts = refl })
removal_puts l _ os = record { payloads = refl; puts = refl }

-- ---- lines

pub none_unput : (lines : List Outcome) → lines ≡ [] → AreUnput lines
none_unput lines none o h = absurd (nothing o (subst (λ os. Contains os o) none h))

pub one_unput : (line : Outcome) (lines : List Outcome) → lines ≡ line ∷ [] → is_of_put line ≡ false → AreUnput lines
one_unput line lines is unput o h = ap is_of_put (sym (only line o (subst (λ os. Contains os o) is h))) ∙ unput

pub both_unput : (first rest lines : List Outcome) → lines ≡ first ++ rest → AreUnput first → AreUnput rest → AreUnput lines
both_unput first rest lines is a b o h = elim (Contains-append_cases first rest o (subst (λ os. Contains os o) is h)) [ inl x ↦ a o x | inr y ↦ b o y ]

pub body_unput : (body : Option Body) (old new : PartsView) (lines : List Outcome) → TellsBody body old new lines → AreUnput lines
body_unput (Some body) old new lines h = λ o there. (told_plain old body new lines h o there).unput
body_unput None old new lines h = none_unput lines h.1

pub body_unput_if : (t : Bool) (body : Option Body) (old new : PartsView) (lines : List Outcome) → TellsBodyIf t body old new lines → AreUnput lines
body_unput_if true body old new lines h = body_unput body old new lines h
body_unput_if false body old new lines h = none_unput lines h.1

-- ---- the run

pub unput_keeps : (w : RunView) (e : Event) (lines : List Outcome) (plains : List PlainMade) (sums : List SumMade) → AreUnput lines
    → KeepsFronts w (next_run w (record { event = e; outcomes = lines }) plains sums)
unput_keeps w e lines plains sums unput p h =
    let same =
    ap (λ (l : Log). l.puts)
    (log_next w (record { event = e; outcomes = lines }) plains sums ∙ (unput_lines (is_own e) (actor_of (log w) e) (with_removal (log w) e lines) lines unput).0)
    ∙ (removal_puts (log w) e lines).puts in inl (subst (λ (ps : List Put). Contains ps p) same h)
