-- The run goes on by a step in which no server makes a ciphertext.
use Rattle.std.proofs.Common.{List, refl, inl}
use Rattle.dn_report.specs.declared.event.Event.{Event}
use Rattle.dn_report.specs.declared.outcome.Outcome.{Outcome}
use Rattle.dn_state.specs.Parts.{PartsView}
use Rattle.dn_headline.specs.Run.{RunView, PlainMade}
use Rattle.dn_steps.specs.Tied.{IsTied}
use Rattle.dn_steps.proofs.Runs.{next_run}
use Rattle.dn_steps.proofs.Unputting.{KeepsFronts, AreUnput, unput_keeps}
use Rattle.dn_steps.proofs.ServedEvents.{RunGoesOn}

-- the run goes on by this step, with no ciphertext more
pub goes_on : (w : RunView) (event : Event) (lines : List Outcome) (plains : List PlainMade) (new : PartsView)
    → KeepsFronts w (next_run w (record { event = event; outcomes = lines }) plains w.sums)
    → IsTied (next_run w (record { event = event; outcomes = lines }) plains w.sums) new → RunGoesOn w event lines new
goes_on w event lines plains new fronts tied = record {
  goes = record { run = next_run w (record { event = event; outcomes = lines }) plains w.sums; group = refl; history = refl; tied = tied };
  grows = λ m h. h;
  sums = λ m h. inl h;
  fronts = fronts;
}

-- by lines that put nothing
pub goes_unput : (w : RunView) (event : Event) (lines : List Outcome) (new : PartsView) → AreUnput lines
    → IsTied (next_run w (record { event = event; outcomes = lines }) w.plains w.sums) new → RunGoesOn w event lines new
goes_unput w event lines new unput tied = goes_on w event lines w.plains new (unput_keeps w event lines w.plains w.sums unput) tied
