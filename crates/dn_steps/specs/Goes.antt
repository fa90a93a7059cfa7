-- How a run goes on by a step of a world.
use Rattle.std.specs.Prelude.{◌≡◌, ◌++◌, ◌∷◌, [], List}
use Rattle.dn_report.specs.declared.event.Event.{Event}
use Rattle.dn_report.specs.declared.outcome.Outcome.{Outcome}
use Rattle.dn_state.specs.Parts.{PartsView}
use Rattle.dn_headline.specs.Run.{RunView}
use Rattle.dn_steps.specs.Tied.{IsTied}

-- the run has this step more, and the parts are tied to it
pub record GoesOn (w : RunView) (event : Event) (lines : List Outcome) (parts : PartsView) : Type 0 where
  pub run : RunView
  pub group : run.group ≡ w.group
  pub history : run.history ≡ w.history ++ record { event = event; outcomes = lines } ∷ []
  pub tied : IsTied run parts
