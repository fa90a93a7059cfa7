-- How a run goes on by a step of a world, with what its audit knows.
use Rattle.std.specs.Prelude.{List}
use Rattle.dn_report.specs.declared.event.Event.{Event}
use Rattle.dn_report.specs.declared.outcome.Outcome.{Outcome}
use Rattle.dn_state.specs.Parts.{PartsView}
use Rattle.dn_headline.specs.Run.{RunView}
use Rattle.dn_steps.specs.Audited.{IsAudited}
use Rattle.dn_steps.specs.Goes.{GoesOn}

-- the run has this step more, the parts are tied to it, and its audit knows it
pub record GoesAlong (w : RunView) (event : Event) (lines : List Outcome) (parts : PartsView) : Type 0 where
  pub goes : GoesOn w event lines parts
  pub audited : IsAudited goes.run parts
