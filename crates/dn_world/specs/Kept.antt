-- What a world keeps of its run.
use Rattle.std.specs.Prelude.{◌≡◌, false, IsTrue, List, map}
use Rattle.dn_wire.specs.declared.ids.ClientId.{ClientId}
use Rattle.dn_state.specs.declared.reading.Audit.{Audit}
use Rattle.dn_state.specs.Parts.{PartsView}
use Rattle.dn_headline.specs.Log as log
use Rattle.dn_headline.specs.Run.{RunView}
use Rattle.dn_headline.specs.Clean.{Clean}
use Rattle.dn_steps.specs.Dealt.{IsDealtGroup}
use Rattle.dn_steps.specs.Tied.{IsTied}
use Rattle.dn_steps.specs.Audited.{IsAudited, SaysRight}
use Rattle.dn_world.specs.declared.step.Step.{Step}
use Rattle.dn_world.specs.Run.{WorldView}
use Rattle.dn_world.specs.Promises.{KeepsPromises}

-- an event of a run, with what came of it
abbrev pub step_of : Step → log.Step
step_of s = record { event = s.event; outcomes = s.outcomes }

-- The run is of the group as it was dealt, whose slots have these owners, with its corrupt members; and it has these events.
pub record IsRunOf (v : WorldView) (w : RunView) : Type 0 where
  pub owners : List ClientId
  pub dealt : IsDealtGroup v.spec owners v.corrupt w.group
  pub roster : w.group.roster ≡ v.roster
  pub history : w.history ≡ map step_of v.history

-- the world's parts are tied to the run, and its audit knows of it
pub record IsAlong (w : RunView) (parts : PartsView) : Type 0 where
  pub tied : IsTied w parts
  pub audited : IsAudited w parts

-- There is a run of which the promises hold; and as long as memory wasn't wanting the world's parts go along with it.
pub record IsKept (v : WorldView) (parts : PartsView) : Type 0 where
  pub run : RunView
  pub of : IsRunOf v run
  pub promises : KeepsPromises run
  pub along : v.spent ≡ false → IsAlong run parts

-- the world is a run of its group, of which the promises hold
pub record IsPlayed (v : WorldView) : Type 0 where
  pub run : RunView
  pub of : IsRunOf v run
  pub promises : KeepsPromises run

-- ---- the audit

-- the audit says yes three times
pub record SaysYes (audit : Audit) : Type 0 where
  pub signed : IsTrue audit.signed
  pub digests : IsTrue audit.digests
  pub honest : IsTrue audit.honest

-- The world is a run of its group, of which the promises hold, and which is clean where the audit says yes three times. As long as memory wasn't
-- wanting, each of its words is yes exactly where it is so in the run.
pub record Vouches (v : WorldView) (audit : Audit) : Type 0 where
  pub run : RunView
  pub of : IsRunOf v run
  pub promises : KeepsPromises run
  pub clean : SaysYes audit → Clean run
  pub exact : v.spent ≡ false → SaysRight run audit
