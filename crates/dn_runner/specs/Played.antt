-- What is kept while a script is run.
use Rattle.std.specs.Prelude.{◌≡◌, List, [], ◌∷◌, length, All}
use Rattle.dn_wire.specs.declared.ids.Member.{Member}
use Rattle.dn_roster.specs.declared.group.GroupSpec.{GroupSpec}
use Rattle.dn_roster.specs.Group as group
use Rattle.dn_roster.specs.Roster.{RosterView}
use Rattle.dn_seal.specs.Dealt.{dealt_roster}
use Rattle.dn_world.specs.declared.step.Step.{Step}
use Rattle.dn_world.specs.Run.{WorldView}
use Rattle.dn_state.specs.Events as events
use Rattle.dn_run_report.specs.declared.shown.Shown.{Shown}
use Rattle.dn_run_report.specs.Report.{events_shown, numbers_below}

-- a group as it was dealt, and its corrupt members
pub record Named : Type 0 where
  pub spec : GroupSpec
  pub corrupt : List Member

-- the group, the events so far with what came of them, and what is shown of them
pub record RunView : Type 0 where
  pub group : Named
  pub history : List Step
  pub shown : List Shown

-- the events are within their limits, and are shown in their order, each once
pub record IsInOrder (v : RunView) : Type 0 where
  pub events : All (λ s. events.IsWithinLimits s.event) v.history
  pub shown : events_shown v.shown ≡ numbers_below (length v.history)

-- the roster, the world and the puppets are of the group, dealt from its seed
pub record IsKept (v : RunView) (roster : RosterView) (world : WorldView) (puppets : RosterView) : Type 0 where
  pub limits : group.IsWithinLimits v.group.spec
  pub roster_is : roster ≡ dealt_roster v.group.spec
  pub world_is : world.roster ≡ roster
  pub spec_is : world.spec ≡ v.group.spec
  pub puppets_are : puppets ≡ world.roster
  pub order : IsInOrder v

-- what is shown is no event
abbrev pub IsMark : Shown → Type 0
IsMark shown = events_shown (shown ∷ []) ≡ []
