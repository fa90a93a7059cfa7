-- What is kept of the puppets of a group's corrupt servers.
use Rattle.std.specs.Prelude.{◌≡◌, List, Option, Some, None, All}
use Rattle.dn_roster.specs.Roster.{RosterView}

-- a server's puppet that is there is one of the group with this roster
abbrev pub IsOfRoster : RosterView → Option RosterView → Type 0
IsOfRoster roster None = Unit {0}
IsOfRoster roster (Some other) = other ≡ roster

abbrev pub AreOfGroup : RosterView → List (Option RosterView) → Type 0
AreOfGroup roster servers = All (IsOfRoster roster) servers
