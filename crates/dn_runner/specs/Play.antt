-- Which runs a script can come to.
use Rattle.std.specs.Prelude.{◌≡◌, ◌==◌, if◌then◌else◌, ℕ, zero, suc, Bool, false, List, [], ◌∷◌, ◌++◌, length, map, All, Option, Some, None}
use Rattle.std.specs.List.{list_any}
use Rattle.dn_wire.specs.declared.ids.ClientId.{ClientId}
use Rattle.dn_wire.specs.declared.ids.Member.{Member}
use Rattle.dn_wire.specs.declared.ids.Member.TheVariants as members
use Rattle.dn_roster.specs.declared.group.GroupSpec.{GroupSpec}
use Rattle.dn_roster.specs.Group.{IsWithinLimits}
use Rattle.dn_seal.specs.Dealt.{dealt_roster}
use Rattle.dn_script.specs.declared.script_line.ScriptLine.{ScriptLine}
use Rattle.dn_script.specs.declared.script_line.ScriptLine.TheVariants as lines
use Rattle.dn_script.specs.Script.{Lines}
use Rattle.dn_state.specs.Events as events
use Rattle.dn_headline.specs.Run.{RunView}
use Rattle.dn_headline.specs.Clean.{Clean}
use Rattle.dn_steps.specs.Dealt.{IsDealtGroup}
use Rattle.dn_world.specs.Promises.{KeepsPromises}
use Rattle.dn_world.specs.Kept.{SaysYes, step_of}
use Rattle.dn_run_report.specs.Report.{PlayedView, events_shown, numbers_below}

-- the group that a line says, if it is a group's first line
abbrev pub group_in : ScriptLine → Option GroupSpec
group_in (lines.Group version clients servers ots client_lms server_lms seed) = Some record {
  version = version;
  clients = clients;
  servers = servers;
  ots = ots;
  client_lms = client_lms;
  server_lms = server_lms;
  seed = seed;
}
group_in line = None

-- the group of a script
abbrev pub group_of : Lines → Option GroupSpec
group_of [] = None
group_of (line ∷ rest) = group_in line.1

-- the script says a group in its first line, within the limits of groups
pub record HasGroup (script : Lines) : Type 0 where
  pub group : GroupSpec
  pub says : group_of script ≡ Some group
  pub limits : IsWithinLimits group

-- the members that a line says are corrupt
abbrev pub corrupt_in : ScriptLine → List Member
corrupt_in (lines.Corrupt members) = members
corrupt_in line = []

-- the corrupt members that a script names, in its second line
abbrev pub corrupt_of : Lines → List Member
corrupt_of [] = []
corrupt_of (first ∷ []) = []
corrupt_of (first ∷ second ∷ rest) = corrupt_in second.1

abbrev pub is_server : ℕ → Member → Bool
is_server j (members.Server other) = other.0 == j
is_server j (members.Client other) = false

abbrev pub is_client : ℕ → Member → Bool
is_client i (members.Client other) = other.0 == i
is_client i (members.Server other) = false

-- the servers among these members with numbers below n, by number
abbrev pub servers_among : List Member → ℕ → List Member
servers_among named zero = []
servers_among named (suc j) = servers_among named j ++ (if list_any (is_server j) named then members.Server (record { 0 = j }) ∷ [] else [])

-- the clients among these members with numbers below n, by number
abbrev pub clients_among : List Member → ℕ → List Member
clients_among named zero = []
clients_among named (suc i) = clients_among named i ++ (if list_any (is_client i) named then members.Client (record { 0 = i }) ∷ [] else [])

-- the corrupt members of a group: servers first, each by number
abbrev pub in_order : GroupSpec → List Member → List Member
in_order group named = servers_among named group.servers ++ clients_among named group.clients

-- What is told is a run of the group as it was dealt, with the corrupt members that the script names, of these events with what came of them. The
-- promises hold of it; and it is clean where the audit says yes three times.
pub record TellsRun (script : Lines) (p : PlayedView) : Type 0 where
  pub run : RunView
  pub owners : List ClientId
  pub dealt : IsDealtGroup p.group owners (corrupt_of script) run.group
  pub history : run.history ≡ map step_of p.history
  pub promises : KeepsPromises run
  pub clean : SaysYes p.audit → Clean run

-- A run that a script can come to: of the script's group, dealt from its seed, with its corrupt members; of events within their limits,
-- which are shown in their order, each once.
pub record IsPlayOf (script : Lines) (p : PlayedView) : Type 0 where
  pub group : group_of script ≡ Some p.group
  pub limits : IsWithinLimits p.group
  pub roster : p.roster ≡ dealt_roster p.group
  pub corrupt : p.corrupt ≡ in_order p.group (corrupt_of script)
  pub events : All (λ s. events.IsWithinLimits s.event) p.history
  pub shown : events_shown p.shown ≡ numbers_below (length p.history)
  pub tells : TellsRun script p
