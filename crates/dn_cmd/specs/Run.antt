-- What `run` makes of its input: which texts it refuses, and which text is due to a script.
use Rattle.std.specs.Prelude.{◌≡◌, ◌⊎◌, ℕ, List}
use Rattle.std.specs.declared.option.Option.{Option}
use Rattle.std.specs.Io.KnownBytes.{Keeps}
use Rattle.dn_wire.specs.declared.limits.TheConstants.{MAX_SCRIPT_BYTES}
use Rattle.dn_io.specs.declared.status.Status.{Status}
use Rattle.dn_io.specs.declared.status.Status.TheVariants as status
use Rattle.dn_io.specs.Sink.{AppendsFront}
use Rattle.dn_io.specs.Task.{Task, EndsUnread}
use Rattle.dn_script.specs.declared.script.ScriptFault.{ScriptFault}
use Rattle.dn_script.specs.declared.script.ScriptFault.TheVariants.{BadLine, NoMemory}
use Rattle.dn_script.specs.Plain.{Plain, SpellsPlain}
use Rattle.dn_script.specs.Script.{Lines, IsFirstBad}
use Rattle.dn_script.specs.Spelled.{Spells}
use Rattle.dn_run_report.specs.Report.{PlayedView, report_text}
use Rattle.dn_runner.specs.Play.{IsPlayOf}
use Rattle.dn_cmd.specs.Round.{plain_text}

-- the text's first bad line, and what is wrong with it
abbrev pub IsRefused : List ℕ → Status → Type 0
IsRefused text (status.BadLine number cause) = IsFirstBad text number cause
IsRefused text status = ⊥

-- the text spells a plain script, and this is what the script gives
abbrev pub IsPlainFor : List ℕ → List ℕ → Type 0
IsPlainFor text due = (p : Plain) × SpellsPlain text p × (due ≡ plain_text p)

-- the text spells the script of a group, and this is the report of a run that the script can come to
abbrev pub IsReportFor : List ℕ → List ℕ → Type 0
IsReportFor text due = (script : Lines) × Spells text script × (p : PlayedView) × IsPlayOf script p × (due ≡ report_text p)

abbrev pub IsScriptFor : List ℕ → List ℕ → Type 0
IsScriptFor text due = IsPlainFor text due ⊎ IsReportFor text due

abbrev pub script_task : Task
script_task = record { limit = MAX_SCRIPT_BYTES; Refuses = IsRefused; Due = IsScriptFor }

-- How a run of a group's script ended with this status, by what the output held, where it tells it, and how often it had failed, before
-- and after it.
abbrev pub EndsPlay : Lines → Option (List ℕ) → Option (List ℕ) → ℕ → ℕ → Status → Type 0
EndsPlay script held_before held_after faults_before faults_after status.NoMemory =
    Keeps held_before held_after
    ⊎ ((p : PlayedView) × IsPlayOf script p × AppendsFront held_before held_after (report_text p))
EndsPlay script held_before held_after faults_before faults_after s =
    (p : PlayedView) × IsPlayOf script p × EndsUnread (report_text p) held_before held_after faults_before faults_after s

-- the status of a script that isn't read
abbrev pub refusal_of : ScriptFault → Status
refusal_of (BadLine number cause) = status.BadLine number cause
refusal_of NoMemory = status.NoMemory
