-- What `demo` writes of the run of a large script.
use Rattle.std.specs.Prelude.{◌≡◌, ℕ, Bool, true, false, List, ◌++◌, ◌⊎◌, codes, count_by, sum_by, Option, if◌then◌else◌}
use Rattle.std.specs.Io.KnownBytes.{Keeps}
use Rattle.std.specs.Fmt.{decimal}
use Rattle.hex.specs.Hex.{encode_lower}
use Rattle.dn_io.specs.declared.status.Status.{Status}
use Rattle.dn_io.specs.declared.status.Status.TheVariants as status
use Rattle.dn_io.specs.Task.{EndsUnread}
use Rattle.dn_hash.specs.Digests.{tagged_digest}
use Rattle.dn_report.specs.declared.outcome.Outcome.{Outcome}
use Rattle.dn_report.specs.declared.outcome.Outcome.TheVariants as outcomes
use Rattle.dn_gen.specs.Generated.{generated}
use Rattle.dn_script.specs.Script.{Lines}
use Rattle.dn_script.specs.Spelled.{Spells}
use Rattle.dn_world.specs.declared.step.Step.{Step}
use Rattle.dn_state.specs.declared.reading.Audit.{Audit}
use Rattle.dn_run_report.specs.Report.{PlayedView, report_text}
use Rattle.dn_runner.specs.Play.{IsPlayOf}
use Rattle.dn_cmd.specs.declared.showing.Counted.{Counted}
use Rattle.dn_cmd.specs.declared.showing.Counted.TheVariants as counted

-- an outcome is the line of a certified round, or of a message
abbrev pub counts : Counted → Outcome → Bool
counts counted.Rounds (outcomes.Listed r pairs) = true
counts counted.Messages (outcomes.Message r slot text) = true
counts counted.Rounds outcome = false
counts counted.Messages outcome = false

-- how many outcomes of a run are so
abbrev pub count_in : Counted → List Step → ℕ
count_in counted steps = sum_by (λ step. count_by (counts counted) step.outcomes) steps

abbrev pub word_of : Bool → List ℕ
word_of told = if told then codes "yes" else codes "no"

abbrev pub audit_words : Audit → List ℕ
audit_words audit = word_of audit.signed ++ codes " " ++ word_of audit.digests ++ codes " " ++ word_of audit.honest

-- the number of the script, the certified rounds and the messages of its run, the audit's words, and the SHA-256 of the report
abbrev pub demo_text : ℕ → PlayedView → List ℕ
demo_text num p =
    codes "demo " ++ decimal num ++ codes "\nrounds " ++ decimal (count_in counted.Rounds p.history)
    ++ codes "\nmessages " ++ decimal (count_in counted.Messages p.history)
    ++ codes "\naudit " ++ audit_words p.audit
    ++ codes "\nreport " ++ encode_lower (tagged_digest (codes "") (report_text p) (codes "")) ++ codes "\n"

-- this is due to the run that the large script of the number came to
abbrev pub IsDemoOf : ℕ → PlayedView → Type 0
IsDemoOf num p = (script : Lines) × Spells (generated num) script × IsPlayOf script p

-- how `demo` ended, by what the output held, where it tells it, and how often it had failed, before and after it
abbrev pub EndsDemo : ℕ → Option (List ℕ) → Option (List ℕ) → ℕ → ℕ → Status → Type 0
EndsDemo num held_before held_after faults_before faults_after status.NoMemory =
    Keeps held_before held_after
    ⊎ ((p : PlayedView) × IsDemoOf num p × EndsUnread (demo_text num p) held_before held_after faults_before faults_after status.NoMemory)
EndsDemo num held_before held_after faults_before faults_after s =
    (p : PlayedView) × IsDemoOf num p × EndsUnread (demo_text num p) held_before held_after faults_before faults_after s
