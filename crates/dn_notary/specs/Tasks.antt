-- What `notary` and `notarized` make of their input: which texts they refuse, and which output is due.
use Rattle.std.specs.Prelude.{◌≡◌, ℕ, List, ◌++◌, codes, Ok, Err}
use Rattle.std.specs.Fmt.{decimal}
use Rattle.std.specs.declared.option.Option.{Option}
use Rattle.dn_wire.specs.declared.limits.TheConstants.{MAX_SCRIPT_BYTES, MAX_REPORT_BYTES}
use Rattle.dn_io.specs.declared.status.Status.{Status}
use Rattle.dn_io.specs.declared.status.Status.TheVariants as status
use Rattle.dn_io.specs.Task.{Task, Outside}
use Rattle.dn_script.specs.Script.{parts_of}
use Rattle.dn_notary.specs.Entries.{entries_of}
use Rattle.dn_notary.specs.Signed.{notary_text}
use Rattle.dn_notary.specs.Notarized.{JudgesText}
use Rattle.dn_notary.specs.declared.verdict.Verdict.TheVariants.{Accepted, Broken}

-- ---- notary

-- the text's first bad line, and what is wrong with it
abbrev pub HasBadLine : List ℕ → Status → Type 0
HasBadLine text (status.BadLine number cause) = entries_of text ≡ Err (number, cause)
HasBadLine text s = ⊥

-- the text lists entries, and these are signed
pub record IsSignedFor (num : ℕ) (text due : List ℕ) : Type 0 where
  pub entries : List (List ℕ)
  pub listed : entries_of text ≡ Ok entries
  pub signed : due ≡ notary_text num entries

abbrev pub notary_task : ℕ → Task
notary_task num = record { limit = MAX_SCRIPT_BYTES; Refuses = HasBadLine; Due = IsSignedFor num }

-- ---- notarized

-- the first line that breaks a rule, and the least rule that it breaks
abbrev pub BreaksARule : List ℕ → Status → Type 0
BreaksARule text (status.NotAccepted line rule) = JudgesText (parts_of text) (Broken line rule)
BreaksARule text s = ⊥

abbrev pub count_text : ℕ → List ℕ
count_text count = codes "notarized " ++ decimal count ++ codes "\n"

-- no line breaks a rule, and this tells how many entries are signed
pub record IsNotarized (text due : List ℕ) : Type 0 where
  pub count : ℕ
  pub accepted : JudgesText (parts_of text) (Accepted count)
  pub told : due ≡ count_text count

abbrev pub notarized_task : Task
notarized_task = record { limit = MAX_REPORT_BYTES; Refuses = BreaksARule; Due = IsNotarized }

-- the input's and the output's side of the outside at one moment
abbrev pub outside : Option (List ℕ) → Option (List ℕ) → ℕ → ℕ → Outside
outside left held read_faults write_faults =
    record { left = left; held = held; read_faults = read_faults; write_faults = write_faults }
