-- What `check` makes of its input: which texts it refuses, and which text is due to a script.
use Rattle.std.specs.Prelude.{◌≡◌, ℕ, List, ◌++◌, length, codes}
use Rattle.std.specs.Fmt.{decimal}
use Rattle.dn_wire.specs.declared.limits.TheConstants.{MAX_SCRIPT_BYTES}
use Rattle.dn_io.specs.declared.status.Status.{Status}
use Rattle.dn_io.specs.declared.status.Status.TheVariants as status
use Rattle.dn_io.specs.Task.{Task}
use Rattle.dn_script.specs.Script.{Lines, IsFirstBad}
use Rattle.dn_script.specs.Spelled.{Spells}

-- the text's first bad line, and what is wrong with it
abbrev pub HasBadLine : List ℕ → Status → Type 0
HasBadLine text (status.BadLine number cause) = IsFirstBad text number cause
HasBadLine text status = ⊥

abbrev pub count_text : ℕ → List ℕ
count_text count = codes "script " ++ decimal count ++ codes " lines\n"

-- the text spells a script, plain or of a group, and this tells how many lines of it count
abbrev pub IsCountFor : List ℕ → List ℕ → Type 0
IsCountFor text due = (script : Lines) × Spells text script × (due ≡ count_text (length script))

abbrev pub check_task : Task
check_task = record { limit = MAX_SCRIPT_BYTES; Refuses = HasBadLine; Due = IsCountFor }
