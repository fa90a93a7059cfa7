-- How `run` ends.
use Rattle.std.proofs.Common.{◌≡◌, List, ℕ, Option, Some, None, Ok, Err, sym, ap, ◌∙◌, inl, inr, refl}
use Rattle.std.specs.Prelude.{◌⊎◌}
use Rattle.std.specs.Io.KnownBytes.{Keeps}
use Rattle.dn_io.specs.declared.status.Status.{Status}
use Rattle.dn_io.specs.declared.status.Status.TheVariants as status
use Rattle.dn_io.specs.Task.{Outside, Came, CameFor, Ends, EndsUnread}
use Rattle.dn_script.specs.declared.script.ScriptFault.{ScriptFault}
use Rattle.dn_script.specs.declared.script.ScriptFault.TheVariants.{BadLine, NoMemory}
use Rattle.dn_script.specs.Plain.{Plain, plain_of}
use Rattle.dn_script.specs.Script.{Lines, script_of}
use Rattle.dn_script.specs.Spelled.{Spells}
use Rattle.dn_script.specs.Parsed.{GivesScript}
use Rattle.dn_script.proofs.ScriptLaws.{script_spelled}
use Rattle.dn_run_report.specs.Report.{PlayedView, report_text}
use Rattle.dn_runner.specs.Play.{HasGroup, IsPlayOf}
use Rattle.dn_runner.proofs.GroupLemmas.{not_plain}
use Rattle.dn_cmd.specs.Round.{plain_text}
use Rattle.dn_cmd.specs.Run.{script_task, refusal_of, EndsPlay}

-- a text that came and was read as a plain script
script_came : (before after : Outside) (text items due : List ℕ) (script : Lines) (p : Plain) (plain : Option Plain) → text ≡ items
    → Came script_task.limit before after items → script_of text ≡ Ok script → plain ≡ plain_of script → plain ≡ Some p → due ≡ plain_text p
    → CameFor script_task before after due
script_came before after text items due script p plain same came read is some given = record {
  text = items;
  came = came;
  is_due = inl (p, record { script = script; spells = script_spelled items script (ap script_of (sym same) ∙ read); plain = sym is ∙ some }, given);
}

-- the text that is due to what came was written, or a front of it
ends_written : (before after : Outside) (s : Status) (due : List ℕ) → CameFor script_task before after due
    → EndsUnread due before.held after.held before.write_faults after.write_faults s → Ends script_task before after s
ends_written before after status.Ok due came written = (due, came, written)
ends_written before after status.WriteFault due came written = (written.0, due, came, written.1)
ends_written before after status.NoMemory due came written = inr (due, came, written)
ends_written before after s due came written = absurd written

-- a plain script's text was written
pub ends_plain : (before after : Outside) (s : Status) (text items : List ℕ) (script : Lines) (p : Plain) (plain : Option Plain) → text ≡ items
    → Came script_task.limit before after items → script_of text ≡ Ok script → plain ≡ plain_of script → plain ≡ Some p
    → EndsUnread (plain_text p) before.held after.held before.write_faults after.write_faults s → Ends script_task before after s
ends_plain before after s text items script p plain same came read is some written =
    ends_written before after s (plain_text p) (script_came before after text items (plain_text p) script p plain same came read is some refl) written

-- the report of a run that a group's script came to
report_came : (before after : Outside) (text : List ℕ) (script : Lines) (p : PlayedView) → Came script_task.limit before after text → Spells text script
    → IsPlayOf script p → CameFor script_task before after (report_text p)
report_came before after text script p came spells play = record { text = text; came = came; is_due = inr (script, spells, p, play, refl) }

play_ends : (before after : Outside) (s : Status) (text : List ℕ) (script : Lines) → Came script_task.limit before after text → Spells text script
    → EndsPlay script before.held after.held before.write_faults after.write_faults s → Ends script_task before after s
play_ends before after status.NoMemory text script came spells ended =
    elim ended [
      | inl kept ↦ inl kept
      | inr front ↦ inr (report_text front.0, report_came before after text script front.0 came spells front.1, front.2)
    ]
play_ends before after s text script came spells (p, play, written) =
    ends_written before after s (report_text p) (report_came before after text script p came spells play) written

-- the report of a run was written, or a front of it
pub play_written : (script : Lines) (p : PlayedView) (old new : Option (List ℕ)) (before after : ℕ) (s : Status) → IsPlayOf script p
    → EndsUnread (report_text p) old new before after s → EndsPlay script old new before after s
play_written script p old new before after status.NoMemory play written = inr (p, play, written)
play_written script p old new before after s play written = (p, play, written)

-- a group's script was run
pub ends_group : (before after : Outside) (s : Status) (text items : List ℕ) (script : Lines) → text ≡ items
    → Came script_task.limit before after items → script_of text ≡ Ok script
    → EndsPlay script before.held after.held before.write_faults after.write_faults s → Ends script_task before after s
ends_group before after s text items script same came read =
    play_ends before after s items script came (script_spelled items script (ap script_of (sym same) ∙ read))

-- a script that isn't plain has a group
pub has_group : (text : List ℕ) (script : Lines) (plain : Option Plain) → script_of text ≡ Ok script → plain ≡ plain_of script → plain ≡ None
    → HasGroup script
has_group text script plain read is none = not_plain script (script_spelled text script read).legal (sym is ∙ none)

-- a text that came and was refused
pub refused : (before after : Outside) (text items : List ℕ) (fault : ScriptFault) → text ≡ items → Came script_task.limit before after items
    → Keeps before.held after.held → GivesScript (Err fault) (script_of text) → Ends script_task before after (refusal_of fault)
refused before after text items (BadLine number cause) same came keeps read =
    (keeps, items, came, ap script_of (sym same) ∙ read)
refused before after text items NoMemory same came keeps read = inl keeps
