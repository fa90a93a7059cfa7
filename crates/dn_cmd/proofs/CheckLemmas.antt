-- How `check` ends.
use Rattle.std.proofs.Common.{◌≡◌, List, ℕ, length, Ok, sym, ap, ◌∙◌}
use Rattle.dn_io.specs.Task.{Outside, Came, CameFor}
use Rattle.dn_script.specs.Script.{Lines, script_of}
use Rattle.dn_script.proofs.ScriptLaws.{script_spelled}
use Rattle.dn_cmd.specs.Check.{check_task, count_text}

-- a text that came and was read as a script
pub count_came : (before after : Outside) (text items due : List ℕ) (script : Lines) → text ≡ items
    → Came check_task.limit before after items → script_of text ≡ Ok script → due ≡ count_text (length script)
    → CameFor check_task before after due
count_came before after text items due script same came read given = record {
  text = items;
  came = came;
  is_due = (script, script_spelled items script (ap script_of (sym same) ∙ read), given);
}
