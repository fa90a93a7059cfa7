-- How `demo` ends.
use Rattle.std.proofs.Common.{◌≡◌, ℕ, List, Option, Some, None, Result, Ok, Err, inl, inr, refl, sym, ap, ◌∙◌}
use Rattle.std.specs.Prelude.{◌⊎◌, IfOk, IfSome, MatchOption}
use Rattle.dn_io.specs.declared.status.Status.{Status}
use Rattle.dn_io.specs.declared.status.Status.TheVariants as status
use Rattle.dn_io.specs.Faults.{Rose}
use Rattle.dn_io.specs.Task.{EndsUnread}
use Rattle.dn_gen.specs.Generated.{generated}
use Rattle.dn_script.specs.Script.{Lines, script_of}
use Rattle.dn_script.proofs.ScriptLaws.{script_spelled}
use Rattle.dn_run_report.specs.Report.{PlayedView}
use Rattle.dn_runner.specs.Play.{HasGroup, IsPlayOf}
use Rattle.dn_cmd.specs.declared.command.Command.TheVariants.{Demo}
use Rattle.dn_cmd.specs.Answers.{IsAnswer}
use Rattle.dn_cmd.specs.Demo.{demo_text, IsDemoOf, EndsDemo}

-- what the script came to that was read from the text of the number is a run for the number
pub played_is_demo : {E : Type 0} (num : ℕ) (text : List ℕ) (script : Lines) (r : Result (Option PlayedView) E) → text ≡ generated num
    → script_of text ≡ Ok script → IfOk r (λ played. MatchOption played (¬ HasGroup script) (IsPlayOf script)) → IfOk r (λ played. IfSome played (IsDemoOf num))
played_is_demo num text script (Ok (Some p)) same read play = (script, script_spelled (generated num) script (ap script_of (sym same) ∙ read), play)
played_is_demo num text script (Ok None) same read play = tt
played_is_demo num text script (Err e) same read play = tt

-- the lines of a run were written, or a front of them
pub demo_written : (num : ℕ) (p : PlayedView) (old new : Option (List ℕ)) (before after : ℕ) (s : Status) → IsDemoOf num p
    → EndsUnread (demo_text num p) old new before after s → EndsDemo num old new before after s
demo_written num p old new before after status.NoMemory ran written = inr (p, ran, written)
demo_written num p old new before after s ran written = (p, ran, written)

ends_well : (num : ℕ) (old new : Option (List ℕ)) (before after : ℕ) (s : Status) → EndsDemo num old new before after s
    → (Rose before after → ⊥) → (s ≡ status.Ok) ⊎ (s ≡ status.NoMemory)
ends_well num old new before after status.Ok h still = inl refl
ends_well num old new before after status.NoMemory h still = inr refl
ends_well num old new before after status.WriteFault h still = absurd (still h.2.0)
ends_well num old new before after s h still = absurd h.2

-- with no fault of the output it ends well, unless memory is refused
pub demo_completes : (num : ℕ) (left old new : Option (List ℕ)) (before after : ℕ) (s : Status) → EndsDemo num old new before after s
    → (Rose before after → ⊥) → IfSome left (λ text. IsAnswer (Demo num) text s ⊎ (s ≡ status.NoMemory))
demo_completes num None old new before after s h still = tt
demo_completes num (Some text) old new before after s h still = ends_well num old new before after s h still
