-- How each command ends.
use Rattle.std.specs.Prelude.{◌≡◌, ℕ, List}
use Rattle.std.specs.declared.option.Option.{Option}
use Rattle.dn_io.specs.declared.status.Status.{Status}
use Rattle.dn_io.specs.declared.status.Status.TheVariants as status
use Rattle.dn_io.specs.Task.{Outside, Ends, EndsUnread, IsDue}
use Rattle.dn_gen.specs.Generated.{generated}
use Rattle.dn_notary.specs.Tasks.{notary_task, notarized_task}
use Rattle.dn_verify.specs.Verify.{verify_task}
use Rattle.dn_cmd.specs.declared.command.Command.{Command}
use Rattle.dn_cmd.specs.declared.command.Command.TheVariants.{Run, Verify, Check, Gen, Demo, Notary, Notarized}
use Rattle.dn_cmd.specs.Run.{script_task}
use Rattle.dn_cmd.specs.Check.{check_task}
use Rattle.dn_cmd.specs.Demo.{EndsDemo}

-- the input's and the output's side of the outside at one moment
abbrev pub outside : Option (List ℕ) → Option (List ℕ) → ℕ → ℕ → Outside
outside left held read_faults write_faults =
    record { left = left; held = held; read_faults = read_faults; write_faults = write_faults }

-- how the command ended with this status: what it had read then, and what it had written
abbrev pub Answers : Command → Outside → Outside → Status → Type 0
Answers Run before after s = Ends script_task before after s
Answers Verify before after s = Ends verify_task before after s
Answers Check before after s = Ends check_task before after s
Answers (Gen num) before after s = EndsUnread (generated num) before.held after.held before.write_faults after.write_faults s
Answers (Demo num) before after s = EndsDemo num before.held after.held before.write_faults after.write_faults s
Answers (Notary num) before after s = Ends (notary_task num) before after s
Answers Notarized before after s = Ends notarized_task before after s

-- the status of the command on this input, where neither memory nor the outside fails
abbrev pub IsAnswer : Command → List ℕ → Status → Type 0
IsAnswer Run text s = IsDue script_task text s
IsAnswer Verify text s = IsDue verify_task text s
IsAnswer Check text s = IsDue check_task text s
IsAnswer (Gen num) text s = s ≡ status.Ok
IsAnswer (Demo num) text s = s ≡ status.Ok
IsAnswer (Notary num) text s = IsDue (notary_task num) text s
IsAnswer Notarized text s = IsDue notarized_task text s
