-- What a call that reads a script or a line of it answers.
use Rattle.std.specs.Prelude.{◌≡◌, Result, Ok, Err}
use Rattle.dn_script.specs.declared.script.ScriptFault.{ScriptFault}
use Rattle.dn_script.specs.declared.script.ScriptFault.TheVariants.{BadLine, NoMemory}
use Rattle.dn_script.specs.Script.{Lines, Parsed}

-- a script is what reading gives, unless memory ran out
abbrev pub GivesScript : Result Lines ScriptFault → Parsed → Type 0
GivesScript (Ok script) read = read ≡ Ok script
GivesScript (Err (BadLine n cause)) read = read ≡ Err (n, cause)
GivesScript (Err NoMemory) read = Unit {0}

-- reading goes on with what is left, or ends with the fault, unless memory ran out
abbrev pub GoesOn : Result (Unit {0}) ScriptFault → Parsed → Parsed → Type 0
GoesOn (Ok x) read left = read ≡ left
GoesOn (Err (BadLine n cause)) read left = read ≡ Err (n, cause)
GoesOn (Err NoMemory) read left = Unit {0}
