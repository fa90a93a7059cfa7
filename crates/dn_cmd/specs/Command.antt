-- The commands, as words.
use Rattle.std.specs.Prelude.{ℕ, List, [], ◌∷◌, codes, Option, Some, None, if◌then◌else◌}
use Rattle.std.specs.Str.{bytes_eq}
use Rattle.dn_lines.specs.Field.{made}
use Rattle.dn_lines.specs.Fields.{long_number}
use Rattle.dn_cmd.specs.declared.command.Command.{Command}
use Rattle.dn_cmd.specs.declared.command.Command.TheVariants.{Run, Verify, Check, Gen, Demo, Notary, Notarized}

-- the command that these words are, if they are one; a number is at most 2^64 - 1, in decimal digits with no zero in front of others
abbrev pub command_of : List (List ℕ) → Option Command
command_of [] = None
command_of (word ∷ []) =
    if bytes_eq word (codes "run") then Some Run
    else (if bytes_eq word (codes "verify") then Some Verify
    else (if bytes_eq word (codes "check") then Some Check
    else (if bytes_eq word (codes "notarized") then Some Notarized else None)))
command_of (word ∷ number ∷ []) =
    if bytes_eq word (codes "gen") then made Gen (long_number.read number)
    else (if bytes_eq word (codes "demo") then made Demo (long_number.read number)
    else (if bytes_eq word (codes "notary") then made Notary (long_number.read number) else None))
command_of (word ∷ next ∷ other ∷ words) = None
