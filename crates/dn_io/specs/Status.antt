-- How a command ended: the line on standard error, and the number of the process.
use Rattle.std.specs.Prelude.{ℕ, List, [], ◌++◌, codes}
use Rattle.std.specs.Fmt.{decimal}
use Rattle.dn_io.specs.declared.status.Status.{Status}
use Rattle.dn_io.specs.declared.status.Status.TheVariants.{Ok, NotAccepted, Usage, ReadFault, WriteFault, BadLine, TooLong, NoMemory}
use Rattle.dn_io.specs.declared.reading.ReadEnd.{ReadEnd}
use Rattle.dn_io.specs.declared.reading.ReadEnd.TheVariants as reading
use Rattle.dn_io.specs.declared.writing.WriteEnd.{WriteEnd}
use Rattle.dn_io.specs.declared.writing.WriteEnd.TheVariants as writing
use Rattle.dn_io.specs.Cause.{cause_text}
use Rattle.dn_io.specs.Rule.{rule_text}

-- the line on standard error, without its end; nothing where the work is done
unfoldable pub status_text : Status → List ℕ
status_text Ok = []
status_text (NotAccepted line rule) = codes "dissent: line " ++ (decimal line ++ (codes ": not accepted (" ++ (rule_text rule ++ codes ")")))
status_text Usage = codes "usage: dissent run | verify | check | gen NUM | demo NUM | complaints | epochs | texts | notary NUM | notarized"
status_text ReadFault = codes "dissent: read fault"
status_text WriteFault = codes "dissent: write fault"
status_text (BadLine number cause) = codes "dissent: line " ++ (decimal number ++ (codes ": " ++ cause_text cause))
status_text (TooLong limit) = codes "dissent: input longer than " ++ (decimal limit ++ codes " bytes")
status_text NoMemory = codes "dissent: no memory"

-- the number with which the process ends
abbrev pub exit_number : Status → ℕ
exit_number Ok = 0
exit_number (NotAccepted line rule) = 1
exit_number Usage = 2
exit_number ReadFault = 3
exit_number WriteFault = 4
exit_number (BadLine number cause) = 5
exit_number (TooLong limit) = 6
exit_number NoMemory = 7

-- the status of a command whose input was not read whole
abbrev pub read_status : ReadEnd → Status
read_status reading.ReadFault = ReadFault
read_status (reading.TooLong limit) = TooLong limit
read_status reading.NoMemory = NoMemory

-- the status of a command whose output was not written whole
abbrev pub write_status : WriteEnd → Status
write_status writing.WriteFault = WriteFault
write_status writing.NoMemory = NoMemory
