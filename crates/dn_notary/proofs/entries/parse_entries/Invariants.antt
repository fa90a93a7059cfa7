use Rattle.std.proofs.Common.{◌≡◌, ◌≤◌, ◌+◌, length}
use Rattle.dn_script.specs.Script.{parts_of}
use Rattle.dn_notary.specs.Entries.{entries_of, read_parts}
use Rattle.dn_notary.proofs.entries.parse_entries.Given as goal

abbrev pub invariant-loop-line : goal.invariant-loop-line
invariant-loop-line l = record {
  read : read_parts (parts_of l.rest) l.listing l.number ≡ entries_of l.text;
  number : l.number + length l.rest ≤ length l.text + 1;
}

abbrev pub decreases-loop-line : goal.decreases-loop-line
decreases-loop-line l = length l.rest
