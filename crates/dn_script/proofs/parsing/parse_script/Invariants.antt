use Rattle.std.proofs.Common.{◌≡◌, ◌≤◌, ◌<◌, ◌+◌, length}
use Rattle.dn_script.specs.Script.{script_of, behind, read_parts, parts_of}
use Rattle.dn_script.proofs.parsing.parse_script.Given as goal

abbrev pub invariant-loop-line : goal.invariant-loop-line
invariant-loop-line l = record {
  read : behind l.parser.lines.items (read_parts (parts_of l.rest) l.parser.reading l.number l.parser.count) ≡ script_of l.text;
  number : l.number + length l.rest ≤ length l.text + 1;
  count : l.parser.count < l.number;
}

abbrev pub decreases-loop-line : goal.decreases-loop-line
decreases-loop-line l = length l.rest
