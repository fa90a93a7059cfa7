use Rattle.std.proofs.Common.{◌≡◌, ◌++◌, drop}
use Rattle.std.specs.List.{AllByRecursion}
use Rattle.dn_script.specs.Plain.{plain_lines, CanSay}
use Rattle.dn_script.proofs.plain.lines_behind.Given as goal

abbrev pub invariant-loop-line : goal.invariant-loop-line
invariant-loop-line l = record {
  lines : l.lines.items ++ plain_lines l.bits (drop l.line-index l.rest) ≡ plain_lines l.bits l.rest;
  can : AllByRecursion (λ line. CanSay l.bits line.1) (drop l.line-index l.rest);
}
