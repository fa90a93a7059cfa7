use Rattle.std.proofs.Common.{◌≡◌, drop}
use Rattle.std.specs.List.{list_all}
use Rattle.dn_script.specs.Script.{is_plain_byte}
use Rattle.dn_script.proofs.parsing.is_plain_text.Given as goal

abbrev pub invariant-loop-b : goal.invariant-loop-b
invariant-loop-b l = list_all is_plain_byte (drop l.b-index l.line) ≡ list_all is_plain_byte l.line
