use Rattle.std.proofs.Common.{◌≡◌, drop}
use Rattle.dn_script.specs.Plain.{said_by}
use Rattle.dn_script.proofs.plain.said_by.Given as goal

abbrev pub invariant-loop-line : goal.invariant-loop-line
invariant-loop-line l = said_by l.lines l.client.0 ≡ said_by (drop l.line-index l.lines) l.client.0
