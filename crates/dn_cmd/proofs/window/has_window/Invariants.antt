use Rattle.std.proofs.Common.{◌≡◌, drop}
use Rattle.dn_cmd.specs.Window.{has_window}
use Rattle.dn_cmd.proofs.window.has_window.Given as goal

abbrev pub invariant-loop-line : goal.invariant-loop-line
invariant-loop-line l = has_window l.lines ≡ has_window (drop l.line-index l.lines)
