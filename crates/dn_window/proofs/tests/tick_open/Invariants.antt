use Rattle.std.proofs.Common.{◌≡◌}
use Rattle.dn_window.specs.Window.{clients_of}
use Rattle.dn_window.proofs.tests.tick_open.Given as goal

abbrev pub invariant-loop-i : goal.invariant-loop-i
invariant-loop-i g l = clients_of l.window ≡ clients_of l.initial.window
