use Rattle.std.proofs.Common.{◌≡◌, ◌≤◌}
use Rattle.dn_gate.specs.Pass.{IsReady}
use Rattle.dn_gate.proofs.tests.submit_some.Given as goal

abbrev pub invariant-loop-i : goal.invariant-loop-i
invariant-loop-i l = record { gate : l.pass.gate ≡ l.gate; clients : l.gate.clients ≡ 512; ready : IsReady l.pass; first : l.first ≤ 448 }
