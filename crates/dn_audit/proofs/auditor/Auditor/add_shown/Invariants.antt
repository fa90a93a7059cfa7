use Rattle.std.proofs.Common.{take}
use Rattle.dn_audit.specs.Auditor.{AddsStrings, with_ciphers}
use Rattle.dn_audit.proofs.auditor.Auditor.add_shown.Given as goal

abbrev pub invariant-loop-each : goal.invariant-loop-each
invariant-loop-each l = AddsStrings l.initial.self l.self (with_ciphers l.r.0 (take l.each-index l.shown))
