use Rattle.std.proofs.Common.{take}
use Rattle.dn_cert.specs.Trim.{IsTrim}
use Rattle.dn_cert.proofs.trimming.trim.Given as goal

abbrev pub invariant-loop-j : goal.invariant-loop-j
invariant-loop-j l = IsTrim (take l.j l.inventories) l.listed.items
