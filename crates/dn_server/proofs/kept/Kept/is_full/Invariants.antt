use Rattle.dn_server.specs.Keeping.{HasAll, byte_for}
use Rattle.dn_server.proofs.kept.Kept.is_full.Given as goal

abbrev pub invariant-loop-j : goal.invariant-loop-j
invariant-loop-j l = HasAll (byte_for l.kind) l.self l.j
