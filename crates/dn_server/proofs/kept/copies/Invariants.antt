use Rattle.std.proofs.Common.{◌≡◌, take}
use Rattle.dn_server.proofs.kept.copies.Given as goal

abbrev pub invariant-loop-said : goal.invariant-loop-said
invariant-loop-said l = l.copies.items ≡ take l.said-index l.kept
