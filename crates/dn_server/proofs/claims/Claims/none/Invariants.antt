use Rattle.std.proofs.Common.{◌≡◌, None}
use Rattle.std.specs.Prelude.{replicate}
use Rattle.dn_server.proofs.claims.Claims.none.Given as goal

abbrev pub invariant-loop : goal.invariant-loop
invariant-loop l = l.claims.items ≡ replicate l.counter None
