use Rattle.std.proofs.Common.{◌<◌, ℕ}
use Rattle.std.specs.Prelude.{Contains}
use Rattle.dn_wire.specs.declared.ids.Member.TheVariants.{Server}
use Rattle.dn_verify.proofs.honesty.some_honest_server.Given as goal

abbrev pub invariant-loop-j : goal.invariant-loop-j
invariant-loop-j l = (k : ℕ) → k < l.j → Contains l.corrupt (Server (record { 0 = k }))
