use Rattle.std.proofs.Common.{ℕ, ◌<◌}
use Rattle.dn_client.specs.Answering.{ShowsTrue}
use Rattle.dn_client.proofs.openings.first_false.Given as goal

-- the servers so far show the true bit
abbrev pub invariant-loop-j : goal.invariant-loop-j
invariant-loop-j l = (h : ℕ) → h < l.j → ShowsTrue l.shown l.seeds l.i l.r l.k h
