use Rattle.std.proofs.Common.{◌≡◌, ◌≤◌, All, vec_len}
use Rattle.dn_seal.specs.Dealt.{dealt_roster}
use Rattle.dn_runner.proofs.living.twins.Given as goal

abbrev pub invariant-loop-j : goal.invariant-loop-j
invariant-loop-j l = record { few : vec_len l.cores ≤ l.j; group : All (λ core. core.seat.roster ≡ dealt_roster l.run.group.spec) l.cores.items }
