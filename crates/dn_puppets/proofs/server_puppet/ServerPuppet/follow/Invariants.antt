use Rattle.std.proofs.Common.{◌≡◌}
use Rattle.dn_puppets.proofs.server_puppet.ServerPuppet.follow.Given as goal

abbrev pub invariant-loop-act : goal.invariant-loop-act
invariant-loop-act l = l.self ≡ l.initial.self
