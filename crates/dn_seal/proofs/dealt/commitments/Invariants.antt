use Rattle.std.proofs.Common.{◌≡◌}
use Rattle.dn_seal.specs.Dealt.{each_pair, commitment_dealt_to}
use Rattle.dn_seal.proofs.dealt.commitments.Given as goal

abbrev pub invariant-loop-i : goal.invariant-loop-i
invariant-loop-i l = l.seals.items ≡ each_pair (commitment_dealt_to l.spec) l.i l.spec.servers
