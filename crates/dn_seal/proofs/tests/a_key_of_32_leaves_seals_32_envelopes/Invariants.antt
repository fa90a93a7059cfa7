use Rattle.std.proofs.Common.{◌≡◌}
use Rattle.dn_seal.proofs.tests.a_key_of_32_leaves_seals_32_envelopes.Given as goal

abbrev pub invariant-loop-r : goal.invariant-loop-r
invariant-loop-r g l = l.pass.drawer ≡ l.signer.drawer
