use Rattle.std.proofs.Common.{◌≡◌}
use Rattle.std.specs.Prelude.{All}
use Rattle.dn_lms.specs.Key.{IsKey}
use Rattle.dn_seal.specs.Dealt.{keys_dealt_to, nth_signer}
use Rattle.dn_seal.proofs.dealt.deal_keys.Given as goal

abbrev pub invariant-loop-number : goal.invariant-loop-number
invariant-loop-number l = record {
  dealt : l.keys.items ≡ keys_dealt_to l.spec (nth_signer l.kind) l.number;
  keys : All IsKey l.keys.items;
}
