use Rattle.std.proofs.Common.{arith, [], ap, ◌∙◌, ◌≡◌, ◌<◌, length}
use Rattle.dn_lms.specs.Key.{leaf_count}
use Rattle.dn_lms_definitions.proofs.Laws.{sizes, lms_signature-verifies}
use Rattle.dn_seal.proofs.dealt.public_key.Goals as goal

-- what a key signs verifies, and so its public key has its length
pub copy_from_slice-requires : goal.copy_from_slice-requires
copy_from_slice-requires c =
    let key = c.args.key.now in
    let some : 0 < leaf_count key = omega (arith, (sizes key.lms c.requires.lms_known).some) in
    let long : length c.in_ok-bytes.bytes.items ≡ 56 = ap length c.in_ok-bytes.ensures ∙ (lms_signature-verifies key 0 [] c.requires some).key_long in
    omega (arith, long, ap length c.deref.ensures.value)
