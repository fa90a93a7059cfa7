use Rattle.std.proofs.Common.{◌∙◌, ap}
use Rattle.sha2.specs.Sha256.{sha256}
use Rattle.dn_ots.specs.Ots.{message_hash}
use Rattle.dn_ots.proofs.KeyLemmas.{pieces}
use Rattle.dn_ots.proofs.hashers.message_hash.Goals as goal

pub returns : goal.returns
unfolding message_hash
returns c =
    let held = c.update.ensures _ c.leaf_hasher-hasher.ensures in
    c.finalize.ensures _ (c.update-2.ensures _ held) ∙ ap sha256 (pieces _ _ c.args.c.now c.args.msg.now)
