use Rattle.std.proofs.Common.{◌∙◌, ◌++◌, ap}
use Rattle.std.specs.Int.{w32, to_be_bytes}
use Rattle.sha2.specs.Sha256.{sha256}
use Rattle.dn_ots.proofs.KeyLemmas.{pieces}
use Rattle.dn_lms.specs.Tree.{inner_hash}
use Rattle.dn_lms.proofs.nodes.inner_hash.Goals as goal

pub returns : goal.returns
unfolding inner_hash
returns c =
    let held = c.update.ensures _ c.node_hasher-hasher.ensures in
    c.finalize.ensures _ (c.update-2.ensures _ held) ∙ ap sha256 (pieces (c.args.id.now ++ to_be_bytes w32 c.args.r) _ c.args.left.now c.args.right.now)
