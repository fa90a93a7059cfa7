use Rattle.std.proofs.Common.{◌∙◌, ◌++◌, [], ◌∷◌, ap}
use Rattle.std.specs.Int.{w32, to_be_bytes}
use Rattle.std.proofs.lemmas.List.{append_assoc}
use Rattle.sha2.specs.Sha256.{sha256}
use Rattle.dn_lms.specs.Tree.{leaf_hash}
use Rattle.dn_lms.proofs.nodes.leaf_hash.Goals as goal

pub returns : goal.returns
unfolding leaf_hash
returns c =
    c.finalize.ensures _ (c.update.ensures _ c.node_hasher-hasher.ensures)
    ∙ ap sha256 (append_assoc (c.args.id.now ++ to_be_bytes w32 c.args.r) (0x82 ∷ 0x82 ∷ []) c.args.key.now)
