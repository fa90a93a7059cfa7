use Rattle.std.proofs.Common.{◌∙◌, [], ◌∷◌, ap}
use Rattle.sha2.specs.Sha256.{sha256}
use Rattle.dn_ots.specs.Ots.{randomizer}
use Rattle.dn_ots.proofs.KeyLemmas.{pieces}
use Rattle.dn_ots.proofs.hashers.randomizer.Goals as goal

pub returns : goal.returns
unfolding randomizer
returns c =
    let held = c.update.ensures _ c.leaf_hasher-hasher.ensures in
    c.finalize.ensures _ (c.update-2.ensures _ held) ∙ ap sha256 (pieces _ _ (0xff ∷ []) c.args.seed.now)
