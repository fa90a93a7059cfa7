use Rattle.std.specs.Prelude.{codes}
use Rattle.dn_hash.specs.Digests.{cipher_digest_of}
use Rattle.dn_hash.proofs.Pieces.{same_pieces}
use Rattle.dn_hash.proofs.digests.cipher_digest.Goals as goal

-- the hasher holds the pieces in their order
pub returns : goal.returns
unfolding cipher_digest_of
returns c =
    same_pieces _ (codes "dnsub") _ _ _ _ _ c.to_be_bytes.ensures c.to_be_bytes-2.ensures
    (c.finalize.ensures _ (c.update-4.ensures _ (c.update-3.ensures _ (c.update-2.ensures _ (c.update.ensures _ c.new-hasher.ensures)))))
