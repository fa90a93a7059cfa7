-- The digests of the protocol: SHA-256 (FIPS 180-4, section 6.2) of a tag and what the tag stands for.
use Rattle.std.specs.Prelude.{ℕ, List, ◌++◌, take}
use Rattle.sha2.specs.Sha256.{sha256}
use Rattle.dn_hash.specs.Inputs.{seed_input, cipher_input, server_input, mask_key_input, block_input, mask_seed_input, group_input}

-- the digest of a tag and two pieces
unfoldable pub tagged_digest : List ℕ → List ℕ → List ℕ → List ℕ
tagged_digest tag a b = sha256 (tag ++ a ++ b)

-- what binds client i and server j to the seed that they share
unfoldable pub seed_commitment_of : ℕ → ℕ → List ℕ → List ℕ
seed_commitment_of i j seed = sha256 (seed_input i j seed)

-- the digest of the ciphertext c, as bytes, of client i in round r
unfoldable pub cipher_digest_of : ℕ → ℕ → List ℕ → List ℕ
cipher_digest_of r i c = sha256 (cipher_input r i c)

-- the digest of the server ciphertext s, as bytes, of server j in round r
unfoldable pub server_digest_of : ℕ → ℕ → List ℕ → List ℕ
server_digest_of r j s = sha256 (server_input r j s)

-- the key of a block's mask, from the block's mask seed
unfoldable pub mask_key_of : List ℕ → List ℕ
mask_key_of z = sha256 (mask_key_input z)

-- the check of a block, over all that follows the check
unfoldable pub block_check_of : List ℕ → List ℕ
block_check_of rest = take 8 (sha256 (block_input rest))

-- the mask seed of the client with this mask secret in round r
unfoldable pub mask_seed_of : List ℕ → ℕ → List ℕ
mask_seed_of secret r = take 16 (sha256 (mask_seed_input secret r))

-- the digest of a group of this version, from its roster's bytes
unfoldable pub group_digest_of : ℕ → List ℕ → List ℕ
group_digest_of version roster = sha256 (group_input version roster)
