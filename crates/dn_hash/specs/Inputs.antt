-- What each digest of the protocol is taken of: a tag and what the tag stands for. Numbers have their high byte first.
use Rattle.std.specs.Prelude.{ℕ, ◌==◌, List, ◌++◌, codes, if◌then◌else◌}
use Rattle.std.specs.Int.{w32, w64, to_be_bytes}

-- the seed that client i and server j share
abbrev pub seed_input : ℕ → ℕ → List ℕ → List ℕ
seed_input i j seed = codes "dnseed" ++ to_be_bytes w32 i ++ to_be_bytes w32 j ++ seed

-- the ciphertext c, as bytes, of client i in round r
abbrev pub cipher_input : ℕ → ℕ → List ℕ → List ℕ
cipher_input r i c = codes "dnsub" ++ to_be_bytes w64 r ++ to_be_bytes w32 i ++ c

-- the server ciphertext s, as bytes, of server j in round r
abbrev pub server_input : ℕ → ℕ → List ℕ → List ℕ
server_input r j s = codes "dnsrv" ++ to_be_bytes w64 r ++ to_be_bytes w32 j ++ s

-- a block's mask seed
abbrev pub mask_key_input : List ℕ → List ℕ
mask_key_input z = codes "dnmask" ++ z

-- all of a block that follows its check
abbrev pub block_input : List ℕ → List ℕ
block_input rest = codes "dnblock" ++ rest

-- the mask secret of a client, in round r
abbrev pub mask_seed_input : List ℕ → ℕ → List ℕ
mask_seed_input secret r = codes "dnmasks" ++ secret ++ to_be_bytes w64 r

-- the tag of a group's digest, by the group's version
abbrev pub group_tag_of : ℕ → List ℕ
group_tag_of version = if version == 2 then codes "dngrp2" else codes "dngroup"

-- the roster, as bytes, of a group of this version
abbrev pub group_input : ℕ → List ℕ → List ℕ
group_input version roster = group_tag_of version ++ roster
