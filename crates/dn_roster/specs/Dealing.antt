-- What the dealer deals: bytes of the ChaCha20 keystream of the group's seed. Each kind of thing has a stream of its own. Places
-- count words of 32 bits, from 0, and each word gives its low byte first.
use Rattle.std.specs.Prelude.{ℕ, ◌+◌, ◌*◌, List}
use Rattle.std.specs.List.{flat_map, range_with_len}
use Rattle.std.specs.Int.{w32, w64, to_le_bytes, from_le_bytes}
use Rattle.rand_chacha.specs.ChaCha.{word_at, key_of}
use Rattle.dn_wire.specs.Signer.{number_of}
use Rattle.dn_wire.specs.declared.ids.SignerId.{SignerId}
use Rattle.dn_wire.specs.declared.ids.SignerId.TheVariants.{Client, Server, Slot}

-- the bytes of so many words of a stream, from a place on
unfoldable pub dealt : List ℕ → ℕ → ℕ → ℕ → List ℕ
dealt seed stream place words =
    flat_map (λ t. to_le_bytes w32 (word_at 10 (key_of seed) stream (place + t))) (range_with_len 0 words)

-- the seed that client i shares with server j, where there are so many servers
abbrev pub pair_seed_of : List ℕ → ℕ → ℕ → ℕ → List ℕ
pair_seed_of seed servers i j = dealt seed 1 (8 * (i * servers + j)) 8

-- the stream of the keys of clients, of servers and of slots
abbrev pub key_stream : SignerId → ℕ
key_stream (Client i) = 2
key_stream (Server j) = 3
key_stream (Slot s) = 4

-- the identifier of a signer's key, and behind it the key's seed
abbrev pub key_id_of : List ℕ → SignerId → List ℕ
key_id_of seed who = dealt seed (key_stream who) (16 * number_of who) 4

abbrev pub key_seed_of : List ℕ → SignerId → List ℕ
key_seed_of seed who = dealt seed (key_stream who) (16 * number_of who + 4) 8

-- the mask secret of client i
abbrev pub mask_secret_of : List ℕ → ℕ → List ℕ
mask_secret_of seed i = dealt seed 5 (8 * i) 8

-- the number of client i by which slots are given out
abbrev pub owner_number : List ℕ → ℕ → ℕ
owner_number seed i = from_le_bytes w64 (dealt seed 6 (2 * i) 2)
