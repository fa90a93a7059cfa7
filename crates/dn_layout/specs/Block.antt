-- The bytes of a block, and what they are read as.
use Rattle.std.specs.Prelude.{ℕ, ◌+◌, ◌-◌, ◌*◌, ◌==◌, ◌&&◌, ◌||◌, nat_le, Bool, List, ◌++◌, map, length, take, drop, replicate, slice_index, bit_xor, Option, Some, None, if◌then◌else◌}
use Rattle.std.specs.Int.{w16, to_be_bytes}
use Rattle.std.specs.List.{list_all}
use Rattle.std.specs.Str.{bytes_eq}
use Rattle.dn_wire.specs.declared.limits.TheConstants.{MIN_SLOT_BYTES, MAX_SLOT_BYTES}
use Rattle.dn_bits.specs.Bits.{below}
use Rattle.dn_pads.specs.Pads.{keystream_byte}
use Rattle.dn_hash.specs.Digests.{mask_key_of, block_check_of}

-- the next length that a block may tell: 0, or a slot's length
abbrev pub is_length : ℕ → Bool
is_length n = n == 0 || (nat_le MIN_SLOT_BYTES n && nat_le n MAX_SLOT_BYTES)

-- bytes added to the ChaCha20 keystream of a key, stream 0 from place 0
unfoldable pub masked : List ℕ → List ℕ → List ℕ
masked key bytes = map (λ m. bit_xor (slice_index bytes m) (keystream_byte key 0 m)) (below (length bytes))

-- what follows the check of a block of the given size: the next length, the text's length, the text, and zeros
unfoldable pub rest_of : ℕ → List ℕ → ℕ → List ℕ
rest_of next_len text size =
    to_be_bytes w16 next_len ++ to_be_bytes w16 (length text) ++ text ++ replicate (size - 28 - length text) 0

-- the block of a text: its mask seed, and the check and the rest under the mask
unfoldable pub block_of : List ℕ → ℕ → List ℕ → ℕ → List ℕ
block_of text next_len mask_seed size =
    mask_seed ++ masked (mask_key_of mask_seed) (block_check_of (rest_of next_len text size) ++ rest_of next_len text size)

-- a block's bytes without its mask seed and its mask
unfoldable pub plain_of : List ℕ → List ℕ
plain_of bytes = masked (mask_key_of (take 16 bytes)) (drop 16 bytes)

-- the fields of a plain block
abbrev pub next_len_of : List ℕ → ℕ
next_len_of plain = slice_index plain 8 * 256 + slice_index plain 9

abbrev pub text_len_of : List ℕ → ℕ
text_len_of plain = slice_index plain 10 * 256 + slice_index plain 11

abbrev pub text_of : List ℕ → List ℕ
text_of plain = take (text_len_of plain) (drop 12 plain)

-- nothing but zeros
abbrev pub is_zeros : List ℕ → Bool
is_zeros bytes = list_all (λ b. b == 0) bytes

-- a plain block of a message: its check is right, its text has room, it tells a next length that may be, and the rest is zeros
unfoldable pub is_message : List ℕ → Bool
is_message plain =
    bytes_eq (take 8 plain) (block_check_of (drop 8 plain)) && (nat_le (12 + text_len_of plain) (length plain)
    && (is_length (next_len_of plain) && is_zeros (drop (12 + text_len_of plain) plain)))

-- the next length and the text that bytes are read as; nothing where they are garbled
unfoldable pub read_of : List ℕ → Option (ℕ × List ℕ)
read_of bytes =
    if nat_le MIN_SLOT_BYTES (length bytes) && nat_le (length bytes) MAX_SLOT_BYTES && is_message (plain_of bytes)
    then Some (next_len_of (plain_of bytes), text_of (plain_of bytes)) else None
