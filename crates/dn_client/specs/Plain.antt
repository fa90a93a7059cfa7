-- What an honest client sends in a round: its plain text, and its ciphertext.
use Rattle.std.specs.Prelude.{ℕ, ◌+◌, ◌-◌, ◌==◌, max, nat_le, Bool, false, List, [], ◌∷◌, ◌++◌, map, length, replicate, sum, slice_index, Option, Some, None, if◌then◌else◌}
use Rattle.dn_wire.specs.declared.limits.TheConstants.{MIN_SLOT_BYTES}
use Rattle.dn_bits.specs.Bits.{zeros, flip_at, first_bits, xor_bits, sum_bits}
use Rattle.dn_pads.specs.Pads.{pad_of}
use Rattle.dn_layout.specs.Layout.{request_bytes, bits_of, start_of}
use Rattle.dn_layout.specs.Block.{block_of}

-- the length in bytes of the slot that a text needs: that of its block, and at least the least length of a slot
abbrev pub need : List ℕ → ℕ
need text = max MIN_SLOT_BYTES (28 + length text)

-- what the first of some texts needs, and 0 where there is none
abbrev pub need_of_first : List (List ℕ) → ℕ
need_of_first [] = 0
need_of_first (text ∷ texts) = need text

-- whether a text fits in a block of this size
abbrev pub fits : ℕ → List ℕ → Bool
fits size text = nat_le (28 + length text) size

-- The text and the next length in the block of a client, where these texts wait: the first text with what the one after it needs, if
-- the first fits; else the empty text with what the first needs; and the empty text and 0 where none waits.
abbrev pub said_in : ℕ → List (List ℕ) → List ℕ × ℕ
said_in size [] = ([], 0)
said_in size (text ∷ texts) = if fits size text then (text, need_of_first texts) else ([], need text)

-- whether that block carries the first of the texts
abbrev pub carries : ℕ → List (List ℕ) → Bool
carries size [] = false
carries size (text ∷ texts) = fits size text

-- a round's bits with the request bit of slot s alone, where a text waits, and else zeros
abbrev pub request : List ℕ → ℕ → List (List ℕ) → List Bool
request lengths s [] = zeros (bits_of lengths)
request lengths s (text ∷ texts) = flip_at (zeros (bits_of lengths)) s

-- how many bytes stand behind slot s
abbrev pub bytes_behind : List ℕ → ℕ → ℕ
bytes_behind lengths s = request_bytes (length lengths) + sum lengths - start_of lengths s - slice_index lengths s

-- a round's bits with this block in slot s, and else zeros
unfoldable pub in_slot : List ℕ → ℕ → List ℕ → List Bool
in_slot lengths s block =
    first_bits (replicate (start_of lengths s) 0 ++ block ++ replicate (bytes_behind lengths s) 0) (bits_of lengths)

-- the block of the given size in which these texts wait
abbrev pub block_for : ℕ → List (List ℕ) → List ℕ → List ℕ
block_for size waiting mask_seed = block_of (said_in size waiting).0 (said_in size waiting).1 mask_seed size

-- the plain text of the owner of slot s, where these texts wait: its request bit where the slot is closed, and else its block
unfoldable pub plain_text : List ℕ → ℕ → List (List ℕ) → List ℕ → List Bool
plain_text lengths s waiting mask_seed =
    if slice_index lengths s == 0 then request lengths s waiting
    else in_slot lengths s (block_for (slice_index lengths s) waiting mask_seed)

-- where the first of the waiting texts stands at this place of a queue, the place of the text that the plain text carries
unfoldable pub carried_at : List ℕ → ℕ → List (List ℕ) → ℕ → Option ℕ
carried_at lengths s waiting place = if carries (slice_index lengths s) waiting then Some place else None

-- the ciphertext: the plain text and the pads of the round from all of these seeds
unfoldable pub cipher_of : List (List ℕ) → ℕ → List Bool → List Bool
cipher_of seeds r plain = xor_bits plain (sum_bits (length plain) (map (λ seed. pad_of seed r (length plain)) seeds))
