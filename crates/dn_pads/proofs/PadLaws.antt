-- The bits of a pad.
use Rattle.std.proofs.Common.{◌≡◌, ℕ, ◌<◌, false, List, length, arith}
use Rattle.std.proofs.lemmas.List.FromFn.{length-map-range_with_len, get_or-map-range_with_len}
use Rattle.dn_bits.specs.Bits.{bit}
use Rattle.dn_pads.specs.Pads.{keystream_bit, pad_of}

pub length-pad : (seed : List ℕ) (r n : ℕ) → length (pad_of seed r n) ≡ n
length-pad seed r n = length-map-range_with_len (keystream_bit seed r) 0 n

pub bit-pad : (seed : List ℕ) (r n k : ℕ) → k < n → bit (pad_of seed r n) k ≡ keystream_bit seed r k
bit-pad seed r n k lt = get_or-map-range_with_len (keystream_bit seed r) 0 n k k false lt (omega arith)
