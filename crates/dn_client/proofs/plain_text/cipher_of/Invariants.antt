use Rattle.std.proofs.Common.{◌≡◌, take, map, length}
use Rattle.dn_bits.specs.Bits.{xor_bits, sum_bits}
use Rattle.dn_pads.specs.Pads.{pad_of}
use Rattle.dn_client.proofs.plain_text.cipher_of.Given as goal

-- the plain text and the pads of the seeds so far
abbrev pub invariant-loop-seed : goal.invariant-loop-seed
invariant-loop-seed l =
    l.cipher ≡ xor_bits l.plain (sum_bits (length l.plain) (map (λ s. pad_of s l.r.0 (length l.plain)) (take l.seed-index l.seeds)))
