-- What is added twice is gone.
use Rattle.std.proofs.Common.{◌≡◌, ℕ, Bool, List, length, ap, ◌∙◌}
use Rattle.dn_bits.specs.Bits.{xor_bits}
use Rattle.dn_bits.proofs.SumLemmas.{xor_comm, xor_assoc, length-xor, twice}

pub cancelled : (n : ℕ) (a p s : List Bool) → length a ≡ n → length p ≡ n → length s ≡ n → xor_bits (xor_bits a p) (xor_bits (xor_bits s p) a) ≡ s
cancelled n a p s la lp ls =
    ap (xor_bits (xor_bits a p)) (xor_assoc s p a ∙ ap (xor_bits s) (xor_comm p a))
    ∙ twice n (xor_bits a p) s (length-xor a p n la lp) ls
