-- The parts that workers make of a sum of pads.
use Rattle.std.specs.Prelude.{◌≡◌, ℕ, ◌<◌, Bool, List, map, length, Result, IfOk, slice_index_or}
use Rattle.std.specs.Fork.{slice_chunk}
use Rattle.dn_memory.specs.declared.NoMemory.{NoMemory}
use Rattle.dn_bits.specs.Bits.{sum_bits}
use Rattle.dn_pads.specs.Pads.{pad_of}

-- the pads of these seeds in round r, n bits of each
abbrev pub pads_of : List (List ℕ) → ℕ → ℕ → List (List Bool)
pads_of seeds r n = map (λ s. pad_of s r n) seeds

-- what a worker gives for these seeds: the sum of their pads, unless memory failed it
abbrev pub IsPart : List (List ℕ) → ℕ → ℕ → Result (List Bool) NoMemory → Type 0
IsPart seeds r n part = IfOk part (λ s. s ≡ sum_bits n (pads_of seeds r n))

-- each worker has given its part, of so many seeds in a row
abbrev pub ArePartsOf : List (List ℕ) → ℕ → ℕ → ℕ → List (Result (List Bool) NoMemory) → Type 0
ArePartsOf seeds r n size parts =
    (k : ℕ) (d : Result (List Bool) NoMemory) → k < length parts → IsPart (slice_chunk seeds size k) r n (slice_index_or parts k d)
