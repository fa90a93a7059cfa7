-- A string with a bit turned is as long as it was.
use Rattle.std.proofs.Common.{◌≡◌, ℕ, Bool, true, false, List, length, Option, Some, None, refl}
use Rattle.std.specs.Prelude.{nat_lt, not, ◌==◌, if◌then◌else◌}
use Rattle.std.proofs.lemmas.List.FromFn.{length-map-range_with_len}
use Rattle.dn_wire.specs.declared.ids.ClientId.{ClientId}
use Rattle.dn_bits.specs.Bits.{bit, flip_at}
use Rattle.dn_puppets.specs.Statements.{turned_at, turned_where}
use Rattle.dn_puppets.specs.Lures.{lured_in}

pub length-flip : (bits : List Bool) (k : ℕ) → length (flip_at bits k) ≡ length bits
length-flip bits k = length-map-range_with_len (λ j. if j == k then not (bit bits j) else bit bits j) 0 (length bits)

pub length-turned : (bits : List Bool) (k : ℕ) → length (turned_at bits k) ≡ length bits
length-turned bits k = by (nat_lt k (length bits))
  where
    by : (b : Bool) → length (if b then flip_at bits k else bits) ≡ length bits
    by true = length-flip bits k
    by false = refl

pub length-lured : (lured : Option ClientId) (bits : List Bool) → length (lured_in lured bits) ≡ length bits
length-lured (Some client) bits = length-turned bits client.0
length-lured None bits = refl

pub length-where : (at : Option ℕ) (bits : List Bool) → length (turned_where at bits) ≡ length bits
length-where (Some k) bits = length-turned bits k
length-where None bits = refl
