-- What a lure shows of a server's pads.
use Rattle.std.specs.Prelude.{ℕ, ◌+◌, ◌*◌, Bool, false, List, Option, Some, None, slice_get}
use Rattle.dn_pads.specs.Pads.{keystream_bit}
use Rattle.dn_wire.specs.declared.ids.ClientId.{ClientId}
use Rattle.dn_server.specs.declared.places.Place.{Place}
use Rattle.dn_puppets.specs.Statements.{turned_at}

-- the bit of a seed's pad at a place; false without a seed
abbrev pub pad_bit_of : Option (List ℕ) → Place → Bool
pad_bit_of (Some seed) place = keystream_bit seed place.r.0 place.k
pad_bit_of None place = false

-- the bit at a place of the pad that client i and server j of so many share
abbrev pub shared_bit : List (List ℕ) → ℕ → ℕ → ℕ → Place → Bool
shared_bit seeds servers i j place = pad_bit_of (slice_get seeds (i * servers + j)) place

-- the bits, but for the client that is lured
abbrev pub lured_in : Option ClientId → List Bool → List Bool
lured_in (Some client) bits = turned_at bits client.0
lured_in None bits = bits
