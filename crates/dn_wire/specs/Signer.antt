-- Signers in bytes: a byte for the kind of signer, and its number with the high byte first.
use Rattle.std.specs.Prelude.{ℕ, List, [], ◌∷◌, ◌++◌}
use Rattle.std.specs.Int.{w32, to_be_bytes}
use Rattle.dn_wire.specs.declared.ids.SignerId.{SignerId}
use Rattle.dn_wire.specs.declared.ids.SignerId.TheVariants.{Client, Server, Slot}

-- the byte that stands for the kind of a signer
abbrev pub signer_tag : SignerId → ℕ
signer_tag (Client i) = 1
signer_tag (Server j) = 2
signer_tag (Slot s) = 3

-- the number of a client, a server or a slot
abbrev pub number_of : SignerId → ℕ
number_of (Client i) = i.0
number_of (Server j) = j.0
number_of (Slot s) = s.0

abbrev pub signer_bytes : SignerId → List ℕ
signer_bytes who = signer_tag who ∷ [] ++ to_be_bytes w32 (number_of who)
