-- What `block` answers where a text is too long, and what a block's reading gives.
use Rattle.std.specs.Prelude.{◌≡◌, ℕ, List, Option, Some, None, Result, Ok, Err}
use Rattle.dn_layout.specs.declared.reading.Block.{Block}
use Rattle.dn_layout.specs.declared.reading.Block.TheVariants.{Message, Garbled}
use Rattle.dn_layout.specs.declared.writing.BlockFault.{BlockFault}
use Rattle.dn_layout.specs.declared.writing.BlockFault.TheVariants.{TooLong, NoMemory}

abbrev pub IsTooLong : {T : Type 0} → Result T BlockFault → Type 0
IsTooLong (Ok _) = ⊥
IsTooLong (Err (TooLong len room)) = Unit {0}
IsTooLong (Err NoMemory) = ⊥

abbrev pub TooLongNumbers : ℕ → ℕ → BlockFault → Type 0
TooLongNumbers n m (TooLong len room) = (len ≡ n) × (room ≡ m)
TooLongNumbers n m NoMemory = Unit {0}

-- the next length and the text of a message, and nothing for a garbled block
abbrev pub message_of : Block → Option (ℕ × List ℕ)
message_of (Message next_len text) = Some (next_len, text.items)
message_of Garbled = None
