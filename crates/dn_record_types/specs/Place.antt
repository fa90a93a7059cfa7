-- Places: who keeps to the protocol signs at most one statement for each.
use Rattle.std.specs.Prelude.{ℕ, Option, Some, None}
use Rattle.dn_wire.specs.declared.ids.ClientId.{ClientId}
use Rattle.dn_wire.specs.declared.ids.Round.{Round}
use Rattle.dn_record_types.specs.declared.statement.Statement.{Statement}
use Rattle.dn_record_types.specs.declared.statement.Statement.TheVariants as kinds

pub data Place : Type 0 where
  receipt_of : Round → ClientId → Place
  inventory_of : Round → Place
  commit_of : Round → Place
  reveal_of : Round → Place
  sign_of : Round → Place
  pad_bits_of : Round → ℕ → Place
  shown_of : Round → Place

-- the place of a statement, where it is of a kind that has places
abbrev pub place_of : Statement → Option Place
place_of (kinds.Submission r prev i d) = None
place_of (kinds.Receipt r i d t) = Some (receipt_of r i)
place_of (kinds.Inventory v) = Some (inventory_of v.r)
place_of (kinds.Commit r d) = Some (commit_of r)
place_of (kinds.Reveal r s) = Some (reveal_of r)
place_of (kinds.Sign b) = Some (sign_of b.r)
place_of (kinds.PadBits r k bs) = Some (pad_bits_of r k)
place_of (kinds.Shown r s xs) = Some (shown_of r)
place_of (kinds.Accusation r s k) = None
place_of (kinds.Rebuttal r k j seed e) = None
place_of (kinds.Concede r k) = None
