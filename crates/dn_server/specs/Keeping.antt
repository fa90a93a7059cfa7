-- The statements of a round that servers make to each other, and what is kept of them.
use Rattle.std.specs.Prelude.{◌≡◌, ℕ, ◌<◌, List, All, Option, Some, None, IsSome}
use Rattle.dn_wire.specs.declared.ids.Round.{Round}
use Rattle.dn_record_types.specs.declared.statement.Statement.{Statement}
use Rattle.dn_record_types.specs.declared.statement.Statement.TheVariants as kinds
use Rattle.dn_seal.specs.Said.{SaidView}
use Rattle.dn_server.specs.declared.kept.RoundKind.{RoundKind}
use Rattle.dn_server.specs.declared.kept.RoundKind.TheVariants as of
use Rattle.dn_server.specs.Server.{kept_of}

-- the kind byte of such a statement
abbrev pub byte_for : RoundKind → ℕ
byte_for of.Inventory = 3
byte_for of.Commit = 4
byte_for of.Reveal = 5
byte_for of.Sign = 6

-- the round of an inventory, a commitment, a ciphertext or a signed body; nothing for other statements
abbrev pub round_of : Statement → Option Round
round_of (kinds.Submission r prev i d) = None
round_of (kinds.Receipt r i d t) = None
round_of (kinds.Inventory inventory) = Some inventory.r
round_of (kinds.Commit r d) = Some r
round_of (kinds.Reveal r s) = Some r
round_of (kinds.Sign b) = Some b.r
round_of (kinds.PadBits r k bs) = None
round_of (kinds.Shown r s xs) = None
round_of (kinds.Accusation r s k) = None
round_of (kinds.Rebuttal r k j seed e) = None
round_of (kinds.Concede r k) = None

-- each statement is one of round r
abbrev pub AreOfRound : Round → List SaidView → Type 0
AreOfRound r kept = All (λ s. round_of s.statement ≡ Some r) kept

-- a statement of this kind is kept of each of n servers
abbrev pub HasAll : ℕ → List SaidView → ℕ → Type 0
HasAll kind kept n = (j : ℕ) → j < n → IsSome (kept_of kept kind j)

-- of one of n servers none is kept
abbrev pub IsMissing : ℕ → List SaidView → ℕ → Type 0
IsMissing kind kept n = (j : ℕ) × (j < n) × (kept_of kept kind j ≡ None)
