-- How many bytes statements have at most.
use Rattle.std.specs.Prelude.{ℕ, ◌+◌, ◌*◌, ◌≤◌, length, All}
use Rattle.dn_record_types.specs.declared.statement.Statement.{Statement}
use Rattle.dn_record_types.specs.declared.statement.Statement.TheVariants as kinds

-- the longest signature that verifies
abbrev pub longest_signature : ℕ
longest_signature = 9004

-- no signature that the statement carries is longer
abbrev pub HasShortSignatures : Statement → Type 0
HasShortSignatures (kinds.Inventory v) = All (λ e. length e.signature ≤ longest_signature) v.entries
HasShortSignatures _ = Unit {0}

-- a string of 65,536 bits: their number, and its bytes
abbrev pub longest_bits : ℕ
longest_bits = 4 + 8192

-- A statement's kind is one byte, a round 8, the number of a member, a place or of rows 4, a digest and a seed 32; a list has 512 rows at
-- most, and a body 16 digests.
abbrev pub most_bytes : Statement → ℕ
most_bytes (kinds.Submission r prev i d) = 1 + 8 + 8 + 4 + 32
most_bytes (kinds.Receipt r i d t) = 1 + 8 + 4 + 32 + 1
most_bytes (kinds.Inventory v) = 1 + 8 + 8 + 4 + 512 * (4 + 32 + 2 + longest_signature)
most_bytes (kinds.Commit r d) = 1 + 8 + 32
most_bytes (kinds.Reveal r s) = 1 + 8 + longest_bits
most_bytes (kinds.Sign b) = 1 + 1 + 8 + 8 + 1 + 4 + 512 * (4 + 4 + 32) + 4 + 16 * 32 + longest_bits
most_bytes (kinds.PadBits r k bs) = 1 + 8 + 4 + longest_bits
most_bytes (kinds.Shown r s xs) = 1 + 8 + longest_bits + 4 + 512 * (4 + longest_bits)
most_bytes (kinds.Accusation r s k) = 1 + 8 + 4 + 4
most_bytes (kinds.Rebuttal r k j seed e) = 1 + 8 + 4 + 4 + 32 + 4 + 65535
most_bytes (kinds.Concede r k) = 1 + 8 + 4
