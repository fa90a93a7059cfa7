-- The two lists that a node stands in: its receiver's and its sender's.
use Rattle.std.specs.Prelude.{ℕ}
use Rattle.dn_nodes.specs.declared.node.Node.{Node}
use Rattle.dn_flight.specs.Arena.{member_number}
use Rattle.dn_flight.specs.declared.heads.Ends.{Ends}
use Rattle.dn_flight.specs.declared.side.Side.{Side}
use Rattle.dn_flight.specs.declared.side.Side.TheVariants.{To, From}

-- whose list it is
abbrev pub key_of : Side → Node → ℕ
key_of To n = member_number n.to
key_of From n = member_number n.from

abbrev pub before_of : Side → Node → ℕ
before_of To n = n.to_before
before_of From n = n.from_before

abbrev pub after_of : Side → Node → ℕ
after_of To n = n.to_after
after_of From n = n.from_after

abbrev pub with_before : Side → Node → ℕ → Node
with_before To n p = record n { to_before = p }
with_before From n p = record n { from_before = p }

abbrev pub with_after : Side → Node → ℕ → Node
with_after To n p = record n { to_after = p }
with_after From n p = record n { from_after = p }

abbrev pub first_end : Side → Ends → ℕ
first_end To e = e.to_first
first_end From e = e.from_first

abbrev pub last_end : Side → Ends → ℕ
last_end To e = e.to_last
last_end From e = e.from_last

abbrev pub with_first : Side → Ends → ℕ → Ends
with_first To e p = record e { to_first = p }
with_first From e p = record e { from_first = p }

abbrev pub with_last : Side → Ends → ℕ → Ends
with_last To e p = record e { to_last = p }
with_last From e p = record e { from_last = p }
