-- How messages are kept: nodes of an arena, linked in two lists, and each member's ends of its two lists.
use Rattle.std.specs.Prelude.{ℕ, ◌+◌, ◌*◌, List, get_or, IsSome}
use Rattle.std.specs.Option.{unwrap_or}
use Rattle.std.specs.Ordering.{nat_cmp}
use Rattle.std.specs.BTreeMap.{BTreeMap, get}
use Rattle.dn_wire.specs.declared.ids.Member.{Member}
use Rattle.dn_wire.specs.declared.ids.Member.TheVariants.{Client, Server}
use Rattle.dn_nodes.specs.declared.node.Node.{Node}
use Rattle.dn_flight.specs.declared.heads.Ends.{Ends}
use Rattle.dn_flight.specs.declared.msg.Msg.{Msg}

abbrev pub none : ℕ
none = 65536

-- members by number
abbrev pub member_number : Member → ℕ
member_number (Client c) = 2 * c.0
member_number (Server s) = 2 * s.0 + 1

abbrev pub no_ends : Ends
no_ends = record { to_first = none; to_last = none; from_first = none; from_last = none }

-- a member's ends
abbrev pub ends_at : BTreeMap ℕ Ends → ℕ → Ends
ends_at held k = unwrap_or (get nat_cmp held k) no_ends

-- the same ends of the list to the member, and none of the list from it
abbrev pub without_from : Ends → Ends
without_from e = record e { from_first = none; from_last = none }

abbrev pub IsKnown : BTreeMap ℕ Ends → ℕ → Type 0
IsKnown held k = IsSome (get nat_cmp held k)

abbrev pub free_node : ℕ → Node
free_node after = record { id = 0; from = Client record { 0 = 0 }; to = Client record { 0 = 0 }; payload = 0; to_before = none; to_after = after; from_before = none; from_after = none }

abbrev pub node_at : List Node → ℕ → Node
node_at nodes p = get_or nodes p (free_node none)

abbrev pub msg_of : Node → Msg
msg_of n = record { id = n.id; from = n.from; to = n.to; payload = n.payload }
