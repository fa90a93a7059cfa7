-- When two members are one.
use Rattle.std.specs.Prelude.{ℕ, Bool, nat_eq}
use Rattle.std.specs.Ordering.{on, eq_of_both}
use Rattle.dn_wire.specs.declared.ids.Member.{Member}
use Rattle.dn_wire.specs.declared.ids.Member.TheVariants.{Client, Server}

-- 0 for clients, and 1 for servers
abbrev pub side_of : Member → ℕ
side_of (Client i) = 0
side_of (Server j) = 1

abbrev pub place_of : Member → ℕ
place_of (Client i) = i.0
place_of (Server j) = j.0

-- both are clients or both are servers, with one number
abbrev pub member_eq : Member → Member → Bool
member_eq = eq_of_both (on side_of nat_eq) (on place_of nat_eq)
