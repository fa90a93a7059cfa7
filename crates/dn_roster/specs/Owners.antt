-- The owners of the slots.
use Rattle.std.specs.Prelude.{◌≡◌, ℕ, ◌==◌, ◌&&◌, ◌||◌, nat_lt, if◌then◌else◌, Bool, List, count_by}
use Rattle.std.specs.List.Sorted.{IsSortedBy}
use Rattle.dn_wire.specs.declared.ids.ClientId.{ClientId}
use Rattle.dn_roster.specs.declared.group.GroupSpec.{GroupSpec}
use Rattle.dn_roster.specs.Dealing.{owner_number}

abbrev pub client_id : ℕ → ClientId
client_id i = record { 0 = i }

-- a client with the number that is dealt to it
abbrev pub numbered : List ℕ → ClientId → ℕ × ClientId
numbered seed i = (owner_number seed i.0, i)

-- client i comes before client j: its dealt number is less, or the numbers are equal and i is less
abbrev pub comes_before : List ℕ → ClientId → ClientId → Bool
comes_before seed i j =
    nat_lt (owner_number seed i.0) (owner_number seed j.0)
    || (owner_number seed i.0 == owner_number seed j.0 && nat_lt i.0 j.0)

-- the list has each client of the group once, in that order; slot s belongs to the client at place s
pub record IsOwners (group : GroupSpec) (owners : List ClientId) : Type 0 where
  pub once : (i : ℕ) → count_by (λ c. c.0 == i) owners ≡ (if nat_lt i group.clients then 1 else 0)
  pub ordered : IsSortedBy (comes_before group.seed) owners
