-- Which submissions can race.
use Rattle.std.specs.Prelude.{ℕ, ◌<◌, ◌≤◌, List, All, length}
use Rattle.dn_counts.specs.Counts.{times}
use Rattle.dn_wire.specs.declared.ids.ClientId.{ClientId}
use Rattle.dn_wire.specs.declared.limits.TheConstants.{MAX_RACE_LIST}
use Rattle.dn_crew.specs.Race.{numbers_of}

-- there are few of them, they are of clients of the group, and each has a number of its own
pub record CanRace (clients : ℕ) (list : List (ClientId × ℕ)) : Type 0 where
  pub few : length list ≤ MAX_RACE_LIST
  pub clients_are : All (λ m. m.0.0 < clients) list
  pub differ : (n : ℕ) → times n (numbers_of list) ≤ 1
