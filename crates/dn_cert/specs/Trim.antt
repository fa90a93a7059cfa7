-- Who counts in a round: one list from the inventories of all servers.
use Rattle.std.specs.Prelude.{◌≡◌, ℕ, ◌<◌, ◌==◌, List, map, filter, Contains, All, slice_get, Some}
use Rattle.dn_wire.specs.declared.ids.ClientId.{ClientId}
use Rattle.dn_records.specs.Lists.{Ascend}
use Rattle.dn_records.specs.Records.{inventory}
use Rattle.dn_record_types.specs.declared.inventory.Entry.{Entry}
use Rattle.dn_record_types.specs.declared.inventory.Inventory.{Inventory}
use Rattle.dn_record_types.specs.declared.body.Listed.{Listed}

-- it keeps the limits and orders of its format
abbrev pub IsInventory : Inventory → Type 0
IsInventory v = inventory.Fits v

-- the inventory has an entry of this client, with this digest
abbrev pub HasEntry : Inventory → ClientId → List ℕ → Type 0
HasEntry v i digest = (e : Entry) × Contains v.entries e × (e.client ≡ i) × (e.digest ≡ digest)

-- the inventory has an entry of this client
abbrev pub Names : Inventory → ClientId → Type 0
Names v i = (digest : List ℕ) × HasEntry v i digest

-- some inventory has an entry of this client
abbrev pub IsNamed : List Inventory → ClientId → Type 0
IsNamed inventories i = (j : ℕ) × (v : Inventory) × (slice_get inventories j ≡ Some v) × Names v i

-- the inventory of the client's server has this entry, and no inventory of a lower server names the client
pub record IsOfLeast (inventories : List Inventory) (l : Listed) : Type 0 where
  pub inventory : Inventory
  pub there : slice_get inventories l.server.0 ≡ Some inventory
  pub entry : HasEntry inventory l.client l.digest
  pub least : (j : ℕ) → j < l.server.0 → (v : Inventory) → slice_get inventories j ≡ Some v → ¬ Names v l.client

-- The list has one entry for each client that an inventory names: that of the least such server, with its number. The inventory of
-- server j stands at place j.
pub record IsTrim (inventories : List Inventory) (listed : List Listed) : Type 0 where
  pub ascends : Ascend (map (λ l. l.client) listed)
  pub named : (i : ClientId) → IsNamed inventories i → (l : Listed) × Contains listed l × (l.client ≡ i)
  pub least : All (IsOfLeast inventories) listed

-- what a list gives to server j
abbrev pub given_to : List Listed → ℕ → List Listed
given_to listed j = filter (λ l. l.server.0 == j) listed
