-- What a server that isn't bent has signed in the round that it runs, by what it keeps, at the end of each call.
use Rattle.std.specs.Prelude.{◌≡◌, ℕ, ◌<◌, ◌⊎◌, ◌↔◌, true, false, List, Contains, Some}
use Rattle.dn_record_types.specs.declared.body.Body.{Body}
use Rattle.dn_record_types.specs.declared.body.Listed.{Listed}
use Rattle.dn_record_types.specs.declared.inventory.Inventory.{Inventory}
use Rattle.dn_record_types.specs.declared.statement.Statement.{Statement}
use Rattle.dn_record_types.specs.declared.statement.Statement.TheVariants as kinds
use Rattle.dn_records.specs.Records.{kind_byte}
use Rattle.dn_server.specs.Server.{ServerView, servers_in, statement_of}
use Rattle.dn_server.specs.Keeping.{round_of, HasAll}
use Rattle.dn_rounds.specs.Going.{IsListing}
use Rattle.dn_exchange.specs.Closing.{inventory_of}
use Rattle.dn_exchange.specs.Disciplined.{AreGood}

-- it has signed a statement of this kind of its round
abbrev pub HasSigned : ServerView → ℕ → Type 0
HasSigned v kind = (s : Statement) × Contains v.signed s × (kind_byte s ≡ kind) × (round_of s ≡ Some v.run.r)

-- the round has data, by the floor, or none
abbrev pub IsWithData : ServerView → Type 0
IsWithData v = (listed : List Listed) × IsListing v false listed

abbrev pub IsWithoutData : ServerView → Type 0
IsWithoutData v = (listed : List Listed) × IsListing v true listed

-- it keeps a statement of this kind from each server
abbrev pub KeepsAll : ServerView → ℕ → Type 0
KeepsAll v kind = HasAll kind v.run.kept (servers_in v)

-- all servers have signed this body, by what it keeps
abbrev pub IsSignedByAll : ServerView → Body → Type 0
IsSignedByAll v b = (j : ℕ) → j < servers_in v → statement_of v.run.kept 6 j ≡ Some (kinds.Sign b)

-- The server signs its inventory exactly where its window is closed, its commitment exactly where it keeps all inventories besides and the round has
-- data, its ciphertext exactly where it keeps all commitments besides, and the body exactly where it keeps all ciphertexts besides, or where the
-- round has no data; and as long as the round runs, not all servers have signed its body.
pub record Settled (v : ServerView) : Type 0 where
  pub inventory : HasSigned v 3 ↔ (v.run.window.closed ≡ true)
  pub entries : HasSigned v 3 → Contains v.signed (kinds.Inventory (inventory_of v.run))
  pub commit : HasSigned v 4 ↔ (HasSigned v 3 × KeepsAll v 3 × IsWithData v)
  pub reveal : HasSigned v 5 ↔ (HasSigned v 4 × KeepsAll v 4)
  pub sign : HasSigned v 6 ↔ ((HasSigned v 5 × KeepsAll v 5) ⊎ (HasSigned v 3 × KeepsAll v 3 × IsWithoutData v))
  pub certificate : (b : Body) → Contains v.signed (kinds.Sign b) → b.r ≡ v.run.r → ¬ IsSignedByAll v b
  -- where it keeps all inventories, they make a list
  pub listed : KeepsAll v 3 → IsWithData v ⊎ IsWithoutData v
  -- the inventories that it keeps follow the round's prev, and each of their entries verifies
  pub kept : (j : ℕ) (inventory : Inventory) → statement_of v.run.kept 3 j ≡ Some (kinds.Inventory inventory) → AreGood v inventory
