-- What a server keeps true from call to call.
use Rattle.std.specs.Prelude.{◌≡◌, ℕ, ◌+◌, ◌≤◌, ◌<◌, ◌^◌, Bool, false, true, List, length, All, Option, Some, slice_get}
use Rattle.dn_wire.specs.declared.ids.Round.{Round}
use Rattle.dn_bits.specs.Bits.{bytes_of}
use Rattle.dn_hash.specs.Digests.{cipher_digest_of}
use Rattle.dn_record_types.specs.declared.body.Body.{Body}
use Rattle.dn_record_types.specs.declared.body.Listed.{Listed}
use Rattle.dn_record_types.specs.declared.inventory.Entry.{Entry}
use Rattle.dn_record_types.specs.declared.inventory.Inventory.{Inventory}
use Rattle.dn_record_types.specs.declared.statement.Statement.TheVariants as kinds
use Rattle.dn_layout.specs.Layout.{bits_of}
use Rattle.dn_roster.specs.Roster.{RosterView, key_of}
use Rattle.dn_seal.specs.Said.{SaidView, IsSaid, IsUnder}
use Rattle.dn_window.specs.Window.{clients_of, has_of}
use Rattle.dn_cert.specs.Certificate.{IsOfRoster}
use Rattle.dn_cert.specs.Chain.{ChainView, bodies, Holds, IsLayoutAfter, CanFollow, count_at}
use Rattle.dn_cert.specs.Floor.{is_due_thin}
use Rattle.dn_cert.specs.Signed.{EntryVerifies}
use Rattle.dn_cert.specs.Trim.{IsTrim}
use Rattle.dn_lms.specs.Key.{IsKey, leaf_count}
use Rattle.dn_lms.specs.Signature.{public_key}
use Rattle.dn_seal.specs.Dealt.{server}
use Rattle.dn_server.specs.declared.claims.Claim.{Claim}
use Rattle.dn_server.specs.declared.run.Run.{Run}
use Rattle.dn_server.specs.declared.run.Stage.{Stage}
use Rattle.dn_server.specs.declared.run.Stage.TheVariants as stages
use Rattle.dn_server.specs.declared.run.Sum.{Sum}
use Rattle.dn_server.specs.Justified.{Seat, servers_of}
use Rattle.dn_server.specs.Server.{ServerView, statement_of, AreKept}
use Rattle.dn_server.specs.Keeping.{AreOfRound, HasAll}
use Rattle.dn_rounds.specs.Sound.{IsSeated}
use Rattle.dn_exchange.specs.Closing.{inventory_of}

-- the entry of a claim of client i in an inventory
abbrev pub claimed_entry : ℕ → Claim → Entry
claimed_entry i claim = record { client = record { 0 = i }; digest = claim.digest; signature = claim.signature }

-- A claim of client i in round r after prev, which has so many bits: the client is one of the group and signed a submission of the round with
-- this digest, which is that of the ciphertext; and this has the round's length.
pub record IsClaim (seat : Seat) (r prev : Round) (bits i : ℕ) (claim : Claim) : Type 0 where
  pub within : i < length seat.roster.clients
  pub long : length claim.cipher ≡ bits
  pub digest : claim.digest ≡ cipher_digest_of r.0 i (bytes_of claim.cipher)
  pub verifies : EntryVerifies seat.roster r prev (claimed_entry i claim)

abbrev pub AreClaims : Seat → Run → Type 0
AreClaims seat run = (i : ℕ) (claim : Claim) → slice_get run.claims i ≡ Some (Some claim) → IsClaim seat run.r run.prev run.bits i claim

-- the entry is that of a claim
abbrev pub IsOfClaim : Run → Entry → Type 0
IsOfClaim run e = (claim : Claim) × (slice_get run.claims e.client.0 ≡ Some (Some claim)) × (claimed_entry e.client.0 claim ≡ e)

-- Round r of a chain that doesn't hold it: it follows a round of the chain, and has the bits of the layout after that.
pub record IsCourse (chain : ChainView) (r prev : Round) (bits : ℕ) : Type 0 where
  pub before : prev.0 < r.0
  pub small : r.0 < 2 ^ 64
  pub layout : List ℕ
  pub after : IsLayoutAfter chain prev.0 layout
  pub bits_are : bits ≡ bits_of layout
  pub few : bits ≤ 65536
  pub unheld : ¬ Holds chain r.0

-- What a round that runs rests on: the server's seat and chain, the round, what is kept of it, its sum, its stage, and the inventory that its
-- claims make.
pub record Standing : Type 0 where
  pub seat : Seat
  pub chain : ChainView
  pub r : Round
  pub prev : Round
  pub bits : ℕ
  pub kept : List SaidView
  pub sum : Option Sum
  pub stage : Stage
  pub inventory : Inventory

abbrev pub standing_of : ServerView → Standing
standing_of v = record {
  seat = v.seat;
  chain = v.chain;
  r = v.run.r;
  prev = v.run.prev;
  bits = v.run.bits;
  kept = v.run.kept;
  sum = v.run.sum;
  stage = v.run.stage;
  inventory = inventory_of v.run;
}

-- each statement that is kept is one of the round, and its signature verifies in the group
pub record AreKeptWell (roster : RosterView) (r : Round) (kept : List SaidView) : Type 0 where
  pub round : AreOfRound r kept
  pub said : All IsSaid kept
  pub under : All (IsUnder roster) kept

-- each inventory that is kept follows the round's prev, and each of its entries verifies
abbrev pub AreInventoriesGood : RosterView → Round → Round → List SaidView → Type 0
AreInventoriesGood roster r prev kept = (j : ℕ) (inventory : Inventory) → statement_of kept 3 j ≡ Some (kinds.Inventory inventory)
    → (inventory.prev ≡ prev) × All (EntryVerifies roster r prev) inventory.entries

-- each ciphertext that is kept has the round's length
abbrev pub AreStringsLong : Round → ℕ → List SaidView → Type 0
AreStringsLong r bits kept = (j : ℕ) (s : List Bool) → statement_of kept 5 j ≡ Some (kinds.Reveal r s) → length s ≡ bits

-- the list is the trim of one inventory of each server, and the floor asks for data
pub record IsDataList (x : Standing) (listed : List Listed) : Type 0 where
  pub inventories : List Inventory
  pub kept : AreKept kinds.Inventory 3 x.kept (servers_of x.seat) inventories
  pub trim : IsTrim inventories listed
  pub floor : is_due_thin x.seat.roster.version (length listed) (count_at x.chain x.prev.0) ≡ false

-- the server's inventory stands as it was signed
abbrev pub HasListed : Standing → Type 0
HasListed x = statement_of x.kept 3 x.seat.number ≡ Some (kinds.Inventory x.inventory)

-- the server is committed to a sum, for a list of the inventories
pub record HasCommitted (x : Standing) : Type 0 where
  pub sum : Sum
  pub has : x.sum ≡ Some sum
  pub long : length sum.s ≡ x.bits
  pub listing : IsDataList x sum.listed

-- The server signed a body of the group that can follow, and no server signed another one.
pub record HasSigned (x : Standing) : Type 0 where
  pub body : Body
  pub kept : statement_of x.kept 6 x.seat.number ≡ Some (kinds.Sign body)
  pub unopposed : (j : ℕ) (c : Body) → j < servers_of x.seat → statement_of x.kept 6 j ≡ Some (kinds.Sign c) → c ≡ body
  pub group : IsOfRoster x.seat.roster body
  pub round : body.r ≡ x.r
  pub follows : CanFollow x.chain body

-- what holds at each stage of a round that runs
abbrev pub IsAtStage : Stage → Standing → Type 0
IsAtStage stages.Collecting x = Unit {0}
IsAtStage stages.Listed x = HasListed x
IsAtStage stages.Committed x = HasListed x × HasCommitted x
IsAtStage stages.Revealed x = HasListed x × HasCommitted x × HasAll 4 x.kept (servers_of x.seat)
IsAtStage stages.Signed x = HasListed x × HasSigned x

-- A round that runs: what is kept of it is sound, inventories and ciphertexts fit, and the stage has what it needs.
pub record IsRunning (x : Standing) : Type 0 where
  pub course : IsCourse x.chain x.r x.prev x.bits
  pub kept : AreKeptWell x.seat.roster x.r x.kept
  pub inventories : AreInventoriesGood x.seat.roster x.r x.prev x.kept
  pub strings : AreStringsLong x.r x.bits x.kept
  pub stage : IsAtStage x.stage x

-- The server is one of its group, by its key, with a chain of the group's bodies; its round has a place for each client, and claims that hold; a window that
-- is open is that of a round that runs and isn't listed; and the leaves that are set aside are left.
pub record IsSound (v : ServerView) : Type 0 where
  pub seated : IsSeated v
  pub member : key_of v.seat.roster (server v.seat.number) ≡ Some (public_key v.key)
  pub is_key : IsKey v.key
  pub workers : (1 ≤ v.workers) × (v.workers ≤ 16)
  pub slots : v.chain.slots ≡ length v.seat.roster.clients
  pub in_group : All (IsOfRoster v.seat.roster) (bodies v.chain)
  pub window : clients_of v.run.window ≡ length v.seat.roster.clients
  pub claims : length v.run.claims ≡ length v.seat.roster.clients
  pub are_claims : AreClaims v.seat v.run
  pub claimed : (i : ℕ) (claim : Claim) → slice_get v.run.claims i ≡ Some (Some claim) → has_of v.run.window i ≡ true
  pub is_open : v.run.window.closed ≡ false → (v.run.is_running ≡ true) × (v.run.stage ≡ stages.Collecting)
  pub round : AreOfRound v.run.r v.run.kept
  pub aside : v.bent ≡ false → v.aside + length v.signed ≤ leaf_count v.key
  pub some_aside : v.bent ≡ false → v.run.window.closed ≡ false → 1 ≤ v.aside
  pub running : v.run.is_running ≡ true → IsRunning (standing_of v)

-- client i has a claim
abbrev pub HasClaim : Run → ℕ → Type 0
HasClaim run i = (claim : Claim) × (slice_get run.claims i ≡ Some (Some claim))
