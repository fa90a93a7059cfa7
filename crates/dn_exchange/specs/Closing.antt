-- What a server does as the window of its round closes, and what it is afterwards.
use Rattle.std.specs.Prelude.{◌≡◌, ℕ, true, false, List, [], ◌∷◌, Option, Some, None, length, slice_get}
use Rattle.std.specs.List.{filter_map}
use Rattle.dn_bits.specs.Bits.{below}
use Rattle.dn_record_types.specs.declared.inventory.Entry.{Entry}
use Rattle.dn_record_types.specs.declared.inventory.Inventory.{Inventory}
use Rattle.dn_record_types.specs.declared.statement.Statement.{Statement}
use Rattle.dn_record_types.specs.declared.statement.Statement.TheVariants as kinds
use Rattle.dn_record_types.specs.declared.statement.WordTold.{WordTold}
use Rattle.dn_record_types.specs.declared.statement.WordTold.TheVariants as words
use Rattle.dn_window.specs.Window.{WindowState, ticked, is_due}
use Rattle.dn_server.specs.declared.act.Act.{Act}
use Rattle.dn_server.specs.declared.act.Act.TheVariants as acts
use Rattle.dn_server.specs.declared.answer.Answer.{Answer}
use Rattle.dn_server.specs.declared.answer.Reason.TheVariants as reasons
use Rattle.dn_server.specs.declared.claims.Claim.{Claim}
use Rattle.dn_server.specs.declared.run.Run.{Run}
use Rattle.dn_server.specs.declared.run.Stage.TheVariants as stages
use Rattle.dn_server.specs.Server.{ServerView, others_of, post_next, ended}
use Rattle.dn_rounds.specs.Going.{GoesOn, says, HasLeaf, Conflicts, IsFree, spoiled_twice}
use Rattle.dn_server.specs.Answers.{ignored, does}

-- the entry of a client's claim, where it was told Included
abbrev pub entry_for : ℕ → WordTold → Claim → Option Entry
entry_for i words.Included claim = Some (record { client = record { 0 = i }; digest = claim.digest; signature = claim.signature })
entry_for i words.Late claim = None

abbrev pub entry_from : ℕ → Option (Option Claim) → Option Entry
entry_from i None = None
entry_from i (Some None) = None
entry_from i (Some (Some claim)) = entry_for i claim.told claim

-- the entry of client i, where it has a claim that was told Included
abbrev pub entry_at : List (Option Claim) → ℕ → Option Entry
entry_at claims i = entry_from i (slice_get claims i)

-- the entries of the submissions told Included, in order of clients
abbrev pub entries_of : List (Option Claim) → List Entry
entries_of claims = filter_map (entry_at claims) (below (length claims))

-- the server's inventory of its round
abbrev pub inventory_of : Run → Inventory
inventory_of run = record { r = run.r; prev = run.prev; entries = entries_of run.claims }

-- the server with its window closed by the call
abbrev pub with_window : ServerView → WindowState → ServerView
with_window v w = record v { run = record v.run { window = w } }

-- What follows on the closing: the inventory is due; a different one that is kept under the server's own number spoils the round.
pub data Closes (v : ServerView) (did : List Act) (after : ServerView) : Type 0 where
  lists : (rest : List Act) → IsFree v (kinds.Inventory (inventory_of v.run)) → HasLeaf v
      → GoesOn (says v (kinds.Inventory (inventory_of v.run)) stages.Listed v.run.sum) rest after
      → did ≡ acts.Closed v.run.r v.run.window.count ∷ post_next v (others_of v.seat) (kinds.Inventory (inventory_of v.run)) ∷ rest
      → Closes v did after
  meets_other : (other : Statement) → Conflicts v (kinds.Inventory (inventory_of v.run)) other
      → did ≡ acts.Closed v.run.r v.run.window.count ∷ spoiled_twice v.seat.number other (kinds.Inventory (inventory_of v.run)) ∷ []
      → after ≡ ended v → Closes v did after
  finds_no_leaf : IsFree v (kinds.Inventory (inventory_of v.run)) → (¬ HasLeaf v) → v.bent ≡ true
      → did ≡ acts.Closed v.run.r v.run.window.count ∷ [] → after ≡ v → Closes v did after

pub data Ticks (v : ServerView) (answer : Answer) (after : ServerView) : Type 0 where
  counts : is_due v.run.window ≡ false → answer ≡ does [] → after ≡ with_window v (ticked v.run.window) → Ticks v answer after
  closes_at : (did : List Act) → is_due v.run.window ≡ true → Closes (with_window v (ticked v.run.window)) did after → answer ≡ does did → Ticks v answer after

pub data Shuts (v : ServerView) (answer : Answer) (after : ServerView) : Type 0 where
  is_shut : v.run.window.closed ≡ true → answer ≡ ignored reasons.Shut → after ≡ v → Shuts v answer after
  closes_now : (did : List Act) → v.run.window.closed ≡ false → Closes (with_window v (record v.run.window { closed = true })) did after
      → answer ≡ does did → Shuts v answer after
