-- What a server that isn't bent keeps true of all that it signed, from call to call.
use Rattle.std.specs.Prelude.{◌≡◌, ◌≢◌, ℕ, ◌<◌, ◌≤◌, ◌⊎◌, Bool, true, false, List, All, Contains, Some, None, slice_get}
use Rattle.dn_wire.specs.declared.ids.ClientId.{ClientId}
use Rattle.dn_wire.specs.declared.ids.Round.{Round}
use Rattle.dn_record_types.specs.declared.body.Body.{Body}
use Rattle.dn_record_types.specs.declared.body.Listed.{Listed}
use Rattle.dn_record_types.specs.declared.statement.Statement.{Statement}
use Rattle.dn_record_types.specs.declared.statement.Statement.TheVariants as kinds
use Rattle.dn_record_types.specs.declared.statement.WordTold.{WordTold}
use Rattle.dn_records.specs.Records.{kind_byte}
use Rattle.dn_layout.specs.Layout.{bits_of}
use Rattle.dn_seal.specs.Said.{SaidView}
use Rattle.dn_cert.specs.Chain.{IsChain, IsLayoutAfter}
use Rattle.dn_server.specs.declared.claims.Claim.{Claim}
use Rattle.dn_server.specs.declared.past.Past.{Past}
use Rattle.dn_server.specs.declared.run.Stage.{Stage}
use Rattle.dn_server.specs.declared.run.Stage.TheVariants as stages
use Rattle.dn_server.specs.declared.run.Sum.{Sum}
use Rattle.dn_server.specs.Justified.{Justified, digest_by}
use Rattle.dn_server.specs.Server.{ServerView, servers_in, statement_of, WasIncluded, course_of}
use Rattle.dn_server.specs.Keeping.{round_of, HasAll}
use Rattle.dn_rounds.specs.Going.{IsListing, IsSum, commitment_of}
use Rattle.dn_openings.specs.Discipline.{KeepsOpenings}
use Rattle.dn_exchange.specs.Closing.{inventory_of}
use Rattle.dn_exchange.specs.Disciplined.{IsSaidBy, IsPast, AreGood, HasSaidNone, commit_to}

-- it has signed the statement, and keeps it under its own number
pub record HasSaid (v : ServerView) (s : Statement) : Type 0 where
  pub signed : Contains v.signed s
  pub kept : statement_of v.run.kept (kind_byte s) v.seat.number ≡ Some s

abbrev pub HasSaidInventory : ServerView → Type 0
HasSaidInventory v = HasSaid v (kinds.Inventory (inventory_of v.run))

-- It has committed itself to this sum, by the inventories of all servers, in a round with data.
pub record IsCommittedTo (v : ServerView) (sum : Sum) : Type 0 where
  pub has : v.run.sum ≡ Some sum
  pub listing : IsListing v false sum.listed
  pub good : All (AreGood v) listing.inventories
  pub summed : IsSum v sum
  pub said : HasSaid v (commitment_of v sum)

abbrev pub HasSaidCommit : ServerView → Type 0
HasSaidCommit v = (sum : Sum) × IsCommittedTo v sum

-- it has revealed the sum, with the commitments of all servers
pub record HasRevealed (v : ServerView) (sum : Sum) : Type 0 where
  pub commit : IsCommittedTo v sum
  pub commits : HasAll 4 v.run.kept (servers_in v)
  pub said : HasSaid v (kinds.Reveal v.run.r sum.s)

abbrev pub HasSaidReveal : ServerView → Type 0
HasSaidReveal v = (sum : Sum) × HasRevealed v sum

-- it has signed a body with data, with the ciphertexts of all servers
pub record HasSaidBody (v : ServerView) : Type 0 where
  pub sum : Sum
  pub reveal : HasRevealed v sum
  pub reveals : HasAll 5 v.run.kept (servers_in v)
  pub body : Body
  pub said : HasSaid v (kinds.Sign body)

-- it has signed a body without data, with the inventories of all servers
pub record HasSaidThin (v : ServerView) : Type 0 where
  pub no_commit : HasSaidNone v 4
  pub no_reveal : HasSaidNone v 5
  pub listed : List Listed
  pub listing : IsListing v true listed
  pub body : Body
  pub said : HasSaid v (kinds.Sign body)

-- what it has signed of the round that it opened last, by its stage
abbrev pub IsSaidAt : Stage → ServerView → Type 0
IsSaidAt stages.Collecting v = HasSaidNone v 3 × HasSaidNone v 4 × HasSaidNone v 5 × HasSaidNone v 6
IsSaidAt stages.Listed v = HasSaidInventory v × HasSaidNone v 4 × HasSaidNone v 5 × HasSaidNone v 6
IsSaidAt stages.Committed v = HasSaidInventory v × HasSaidCommit v × HasSaidNone v 5 × HasSaidNone v 6
IsSaidAt stages.Revealed v = HasSaidInventory v × HasSaidReveal v × HasSaidNone v 6
IsSaidAt stages.Signed v = HasSaidInventory v × (HasSaidThin v ⊎ HasSaidBody v)

-- how many leaves are set aside at each stage of a round that runs
abbrev pub aside_at : Stage → ℕ
aside_at stages.Collecting = 4
aside_at stages.Listed = 3
aside_at stages.Committed = 2
aside_at stages.Revealed = 1
aside_at stages.Signed = 0

-- the ciphertext that is kept of another server is the one that it committed to
abbrev pub AreFitting : ServerView → List SaidView → Type 0
AreFitting v kept = (j : ℕ) (d : List ℕ) (s : List Bool) → j ≢ v.seat.number → statement_of kept 4 j ≡ Some (kinds.Commit v.run.r d)
    → statement_of kept 5 j ≡ Some (kinds.Reveal v.run.r s) → d ≡ digest_by (course_of v.run) j s

-- Of each kind and round it signed one statement that servers make to each other, and for each client and round one receipt; all of rounds that
-- were opened; a receipt for each claim of the last; its ciphertexts after commitments to them; bodies that are justified; its pasts are those of
-- the bodies that it signed; and its openings are those of such bodies. What it keeps of its round is one statement of a kind from each server.
pub record IsHonest (v : ServerView) : Type 0 where
  pub chain : IsChain v.chain
  pub straight : v.bend ≡ None
  pub of_kinds : (s : Statement) → Contains v.signed s → (2 ≤ kind_byte s) × (kind_byte s ≤ 8)
  pub rounds : (s : Statement) (r : Round) → Contains v.signed s → round_of s ≡ Some r → (1 ≤ r.0) × (r.0 ≤ v.run.r.0)
  pub receipt_rounds : (r : Round) (i : ClientId) (d : List ℕ) (w : WordTold) → Contains v.signed (kinds.Receipt r i d w) → (1 ≤ r.0) × (r.0 ≤ v.run.r.0)
  pub one_each : (s t : Statement) (r : Round) → Contains v.signed s → Contains v.signed t → round_of s ≡ Some r → round_of t ≡ Some r → kind_byte s ≡ kind_byte t
      → s ≡ t
  pub one_receipt : (r : Round) (i : ClientId) (d e : List ℕ) (w x : WordTold) → Contains v.signed (kinds.Receipt r i d w) → Contains v.signed (kinds.Receipt r i e x)
      → kinds.Receipt r i d w ≡ kinds.Receipt r i e x
  pub receipts : (i : ClientId) (d : List ℕ) (w : WordTold) → Contains v.signed (kinds.Receipt v.run.r i d w)
      → (claim : Claim) × (slice_get v.run.claims i.0 ≡ Some (Some claim)) × (claim.digest ≡ d) × (claim.told ≡ w)
  pub claims : (i : ClientId) (claim : Claim) → slice_get v.run.claims i.0 ≡ Some (Some claim) → Contains v.signed (kinds.Receipt v.run.r i claim.digest claim.told)
  pub reveals : (r : Round) (s : List Bool) → Contains v.signed (kinds.Reveal r s) → Contains v.signed (commit_to v.seat r s)
  pub course : 1 ≤ v.run.r.0 → (layout : List ℕ) × IsLayoutAfter v.chain v.run.prev.0 layout × (v.run.bits ≡ bits_of layout)
  pub said : IsSaidAt v.run.stage v
  pub signs : (b : Body) → Contains v.signed (kinds.Sign b) → b.r ≡ v.run.r → Justified (IsSaidBy v) (WasIncluded v.run) v.seat v.chain b
  pub pasts : (b : Body) → Contains v.signed (kinds.Sign b) → (past : Past) × Contains v.pasts past × (past.body ≡ b)
  pub past_are : (past : Past) → Contains v.pasts past → Contains v.signed (kinds.Sign past.body) × IsPast v past
  pub openings : KeepsOpenings v
  pub one_kept : (a b : SaidView) → Contains v.run.kept a → Contains v.run.kept b → a.signer ≡ b.signer → kind_byte a.statement ≡ kind_byte b.statement → a ≡ b
  pub fitting : v.run.is_running ≡ true → AreFitting v v.run.kept
  pub listed : v.run.is_running ≡ true → v.run.stage ≡ stages.Collecting → v.run.window.closed ≡ false
  pub set_aside : v.run.is_running ≡ true → aside_at v.run.stage ≤ v.aside

-- what is wanting at each stage of a round that runs, at the end of each call, so that the server can't go on
abbrev pub Wants : Stage → ServerView → Type 0
Wants stages.Collecting v = Unit {0}
Wants stages.Listed v = (thin : Bool) (listed : List Listed) → ¬ IsListing v thin listed
Wants stages.Committed v = ¬ HasAll 4 v.run.kept (servers_in v)
Wants stages.Revealed v = ¬ HasAll 5 v.run.kept (servers_in v)
Wants stages.Signed v = (b : Body) → statement_of v.run.kept 6 v.seat.number ≡ Some (kinds.Sign b)
    → ¬ ((j : ℕ) → j < servers_in v → statement_of v.run.kept 6 j ≡ Some (kinds.Sign b))

-- the server has gone on as far as it can
abbrev pub HasGoneOn : ServerView → Type 0
HasGoneOn v = v.run.is_running ≡ true → Wants v.run.stage v

-- what a server that isn't bent keeps true from call to call
pub record IsTrue (v : ServerView) : Type 0 where
  pub honest : IsHonest v
  pub gone : HasGoneOn v
