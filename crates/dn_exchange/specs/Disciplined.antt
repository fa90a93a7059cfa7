-- What holds of all that a server that isn't bent ever signed, whatever became of its runs.
use Rattle.std.specs.Prelude.{◌≡◌, ◌≢◌, ℕ, ◌≤◌, ◌⊎◌, Bool, true, false, List, [], length, All, Contains, Some, slice_get}
use Rattle.dn_wire.specs.declared.ids.ClientId.{ClientId}
use Rattle.dn_wire.specs.declared.ids.Round.{Round}
use Rattle.dn_wire.specs.declared.ids.SignerId.{SignerId}
use Rattle.dn_bits.specs.Bits.{bytes_of}
use Rattle.dn_hash.specs.Digests.{server_digest_of}
use Rattle.dn_record_types.specs.declared.body.Body.{Body}
use Rattle.dn_record_types.specs.declared.body.Listed.{Listed}
use Rattle.dn_record_types.specs.declared.inventory.Inventory.{Inventory}
use Rattle.dn_record_types.specs.declared.shown.ShownCipher.{ShownCipher}
use Rattle.dn_record_types.specs.declared.statement.Statement.{Statement}
use Rattle.dn_record_types.specs.declared.statement.Statement.TheVariants as kinds
use Rattle.dn_record_types.specs.declared.statement.WordTold.{WordTold}
use Rattle.dn_record_types.specs.Place.{Place, place_of}
use Rattle.dn_records.specs.Records.{kind_byte}
use Rattle.dn_seal.specs.Said.{SaidView}
use Rattle.dn_seal.specs.Signer.{CanSign}
use Rattle.dn_layout.specs.Layout.{bits_of}
use Rattle.dn_lms.specs.Key.{IsKey}
use Rattle.dn_cert.specs.Chain.{IsLayoutAfter}
use Rattle.dn_cert.specs.Signed.{EntryVerifies}
use Rattle.dn_cert.specs.Trim.{given_to}
use Rattle.dn_window.specs.Window.{has_of}
use Rattle.dn_server.specs.declared.claims.Claim.{Claim}
use Rattle.dn_server.specs.declared.past.Past.{Past}
use Rattle.dn_server.specs.declared.run.Stage.{Stage}
use Rattle.dn_server.specs.declared.run.Stage.TheVariants as stages
use Rattle.dn_server.specs.declared.run.Sum.{Sum}
use Rattle.dn_server.specs.Justified.{Seat, Course, Justified, AreOfRows, server_string, digest_by}
use Rattle.dn_server.specs.Server.{ServerView, itself, WasIncluded}
use Rattle.dn_server.specs.Keeping.{round_of}
use Rattle.dn_rounds.specs.Going.{IsListing}
use Rattle.dn_openings.specs.Discipline.{ArePads, AreShown}
use Rattle.dn_exchange.specs.Closing.{inventory_of}

-- what the server knows to be said: by itself what it signed, and by others what it keeps of its last round
abbrev pub IsSaidBy : ServerView → SignerId → Statement → Type 0
IsSaidBy v who s =
    ((who ≡ itself v) × Contains v.signed s)
    ⊎ ((who ≢ itself v) × ((said : SaidView) × Contains v.run.kept said × (said.signer ≡ who) × (said.statement ≡ s)))

-- at most one statement for each place
abbrev pub OnePerPlace : List Statement → Type 0
OnePerPlace signed = (s t : Statement) (p : Place) → Contains signed s → Contains signed t → place_of s ≡ Some p → place_of t ≡ Some p → s ≡ t

-- the server's commitment to this ciphertext of round r
abbrev pub commit_to : Seat → Round → List Bool → Statement
commit_to seat r s = kinds.Commit r (server_digest_of r.0 seat.number (bytes_of s))

-- it has signed no statement of this kind in the round that it opened last
abbrev pub HasSaidNone : ServerView → ℕ → Type 0
HasSaidNone v kind = (s : Statement) → Contains v.signed s → round_of s ≡ Some v.run.r → kind_byte s ≢ kind

-- the kinds of which it has signed nothing yet, by its stage
abbrev pub AreUnsaid : Stage → ServerView → Type 0
AreUnsaid stages.Collecting v = HasSaidNone v 3 × HasSaidNone v 4 × HasSaidNone v 5 × HasSaidNone v 6
AreUnsaid stages.Listed v = HasSaidNone v 4 × HasSaidNone v 5 × HasSaidNone v 6
AreUnsaid stages.Committed v = HasSaidNone v 5 × HasSaidNone v 6
AreUnsaid stages.Revealed v = HasSaidNone v 6
AreUnsaid stages.Signed v = Unit {0}

-- an inventory of the last round, after the round's prev, whose entries verify
pub record AreGood (v : ServerView) (inventory : Inventory) : Type 0 where
  pub r : inventory.r ≡ v.run.r
  pub prev : inventory.prev ≡ v.run.prev
  pub verify : All (EntryVerifies v.seat.roster v.run.r v.run.prev) inventory.entries

-- the course of a body on a layout
abbrev pub course_on : Body → List ℕ → Course
course_on b layout = record { r = b.r; prev = b.prev; bits = bits_of layout }

-- What is kept of a body with data that was signed is the server's ciphertext in it, to which the body has its digest, and the ciphertexts of the
-- clients that the body gives to it.
pub record IsFullPast (v : ServerView) (past : Past) : Type 0 where
  pub layout : List ℕ
  pub after : IsLayoutAfter v.chain past.body.prev.0 layout
  pub long : length past.s ≡ bits_of layout
  pub rows : AreOfRows (course_on past.body layout) (given_to past.body.listed v.seat.number) past.own
  pub value : past.s ≡ server_string v.seat (course_on past.body layout) past.body.listed past.own
  pub digest : slice_get past.body.digests v.seat.number ≡ Some (digest_by (course_on past.body layout) v.seat.number past.s)

-- what is kept of a body that was signed, by whether it has data
abbrev pub IsPastAs : Bool → ServerView → Past → Type 0
IsPastAs true v past = (past.s ≡ []) × (past.own ≡ [])
IsPastAs false v past = IsFullPast v past

abbrev pub IsPast : ServerView → Past → Type 0
IsPast v past = IsPastAs past.body.thin v past

-- It committed itself in a round with data: by a list of inventories of all servers, which follow the round's prev and whose entries verify.
pub record HasCommittedBy (v : ServerView) : Type 0 where
  pub listed : List Listed
  pub listing : IsListing v false listed
  pub good : All (AreGood v) listing.inventories

-- the ciphertext is that of the record, and has the round's length
pub record IsItsSum (v : ServerView) (s : List Bool) : Type 0 where
  pub sum : Sum
  pub has : v.run.sum ≡ Some sum
  pub is : s ≡ sum.s
  pub long : length s ≡ v.run.bits

pub record Disciplined (v : ServerView) : Type 0 where
  -- receipts, and what servers say to each other of a round and of its openings
  pub kinds_of : (s : Statement) → Contains v.signed s → (2 ≤ kind_byte s) × (kind_byte s ≤ 8)
  -- of rounds that were opened
  pub rounds : (s : Statement) (r : Round) → Contains v.signed s → round_of s ≡ Some r → (1 ≤ r.0) × (r.0 ≤ v.run.r.0)
  pub receipt_rounds : (r : Round) (i : ClientId) (d : List ℕ) (w : WordTold) → Contains v.signed (kinds.Receipt r i d w) → (1 ≤ r.0) × (r.0 ≤ v.run.r.0)
  pub one_each : OnePerPlace v.signed
  -- a receipt for each claim of the last round, and for nothing else
  pub receipts : (i : ClientId) (d : List ℕ) (w : WordTold) → Contains v.signed (kinds.Receipt v.run.r i d w)
      → (claim : Claim) × (slice_get v.run.claims i.0 ≡ Some (Some claim)) × (claim.digest ≡ d) × (claim.told ≡ w)
  pub claims : (i : ClientId) (claim : Claim) → slice_get v.run.claims i.0 ≡ Some (Some claim) → Contains v.signed (kinds.Receipt v.run.r i claim.digest claim.told)
  -- the inventory of the last round has what was told Included, and each entry verifies
  pub inventories : (inventory : Inventory) → Contains v.signed (kinds.Inventory inventory) → inventory.r ≡ v.run.r
      → (inventory ≡ inventory_of v.run) × AreGood v inventory
  -- the last round's commitment is made in a round with data, and its ciphertext is that of the record
  pub commits : (d : List ℕ) → Contains v.signed (kinds.Commit v.run.r d) → HasCommittedBy v
  pub reveals_its : (s : List Bool) → Contains v.signed (kinds.Reveal v.run.r s) → IsItsSum v s
  -- what is revealed was committed to
  pub reveals : (r : Round) (s : List Bool) → Contains v.signed (kinds.Reveal r s) → Contains v.signed (commit_to v.seat r s)
  -- the body of the last round is justified by the round's record
  pub signs : (b : Body) → Contains v.signed (kinds.Sign b) → b.r ≡ v.run.r → Justified (IsSaidBy v) (WasIncluded v.run) v.seat v.chain b
  -- each body that was signed has its past, and each past is one of these
  pub pasts : (b : Body) → Contains v.signed (kinds.Sign b) → (past : Past) × Contains v.pasts past × (past.body ≡ b)
  pub past_signed : (past : Past) → Contains v.pasts past → Contains v.signed (kinds.Sign past.body)
  pub past_are : (past : Past) → Contains v.pasts past → IsPast v past
  -- openings, of bodies that it holds and signed
  pub pad_bits : (r : Round) (k : ℕ) (bits : List Bool) → Contains v.signed (kinds.PadBits r k bits) → ArePads v r k bits
  pub shown : (r : Round) (s : List Bool) (own : List ShownCipher) → Contains v.signed (kinds.Shown r s own) → AreShown v r s own
  -- the last round follows a round that is held, on the layout after which it has its bits
  pub course : 1 ≤ v.run.r.0 → (layout : List ℕ) × IsLayoutAfter v.chain v.run.prev.0 layout × (v.run.bits ≡ bits_of layout)
  -- of the last round it keeps one statement of a kind from each server, and what it signed itself
  pub one_kept : (a b : SaidView) → Contains v.run.kept a → Contains v.run.kept b → a.signer ≡ b.signer → kind_byte a.statement ≡ kind_byte b.statement → a ≡ b
  pub own_kept : (s : Statement) → Contains v.signed s → round_of s ≡ Some v.run.r
      → (said : SaidView) × Contains v.run.kept said × (said.signer ≡ itself v) × (said.statement ≡ s)
  -- each statement that it signed fits into an envelope, and its key is one that can sign
  pub fits : (s : Statement) → Contains v.signed s → CanSign (itself v) s
  pub is_key : IsKey v.key
  -- it has committed itself to the ciphertext of the record
  pub committed : (sum : Sum) → v.run.sum ≡ Some sum → Contains v.signed (commit_to v.seat v.run.r sum.s)
  -- A round that runs isn't round 0, and a window that is open is that of a round that runs; who has a claim is in the window; and what comes later
  -- in the round isn't signed yet.
  pub started : v.run.is_running ≡ true → 1 ≤ v.run.r.0
  pub open_runs : v.run.window.closed ≡ false → v.run.is_running ≡ true
  pub claimed : (i : ClientId) (claim : Claim) → slice_get v.run.claims i.0 ≡ Some (Some claim) → has_of v.run.window i.0 ≡ true
  pub unsaid : AreUnsaid v.run.stage v
