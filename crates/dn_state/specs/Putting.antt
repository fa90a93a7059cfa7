-- What becomes of a world where a member puts bytes, and what is told of it.
use Rattle.std.specs.Prelude.{◌≡◌, ◌+◌, ◌++◌, ◌∷◌, ℕ, Bool, true, false, List, [], Option, Some, None, slice_get, if◌then◌else◌}
use Rattle.std.specs.Ordering.{nat_cmp}
use Rattle.std.specs.BTreeMap.{insert_entry}
use Rattle.dn_wire.specs.declared.ids.Member.{Member}
use Rattle.dn_wire.specs.declared.ids.SignerId.{SignerId}
use Rattle.dn_wire.specs.declared.ids.SignerId.TheVariants as signers
use Rattle.dn_record_types.specs.declared.body.Body.{Body}
use Rattle.dn_record_types.specs.declared.statement.Statement.{Statement}
use Rattle.dn_record_types.specs.declared.statement.Statement.TheVariants as kinds
use Rattle.dn_records.specs.Records.{statement_bytes}
use Rattle.dn_roster.specs.Roster.{RosterView, digest_of, signed_bytes_of}
use Rattle.dn_seal.specs.Said.{SaidView}
use Rattle.dn_cert.specs.declared.opened.Opened.TheVariants as opened
use Rattle.dn_cert.specs.Chain.{ChainView, CanFollow, with_held}
use Rattle.dn_flight.specs.Flight.{FlightView, IsFull}
use Rattle.dn_payloads.specs.declared.content.Content.{Content}
use Rattle.dn_payloads.specs.declared.content.Content.TheVariants as contents
use Rattle.dn_payloads.specs.declared.payloads.Numbered.{Numbered}
use Rattle.dn_payloads.specs.Payloads.{PayloadView, IsNumbered}
use Rattle.dn_audit.specs.Group.{GroupView}
use Rattle.dn_audit.specs.Auditor.{AuditorView, RunStrings, AddsStrings, NotesSigned, Looks, hashed_cipher, with_shown}
use Rattle.dn_report.specs.declared.outcome.Outcome.{Outcome}
use Rattle.dn_report.specs.declared.outcome.Outcome.TheVariants as outcomes
use Rattle.dn_state.specs.declared.putting.Sender.{Sender}
use Rattle.dn_state.specs.Parts.{PartsView}

-- ---- what a payload says

-- what was said in the envelope in front of a payload that opens
abbrev pub front_of : Content → Option SaidView
front_of (contents.Opened (opened.Submission cipher said)) = Some said
front_of (contents.Opened (opened.Plain said)) = Some said
front_of (contents.Opened (opened.Certificate c)) = None
front_of (contents.Opened (opened.Challenge c)) = None
front_of contents.Form = None
front_of contents.Stranger = None
front_of contents.Signature = None

-- what was said, where a server said it
abbrev pub by_server : SignerId → SaidView → List SaidView
by_server (signers.Client i) said = []
by_server (signers.Server j) said = said ∷ []
by_server (signers.Slot s) said = []

-- what a server says in a plain payload
abbrev pub server_said : Content → List SaidView
server_said (contents.Opened (opened.Submission cipher said)) = []
server_said (contents.Opened (opened.Plain said)) = by_server said.signer said
server_said (contents.Opened (opened.Certificate c)) = []
server_said (contents.Opened (opened.Challenge c)) = []
server_said contents.Form = []
server_said contents.Stranger = []
server_said contents.Signature = []

-- the places of accusations, with that of this statement, where it is one
abbrev pub accused_by : Statement → List (ℕ × ℕ) → List (ℕ × ℕ)
accused_by (kinds.Accusation r slot k) accused = insert_entry nat_cmp accused r.0 k
accused_by _ accused = accused

-- the places of accusations, with that of a plain payload, where it is one
abbrev pub accused_with : Content → List (ℕ × ℕ) → List (ℕ × ℕ)
accused_with (contents.Opened (opened.Submission cipher said)) accused = accused
accused_with (contents.Opened (opened.Plain said)) accused = accused_by said.statement accused
accused_with (contents.Opened (opened.Certificate c)) accused = accused
accused_with (contents.Opened (opened.Challenge c)) accused = accused
accused_with contents.Form accused = accused
accused_with contents.Stranger accused = accused
accused_with contents.Signature accused = accused

-- ---- the run's certificates

-- A body is given to the chain: held where it can follow there, and else the chain stays.
pub data Follows (old : ChainView) (b : Body) (new : ChainView) : Type 0 where
  held : CanFollow old b → new ≡ record old { held = with_held b old.held } → Follows old b new
  stays : (¬ CanFollow old b) → new ≡ old → Follows old b new

-- the chain after a payload was put: the body of a certificate is given to it
abbrev pub FollowsIn : ChainView → Content → ChainView → Type 0
FollowsIn old (contents.Opened (opened.Submission cipher said)) new = new ≡ old
FollowsIn old (contents.Opened (opened.Plain said)) new = new ≡ old
FollowsIn old (contents.Opened (opened.Certificate c)) new = Follows old c.body new
FollowsIn old (contents.Opened (opened.Challenge c)) new = new ≡ old
FollowsIn old contents.Form new = new ≡ old
FollowsIn old contents.Stranger new = new ≡ old
FollowsIn old contents.Signature new = new ≡ old

-- ---- the audit

-- the client's ciphertext in a submission, with the strings of a run
abbrev pub with_cipher : Statement → List Bool → RunStrings → RunStrings
with_cipher (kinds.Submission r prev client digest) cipher x = record x { ciphers = x.ciphers ++ hashed_cipher r.0 client.0 cipher ∷ [] }
with_cipher _ cipher x = x

-- the strings of a run, with those that a payload shows
abbrev pub with_shown_in : Content → RunStrings → RunStrings
with_shown_in (contents.Opened (opened.Submission cipher said)) x = with_cipher said.statement cipher x
with_shown_in (contents.Opened (opened.Plain said)) x = with_shown x said.signer said.statement
with_shown_in (contents.Opened (opened.Certificate c)) x = x
with_shown_in (contents.Opened (opened.Challenge c)) x = x
with_shown_in contents.Form x = x
with_shown_in contents.Stranger x = x
with_shown_in contents.Signature x = x

-- what a member's own core puts with a statement in front, its key signed
abbrev pub NotesOwn : RosterView → Bool → Option SaidView → AuditorView → AuditorView → Type 0
NotesOwn roster true (Some said) old new = NotesSigned old new (signed_bytes_of (digest_of roster) said.signer (statement_bytes said.statement))
NotesOwn roster true None old new = new ≡ old
NotesOwn roster false front old new = new ≡ old

-- the signatures in a payload are looked at, and then the strings that it shows are noted
pub record LooksInto (roster : RosterView) (group : GroupView) (bytes : List ℕ) (content : Content) (old new : AuditorView) : Type 0 where
  pub between : AuditorView
  pub looks : Looks roster group old between bytes
  pub strings : AddsStrings between new (with_shown_in content)

-- the same of a payload that is new
abbrev pub LooksIfNew : RosterView → GroupView → Bool → List ℕ → Content → AuditorView → AuditorView → Type 0
LooksIfNew roster group true bytes content old new = LooksInto roster group bytes content old new
LooksIfNew roster group false bytes content old new = new ≡ old

-- what the audit knows after a payload was put: first what the sender signed, where the sender's own core puts it
pub record Audits (roster : RosterView) (group : GroupView) (is_own is_new : Bool) (bytes : List ℕ) (content : Content) (old new : AuditorView) : Type 0 where
  pub between : AuditorView
  pub own : NotesOwn roster is_own (front_of content) old between
  pub first : LooksIfNew roster group is_new bytes content between new

-- ---- messages

-- A payload goes to a member: one message more is in flight, with the next number; or it is lost to a full flight.
pub data Sends (from : Member) (payload : ℕ) (to : Member) (old new : FlightView) (line : Outcome) : Type 0 where
  sent : (¬ IsFull old) → new.msgs ≡ old.msgs ++ record { id = old.next; from = from; to = to; payload = payload } ∷ [] → new.next ≡ old.next + 1
      → line ≡ outcomes.Sent old.next payload to → Sends from payload to old new line
  full : IsFull old → new ≡ old → line ≡ outcomes.Full payload to → Sends from payload to old new line

-- it goes to one member after the other
pub data SendsEach (from : Member) (payload : ℕ) : List Member → FlightView → FlightView → List Outcome → Type 0 where
  to_none : {old new : FlightView} {lines : List Outcome} → new ≡ old → lines ≡ [] → SendsEach from payload [] old new lines
  to_next : {to : Member} {others : List Member} {old new : FlightView} {lines : List Outcome} (between : FlightView) (line : Outcome) (rest : List Outcome)
      → Sends from payload to old between line → SendsEach from payload others between new rest → lines ≡ line ∷ rest
      → SendsEach from payload (to ∷ others) old new lines

-- ---- all of it

-- the line of bytes that weren't put before
abbrev pub post_lines : Numbered → Member → List ℕ → List Outcome
post_lines n by bytes = if n.is_new then outcomes.Post n.number by bytes ∷ [] else []

-- Nobody's core is called: the members, and what was told and delivered, are as before.
pub record KeepsMembers (old new : PartsView) : Type 0 where
  pub roster : new.roster ≡ old.roster
  pub group : new.group ≡ old.group
  pub clients : new.clients ≡ old.clients
  pub servers : new.servers ≡ old.servers
  pub left : new.left ≡ old.left
  pub told : new.told ≡ old.told
  pub delivered : new.delivered ≡ old.delivered

-- A member puts bytes to members, in this order. The bytes have the number that they were given when they were first put, or the next one.
-- A line tells of new bytes; then one tells of each message.
pub record Puts (old : PartsView) (sender : Sender) (to : List Member) (bytes : List ℕ) (new : PartsView) (lines : List Outcome) : Type 0 where
  pub number : Numbered
  pub numbered : IsNumbered old.payloads bytes new.payloads number
  -- the payload, as it opens
  pub payload : PayloadView
  pub there : slice_get new.payloads.items number.number ≡ Some payload
  pub spelled : payload.bytes ≡ bytes
  pub sent : List Outcome
  pub sends : SendsEach sender.member number.number to old.flight new.flight sent
  pub told : lines ≡ post_lines number sender.member bytes ++ sent
  pub follows : FollowsIn old.chain payload.content new.chain
  pub heard : new.heard ≡ (if number.is_new then old.heard ++ server_said payload.content else old.heard)
  pub accused : new.accused ≡ accused_with payload.content old.accused
  pub audits : Audits old.payloads.roster old.group sender.is_own number.is_new bytes payload.content old.auditor new.auditor
  pub members : KeepsMembers old new
