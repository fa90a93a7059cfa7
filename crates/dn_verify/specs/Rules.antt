-- The rules of a report's lines behind its header that are judged by what a line says itself: at one line, from the lines above it and a
-- few behind it. V1, of numbers and messages: `IsInOrder`. V3, of what clients are told: `IsToldRightly`. V4, of certificates:
-- `IsCertified` and `IsHeldRightly`. V7, of what honest members post: `IsProperPost`. V8, of the audit's third word: `IsHonestWord`.
use Rattle.std.specs.Prelude.{◌≡◌, ◌⊎◌, ◌↔◌, ◌<◌, ◌≤◌, ◌==◌, ◌&&◌, nat_lt, ℕ, Bool, true, false, List, [], ◌∷◌, length, drop, Option, Some, None, Contains, IsSome, IsTrue, if◌then◌else◌}
use Rattle.dn_told.specs.declared.told.WindowTold.{WindowTold}
use Rattle.dn_told.specs.declared.told.WindowTold.TheVariants as told
use Rattle.dn_wire.specs.declared.ids.ClientId.{ClientId}
use Rattle.dn_wire.specs.declared.ids.ServerId.{ServerId}
use Rattle.dn_wire.specs.declared.ids.Round.{Round}
use Rattle.dn_wire.specs.declared.ids.Member.{Member}
use Rattle.dn_wire.specs.declared.ids.Member.TheVariants.{Client, Server}
use Rattle.dn_record_types.specs.declared.statement.WordTold.{WordTold}
use Rattle.dn_record_types.specs.declared.statement.WordTold.TheVariants as receipts
use Rattle.dn_report.specs.declared.line.EventLine.{EventLine}
use Rattle.dn_report.specs.declared.line.EventLine.TheVariants as events
use Rattle.dn_report.specs.declared.line.ReportLine.{ReportLine}
use Rattle.dn_report.specs.declared.line.ReportLine.TheVariants as lines
use Rattle.dn_report.specs.declared.outcome.Outcome.{Outcome}
use Rattle.dn_report.specs.declared.outcome.Outcome.TheVariants as outcomes
use Rattle.dn_verify.specs.declared.scene.Scene.{Scene}
use Rattle.dn_verify.specs.declared.scene.Scene.TheVariants as scenes
use Rattle.dn_verify.specs.declared.told.ToldKey.{ToldKey}
use Rattle.dn_verify.specs.Course.{CourseView, first_outcome, is_for_nothing, is_member, place_after}
use Rattle.dn_verify.specs.Payloads.{Report, CarriesSome, IsSubmissionOf, IsReceiptOf, IsCertificateFor, IsOwn}

-- the member isn't among the corrupt ones
abbrev pub IsHonest : List Member → Member → Type 0
IsHonest corrupt m = Contains corrupt m → ⊥

-- ---- V1: numbers and messages

-- the line posts this payload of this member
abbrev pub PostsBy : ℕ → Member → Option Outcome → Type 0
PostsBy payload by (Some (outcomes.Post number who bytes)) = (number ≡ payload) × (who ≡ by)
PostsBy payload by _ = ⊥

-- The payload is the next one of the report.
pub record IsNextPayload (report : Report) (c : CourseView) (payload : ℕ) : Type 0 where
  pub next : payload ≡ c.posted
  pub there : payload < length report.payloads

-- the payload was posted above, and the message has the next number; a run sends fewer than 2^64 - 1 messages
pub record IsNextMessage (c : CourseView) (id payload : ℕ) : Type 0 where
  pub posted : payload < c.posted
  pub next : id ≡ c.sent
  pub few : id < 18446744073709551615

-- A payload that is injected was posted above or is posted by the next line, and its sender is corrupt or had put it.
pub record IsRightInject (corrupt : List Member) (c : CourseView) (from : Member) (payload : ℕ) (behind : List ReportLine) : Type 0 where
  pub posted : (payload < c.posted) ⊎ PostsBy payload from (first_outcome behind)
  pub put : IsHonest corrupt from → (payload < c.posted) × IsTrue (c.puts payload from)

abbrev pub IsOrderlyEvent : Report → CourseView → EventLine → List ReportLine → Type 0
IsOrderlyEvent report c (events.Deliver id) behind = IsSome (c.flight id) ⊎ IsTrue (is_for_nothing behind)
IsOrderlyEvent report c (events.Inject from to payload) behind = IsRightInject report.corrupt c from payload behind
IsOrderlyEvent report c _ behind = Unit {0}

abbrev pub IsOrderlyOutcome : Report → CourseView → Outcome → Type 0
IsOrderlyOutcome report c (outcomes.Post payload by bytes) = IsNextPayload report c payload
IsOrderlyOutcome report c (outcomes.Sent id payload to) = IsNextMessage c id payload
IsOrderlyOutcome report c (outcomes.Full payload to) = payload < c.posted
IsOrderlyOutcome report c _ = Unit {0}

abbrev pub IsOrderly : Report → CourseView → ReportLine → List ReportLine → Type 0
IsOrderly report c (lines.Event e) behind = IsOrderlyEvent report c e behind
IsOrderly report c (lines.Outcome o) behind = IsOrderlyOutcome report c o
IsOrderly report c _ behind = Unit {0}

-- the line may stand where it does, and its numbers are right
pub record IsInOrder (report : Report) (c : CourseView) (l : ReportLine) (behind : List ReportLine) : Type 0 where
  pub placed : IsSome (place_after c.ending l)
  pub orderly : IsOrderly report c l behind

-- ---- V3: what clients are told

-- the payload and the receiver that a `sent` or a `full` line names
abbrev pub named_by : Outcome → Option (ℕ × Member)
named_by (outcomes.Sent id payload to) = Some (payload, to)
named_by (outcomes.Full payload to) = Some (payload, to)
named_by _ = None

abbrev pub named_in : Option Outcome → Option (ℕ × Member)
named_in None = None
named_in (Some o) = named_by o

-- the payload that a `post` line posts
abbrev pub posted_by : Outcome → Option ℕ
posted_by (outcomes.Post payload by bytes) = Some payload
posted_by _ = None

-- where it is a payload that was posted above
abbrev pub posted_above : CourseView → Option (ℕ × Member) → Option (ℕ × Member)
posted_above c None = None
posted_above c (Some (payload, to)) = if nat_lt payload c.posted then Some (payload, to) else None

-- where it is the payload that is posted next, with this number
abbrev pub posted_here : CourseView → ℕ → Option (ℕ × Member) → Option (ℕ × Member)
posted_here c number None = None
posted_here c number (Some (payload, to)) = if payload == number && payload == c.posted then Some (payload, to) else None

-- the payload that a line sends, or one behind its `post` line
abbrev pub sends : CourseView → Option ℕ → Option (ℕ × Member) → Option (ℕ × Member) → Option (ℕ × Member)
sends c None named later = posted_above c named
sends c (Some number) named later = posted_here c number later

-- the payload that is sent next, with its receiver, where only its `post` line may stand before
abbrev pub sends_by : CourseView → Option Outcome → Option Outcome → Option (ℕ × Member)
sends_by c None later = None
sends_by c (Some o) later = sends c (posted_by o) (named_by o) (named_in later)

abbrev pub sends_next : CourseView → List ReportLine → Option (ℕ × Member)
sends_next c behind = sends_by c (first_outcome behind) (first_outcome (drop 1 behind))

-- A server told a client of its submission, which was delivered to it, by its receipt, which is sent next.
pub record HasReceipt (report : Report) (c : CourseView) (key : ToldKey) (word : WordTold) (behind : List ReportLine) : Type 0 where
  pub submission : ℕ
  pub delivered : c.scene ≡ scenes.Delivery (Server key.server) submission
  pub digest : List ℕ
  pub submitted : CarriesSome report submission (IsSubmissionOf key.client key.r digest)
  pub receipt : ℕ
  pub sent : sends_next c behind ≡ Some (receipt, Client key.client)
  pub says : CarriesSome report receipt (IsReceiptOf key.server key.client key.r digest word)

abbrev pub IsToldRightly : Report → CourseView → ToldKey → WindowTold → List ReportLine → Type 0
IsToldRightly report c key told.Included behind = HasReceipt report c key receipts.Included behind
IsToldRightly report c key told.Late behind = HasReceipt report c key receipts.Late behind
IsToldRightly report c key told.Repeat behind = IsTrue (c.told key)

-- ---- V4: certificates

-- the line puts something
abbrev pub is_put : ReportLine → Bool
is_put (lines.Outcome (outcomes.Post payload by bytes)) = true
is_put (lines.Outcome (outcomes.Sent id payload to)) = true
is_put (lines.Outcome (outcomes.Full payload to)) = true
is_put _ = false

-- the payload that the line puts, where its `post` line is this server's
abbrev pub put_by : CourseView → ServerId → Outcome → Option ℕ
put_by c server (outcomes.Post payload by bytes) = if is_member by (Server server) && payload == c.posted then Some payload else None
put_by c server (outcomes.Sent id payload to) = if nat_lt payload c.posted then Some payload else None
put_by c server (outcomes.Full payload to) = if nat_lt payload c.posted then Some payload else None
put_by c server _ = None

abbrev pub put_in : CourseView → ServerId → Option Outcome → Option ℕ
put_in c server None = None
put_in c server (Some o) = put_by c server o

-- the lines from the next on that puts something
abbrev pub from_put : List ReportLine → List ReportLine
from_put [] = []
from_put (l ∷ behind) = if is_put l then l ∷ behind else from_put behind

-- the payload that is put next
abbrev pub puts_next : CourseView → ServerId → List ReportLine → Option ℕ
puts_next c server behind = put_in c server (first_outcome (from_put behind))

-- the server has a certificate of the round, which is what is put next
pub record IsCertified (report : Report) (c : CourseView) (server : ServerId) (r : Round) (behind : List ReportLine) : Type 0 where
  pub payload : ℕ
  pub put : puts_next c server behind ≡ Some payload
  pub certificate : CarriesSome report payload (IsCertificateFor r)

-- the member holds a certificate of the round, which is what was delivered to it
pub record IsHeldRightly (report : Report) (c : CourseView) (m : Member) (r : Round) : Type 0 where
  pub payload : ℕ
  pub delivered : c.scene ≡ scenes.Delivery m payload
  pub certificate : CarriesSome report payload (IsCertificateFor r)

-- ---- V7: what honest members post

-- the line stands under an `inject`
abbrev pub IsInjected : Scene → Type 0
IsInjected (scenes.Inject m) = Unit {0}
IsInjected _ = ⊥

-- what an honest member posts, but under `inject`, opens, and it is that member's own
abbrev pub IsProperPost : Report → Scene → ℕ → Member → Type 0
IsProperPost report scene payload by = (IsInjected scene → ⊥) → IsHonest report.corrupt by → CarriesSome report payload (IsOwn by)

-- ---- V8: the third word of the audit

-- one of so many servers isn't corrupt
abbrev pub SomeHonestServer : List Member → ℕ → Type 0
SomeHonestServer corrupt servers = (j : ServerId) × (j.0 < servers) × IsHonest corrupt (Server j)

abbrev pub IsHonestWord : Report → Bool → Type 0
IsHonestWord report honest = IsTrue honest ↔ SomeHonestServer report.corrupt (length report.roster.servers)
