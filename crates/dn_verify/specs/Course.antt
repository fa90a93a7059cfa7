-- How far the lines of a report have told a run, and how each line goes on with it.
use Rattle.std.specs.Prelude.{◌≡◌, ℕ, ◌+◌, ◌==◌, ◌&&◌, ◌||◌, Bool, true, false, List, [], ◌∷◌, Option, Some, None, if◌then◌else◌}
use Rattle.dn_wire.specs.declared.ids.ClientId.{ClientId}
use Rattle.dn_wire.specs.declared.ids.ServerId.{ServerId}
use Rattle.dn_wire.specs.declared.ids.Member.{Member}
use Rattle.dn_wire.specs.declared.ids.Member.TheVariants.{Client, Server}
use Rattle.dn_report.specs.declared.line.EventLine.{EventLine}
use Rattle.dn_report.specs.declared.line.EventLine.TheVariants as events
use Rattle.dn_report.specs.declared.line.ReportLine.{ReportLine}
use Rattle.dn_report.specs.declared.line.ReportLine.TheVariants as lines
use Rattle.dn_report.specs.declared.outcome.Outcome.{Outcome}
use Rattle.dn_report.specs.declared.outcome.Outcome.TheVariants as outcomes
use Rattle.dn_report.specs.declared.words.IgnoredWord.TheVariants as ignored
use Rattle.dn_verify.specs.declared.course.Ending.{Ending}
use Rattle.dn_verify.specs.declared.course.Ending.TheVariants.{Open, Audited, Ended}
use Rattle.dn_verify.specs.declared.told.ToldKey.{ToldKey}
use Rattle.dn_verify.specs.declared.mail.Flying.{Flying}
use Rattle.dn_verify.specs.declared.scene.Scene.{Scene}
use Rattle.dn_verify.specs.declared.scene.Scene.TheVariants as scenes
use Rattle.dn_verify.specs.Flight.{Flight, no_flight, with_message, without_message, without_client}

-- How many payloads were posted, and who had put which; how many messages were sent, and which are in flight; which client was told by
-- which server in which round; the event under which the next line stands; the server that closed last; and how far the lines have come.
pub record CourseView : Type 0 where
  pub posted : ℕ
  pub puts : ℕ → Member → Bool
  pub sent : ℕ
  pub flight : Flight
  pub told : ToldKey → Bool
  pub scene : Scene
  pub closed : Option ServerId
  pub ending : Ending

-- before the first line behind the header
abbrev pub no_course : CourseView
no_course = record {
  posted = 0;
  puts = λ payload m. false;
  sent = 0;
  flight = no_flight;
  told = λ key. false;
  scene = scenes.Idle;
  closed = None;
  ending = Open;
}

-- one member
abbrev pub is_member : Member → Member → Bool
is_member (Client a) (Client b) = a.0 == b.0
is_member (Client a) (Server b) = false
is_member (Server a) (Client b) = false
is_member (Server a) (Server b) = a.0 == b.0

-- one client, one server and one round
abbrev pub is_told_key : ToldKey → ToldKey → Bool
is_told_key a b = a.client.0 == b.client.0 && (a.server.0 == b.server.0 && a.r.0 == b.r.0)

-- who sends what is sent under an event, where this server closed last
abbrev pub actor_under : Option ServerId → Scene → Option Member
actor_under closed (scenes.Of actor) = actor
actor_under None scenes.Tick = None
actor_under (Some server) scenes.Tick = Some (Server server)
actor_under closed (scenes.Inject m) = Some m
actor_under closed (scenes.Delivery to payload) = Some to
actor_under closed scenes.Idle = None
actor_under closed scenes.Judge = None

abbrev pub actor_of : CourseView → Option Member
actor_of c = actor_under c.closed c.scene

-- ---- what stands behind a delivery

-- the outcome that the first of the lines tells
abbrev pub outcome_in : Option ReportLine → Option Outcome
outcome_in (Some (lines.Outcome o)) = Some o
outcome_in _ = None

abbrev pub first_outcome : List ReportLine → Option Outcome
first_outcome [] = None
first_outcome (l ∷ behind) = outcome_in (Some l)

-- the server that the message reached isn't that far yet
abbrev pub tells_early : Option Outcome → Bool
tells_early (Some outcomes.Early) = true
tells_early _ = false

abbrev pub is_early : List ReportLine → Bool
is_early behind = tells_early (first_outcome behind)

-- no message has the number
abbrev pub tells_nothing : Option Outcome → Bool
tells_nothing (Some (outcomes.Ignored ignored.None)) = true
tells_nothing _ = false

abbrev pub is_for_nothing : List ReportLine → Bool
is_for_nothing behind = tells_nothing (first_outcome behind)

-- ---- how a line goes on

-- the puts with one more
abbrev pub with_put : Option Member → ℕ → (ℕ → Member → Bool) → ℕ → Member → Bool
with_put None payload puts p m = puts p m
with_put (Some by) payload puts p m = if payload == p && is_member by m then true else puts p m

abbrev pub under : Scene → CourseView → CourseView
under scene c = record c { scene = scene }

-- a message arrives, which stays in flight where it comes early
abbrev pub after_delivery : ℕ → Option Flying → List ReportLine → CourseView → CourseView
after_delivery id None behind c = under (scenes.Of None) c
after_delivery id (Some f) behind c = record c {
  scene = scenes.Delivery f.to f.payload;
  flight = if is_early behind then c.flight else without_message c.flight id;
}

-- behind an event
abbrev pub after_event : EventLine → List ReportLine → CourseView → CourseView
after_event (events.Say client text) behind c = under (scenes.Of None) c
after_event (events.Open server r) behind c = under (scenes.Of (Some (Server server))) c
after_event (events.Submit client server r) behind c = under (scenes.Of (Some (Client client))) c
after_event (events.Deliver id) behind c = after_delivery id (c.flight id) behind c
after_event (events.Lose id) behind c = record c { scene = scenes.Of None; flight = without_message c.flight id }
after_event events.Tick behind c = under scenes.Tick c
after_event (events.Close server) behind c = under (scenes.Of (Some (Server server))) c
after_event (events.Abandon server) behind c = under (scenes.Of (Some (Server server))) c
after_event (events.Leave client) behind c = record c { scene = scenes.Of None; flight = without_client c.flight client }
after_event (events.Accuse client r k) behind c = under (scenes.Of (Some (Client client))) c
after_event (events.Judge r k) behind c = under scenes.Judge c
after_event (events.Inject from to payload) behind c = under (scenes.Inject from) c

-- behind an outcome
abbrev pub after_outcome : Outcome → CourseView → CourseView
after_outcome (outcomes.Post payload by bytes) c = record c { posted = c.posted + 1; puts = with_put (Some by) payload c.puts }
after_outcome (outcomes.Sent id payload to) c = record c {
  puts = with_put (actor_of c) payload c.puts;
  sent = c.sent + 1;
  flight = with_message c.flight id (record { from = actor_of c; to = to; payload = payload });
}
after_outcome (outcomes.Full payload to) c = record c { puts = with_put (actor_of c) payload c.puts }
after_outcome (outcomes.Closed server r count) c = record c { closed = Some server }
after_outcome (outcomes.Told client server r told) c = record c {
  told = λ key. if is_told_key (record { client = client; server = server; r = r }) key then true else c.told key;
}
after_outcome _ c = c

-- Where a line may stand: events, marks and outcomes, then one `audit` line, then `end`. It tells how far the lines have come then.
abbrev pub place_after : Ending → ReportLine → Option Ending
place_after Open (lines.Event e) = Some Open
place_after Open (lines.Race server workers) = Some Open
place_after Open (lines.Board server read) = Some Open
place_after Open (lines.Outcome o) = Some Open
place_after Open (lines.Audit signed digests honest) = Some Audited
place_after Audited lines.End = Some Ended
place_after _ _ = None

abbrev pub ending_or : Option Ending → Ending → Ending
ending_or None e = e
ending_or (Some new) e = new

-- behind a line, but for how far the lines have come; a mark ends the event above it
abbrev pub after_told : ReportLine → List ReportLine → CourseView → CourseView
after_told (lines.Event e) behind c = after_event e behind c
after_told (lines.Outcome o) behind c = after_outcome o c
after_told _ behind c = under scenes.Idle c

-- the course behind a line, behind which these lines stand
unfoldable pub after : CourseView → ReportLine → List ReportLine → CourseView
after c l behind = record (after_told l behind c) { ending = ending_or (place_after c.ending l) c.ending }
