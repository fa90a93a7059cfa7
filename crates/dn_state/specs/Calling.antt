-- What comes of a call of a member's core.
use Rattle.std.specs.Prelude.{◌≡◌, ◌≢◌, length, ◌++◌, ◌∷◌, [], ℕ, true, false, not, List, filter, count_by, Option, Some, None, Result, Ok, Err, slice_set}
use Rattle.std.specs.Global.{Vec}
use Rattle.dn_wire.specs.declared.ids.ClientId.{ClientId}
use Rattle.dn_wire.specs.declared.ids.ServerId.{ServerId}
use Rattle.dn_wire.specs.declared.ids.Round.{Round}
use Rattle.dn_wire.specs.declared.ids.Member.{Member}
use Rattle.dn_wire.specs.declared.ids.Member.TheVariants as members
use Rattle.dn_bits.specs.Bits.{below}
use Rattle.dn_record_types.specs.Records.{payload_bytes}
use Rattle.dn_record_types.specs.declared.payload.Payload.TheVariants as payloads
use Rattle.dn_client.specs.declared.submitting.Submission.{Submission}
use Rattle.dn_client.specs.declared.submitting.SubmitFault.{SubmitFault}
use Rattle.dn_client.specs.declared.submitting.SubmitFault.TheVariants as submit_faults
use Rattle.dn_client.specs.declared.accusing.AccuseFault.{AccuseFault}
use Rattle.dn_client.specs.declared.accusing.AccuseFault.TheVariants as accuse_faults
use Rattle.dn_client.specs.Client.{ClientView, IsClient}
use Rattle.dn_client.specs.Submitting.{IsSubmitted, IsUnsubmitted}
use Rattle.dn_client.specs.Accusing.{Accuses, IsUnaccused}
use Rattle.dn_server.specs.declared.answer.Answer.{Answer}
use Rattle.dn_server.specs.declared.run.Sum.{Sum}
use Rattle.dn_server.specs.Server.{ServerView}
use Rattle.dn_exchange.specs.Opening.{Opens}
use Rattle.dn_exchange.specs.Closing.{Ticks, Shuts}
use Rattle.dn_exchange.specs.Ending.{Abandons}
use Rattle.dn_exchange.specs.Disciplined.{Disciplined}
use Rattle.dn_exchange.specs.Settled.{Settled}
use Rattle.dn_exchange.specs.Spoiling.{TellsDueBodies}
use Rattle.dn_flight.specs.Flight.{FlightView, is_from}
use Rattle.dn_audit.specs.Auditor.{AuditorView, AddsStrings, hashed_sum}
use Rattle.dn_report.specs.declared.outcome.Outcome.{Outcome}
use Rattle.dn_report.specs.declared.outcome.Outcome.TheVariants as outcomes
use Rattle.dn_report.specs.declared.words.IgnoredWord.{IgnoredWord}
use Rattle.dn_state.specs.declared.calling.Call.{Call}
use Rattle.dn_state.specs.declared.calling.Call.TheVariants as called
use Rattle.dn_state.specs.Parts.{PartsView}
use Rattle.dn_state.specs.Words.{submit_word_of, accuse_word_of}
use Rattle.dn_state.specs.Putting.{Puts}
use Rattle.dn_state.specs.Doing.{Becomes, Rests, Tells, InTurn, own}
use Rattle.dn_state.specs.Members.{client_at, server_at, with_client, with_server, all_servers}
use Rattle.dn_state.specs.Acting.{ComesOf}

-- ---- servers

-- what a core answers that keeps to the rules
pub record KeepsRules (before after : ServerView) : Type 0 where
  pub seat : after.seat ≡ before.seat
  pub bent : after.bent ≡ before.bent
  pub disciplined : after.bent ≡ false → Disciplined after
  pub settled : after.bent ≡ false → after.run.is_running ≡ true → Settled after

-- a body that it tells as its own is due
abbrev pub AreDue : ServerView → Answer → Type 0
AreDue after answer = after.bent ≡ false → TellsDueBodies after answer

-- what a core answers to a call
abbrev pub IsAnswerTo : Call → ServerView → Answer → ServerView → Type 0
IsAnswerTo (called.Open r) before answer after = Opens before r answer after
IsAnswerTo called.Tick before answer after = Ticks before answer after × AreDue after answer
IsAnswerTo called.Close before answer after = Shuts before answer after × AreDue after answer
IsAnswerTo called.Abandon before answer after = Abandons before answer after

-- the auditor is told a ciphertext that server j made for round r, if there is one
abbrev pub NotesSum : ServerId → Round → Option Sum → AuditorView → AuditorView → Type 0
NotesSum j r None old new = new ≡ old
NotesSum j r (Some sum) old new = AddsStrings old new (λ x. record x { sums = x.sums ++ hashed_sum r.0 j.0 sum.s ∷ [] })

-- A core answers a call. The auditor is told the ciphertext of its record, and its answer is carried out.
pub record IsCalled (j : ServerId) (answers : ServerView → Answer → ServerView → Type 0) (before : ServerView) (old new : PartsView) (lines : List Outcome) : Type 0 where
  pub answer : Answer
  pub after : ServerView
  pub answered : answers before answer after
  pub rules : KeepsRules before after
  pub auditor : AuditorView
  pub noted : NotesSum j after.run.r after.run.sum old.auditor auditor
  pub does : ComesOf j after.run.r answer (record (with_server old j after) { auditor = auditor }) new lines

-- a server is called; nothing comes of it where it is corrupt or out of range
pub data CallsServer (call : Call) (j : ServerId) (old new : PartsView) (lines : List Outcome) : Type 0 where
  calls : (before : ServerView) → server_at old j ≡ Some before → IsCalled j (IsAnswerTo call) before old new lines → CallsServer call j old new lines
  rests : server_at old j ≡ None → Rests old new lines → CallsServer call j old new lines

-- a unit of time passes at each honest server, by number
abbrev pub TicksAll : PartsView → PartsView → List Outcome → Type 0
TicksAll old new lines = InTurn (λ j. CallsServer called.Tick record { 0 = j }) (below (length old.roster.servers)) old new lines

-- ---- clients

-- a word for why a core does nothing, which there may be, is told
pub record IsIgnored (word : Option IgnoredWord) (old new : PartsView) (lines : List Outcome) : Type 0 where
  pub why : IgnoredWord
  pub is : word ≡ Some why
  pub tells : Tells (outcomes.Ignored why) old new lines

-- a client puts an envelope to every server
abbrev pub PutsToServers : ClientId → List ℕ → PartsView → PartsView → List Outcome → Type 0
PutsToServers i envelope old new lines = Puts old (own (members.Client i)) (all_servers old) (payload_bytes (payloads.Plain envelope)) new lines

-- a client puts a submission to a server
abbrev pub PutsSubmission : ClientId → ServerId → Submission → PartsView → PartsView → List Outcome → Type 0
PutsSubmission i j submission old new lines =
    Puts old (own (members.Client i)) (members.Server j ∷ []) (payload_bytes (payloads.Submission submission.cipher submission.envelope)) new lines

-- what a client's core answers where it is to submit for a round: what it submits, or why it doesn't
abbrev pub GivesSubmission : Round → ClientView → Result Submission SubmitFault → ClientView → Type 0
GivesSubmission r before (Ok submission) after = IsSubmitted before r submission after × IsClient after
GivesSubmission r before (Err fault) after = IsUnsubmitted before r fault × (fault ≢ submit_faults.NoMemory → after ≡ before)

-- what it answers where it is to accuse at a place of a round: an accusation's envelope, or why it doesn't accuse
abbrev pub GivesAccusation : Round → ℕ → ClientView → Result (Vec ℕ) AccuseFault → ClientView → Type 0
GivesAccusation r k before (Ok envelope) after = Accuses before r k envelope.items after × IsClient after
GivesAccusation r k before (Err fault) after = IsUnaccused before r k fault × (fault ≢ accuse_faults.NoMemory → after ≡ before)

-- the client with a text more in its queue
abbrev pub with_text : ClientView → List ℕ → ClientView
with_text core text = record core { queue = core.queue ++ text ∷ [] }

-- a text joins a client's queue; nothing comes of it where the client is corrupt or out of range
pub data SaysText (i : ClientId) (text : List ℕ) (old new : PartsView) (lines : List Outcome) : Type 0 where
  says : (before : ClientView) → client_at old i ≡ Some before → Becomes (with_client old i (with_text before text)) new lines → SaysText i text old new lines
  rests : client_at old i ≡ None → Rests old new lines → SaysText i text old new lines

-- the client's core gives what it submits for a round, which is put to the server
pub record SubmitsTo (i : ClientId) (j : ServerId) (r : Round) (before : ClientView) (old new : PartsView) (lines : List Outcome) : Type 0 where
  pub submission : Submission
  pub after : ClientView
  pub given : IsSubmitted before r submission after
  pub client : IsClient after
  pub put : PutsSubmission i j submission (with_client old i after) new lines

-- the client's core refuses, and the word for it is told
pub record SubmitsNothing (r : Round) (before : ClientView) (old new : PartsView) (lines : List Outcome) : Type 0 where
  pub fault : SubmitFault
  pub refused : IsUnsubmitted before r fault
  pub told : IsIgnored (submit_word_of fault) old new lines

-- a client submits for a round; nothing comes of it where the client is corrupt or out of range
pub data Submits (i : ClientId) (j : ServerId) (r : Round) (old new : PartsView) (lines : List Outcome) : Type 0 where
  submits : (before : ClientView) → client_at old i ≡ Some before → SubmitsTo i j r before old new lines → Submits i j r old new lines
  refuses : (before : ClientView) → client_at old i ≡ Some before → SubmitsNothing r before old new lines → Submits i j r old new lines
  rests : client_at old i ≡ None → Rests old new lines → Submits i j r old new lines

-- the client's core gives an accusation, which is put to every server
pub record AccusesAll (i : ClientId) (r : Round) (k : ℕ) (before : ClientView) (old new : PartsView) (lines : List Outcome) : Type 0 where
  pub envelope : List ℕ
  pub after : ClientView
  pub given : Accuses before r k envelope after
  pub client : IsClient after
  pub put : PutsToServers i envelope (with_client old i after) new lines

-- the client's core refuses, and the word for it is told
pub record AccusesNobody (r : Round) (k : ℕ) (before : ClientView) (old new : PartsView) (lines : List Outcome) : Type 0 where
  pub fault : AccuseFault
  pub refused : IsUnaccused before r k fault
  pub told : IsIgnored (accuse_word_of fault) old new lines

-- a client accuses at a place of a round; nothing comes of it where the client is corrupt or out of range
pub data AccusesAt (i : ClientId) (r : Round) (k : ℕ) (old new : PartsView) (lines : List Outcome) : Type 0 where
  accuses : (before : ClientView) → client_at old i ≡ Some before → AccusesAll i r k before old new lines → AccusesAt i r k old new lines
  refuses : (before : ClientView) → client_at old i ≡ Some before → AccusesNobody r k before old new lines → AccusesAt i r k old new lines
  rests : client_at old i ≡ None → Rests old new lines → AccusesAt i r k old new lines

-- the cores with the one at a place, if there is one, as of a client that left
abbrev pub left_in : List (Option ClientView) → ℕ → Option ClientView → List (Option ClientView)
left_in clients i None = clients
left_in clients i (Some before) = slice_set clients i (Some (record before { left = true }))

-- without the messages of a member
abbrev pub without_from : Member → FlightView → FlightView
without_from m flight = record flight { msgs = filter (λ x. not (is_from m x)) flight.msgs }

-- the parts after a client left: its core did, and its messages were dropped
abbrev pub without_client : PartsView → ClientId → PartsView
without_client v i = record v {
  clients = left_in v.clients i.0 (client_at v i);
  left = slice_set v.left i.0 true;
  flight = without_from (members.Client i) v.flight;
}

-- a client leaves, and the number of its messages that are dropped is told
abbrev pub Leaves : ClientId → PartsView → PartsView → List Outcome → Type 0
Leaves i old new lines = Tells (outcomes.Dropped (count_by (is_from (members.Client i)) old.flight.msgs)) (without_client old i) new lines
