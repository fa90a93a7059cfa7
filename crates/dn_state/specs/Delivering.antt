-- What comes of a message that arrives.
use Rattle.std.specs.Prelude.{◌≡◌, ◌≢◌, ◌⊎◌, ◌++◌, ◌∷◌, [], ℕ, Bool, true, false, ◌==◌, nat_lt, List, Option, Some, None, option_map, slice_get, if◌then◌else◌}
use Rattle.std.specs.Option.{option_and_then}
use Rattle.std.specs.Ordering.{nat_cmp}
use Rattle.std.specs.BTreeSet.{insert_key}
use Rattle.std.specs.Global.{Vec}
use Rattle.dn_wire.specs.declared.ids.ClientId.{ClientId}
use Rattle.dn_wire.specs.declared.ids.ServerId.{ServerId}
use Rattle.dn_wire.specs.declared.ids.SignerId.{SignerId}
use Rattle.dn_wire.specs.declared.ids.SignerId.TheVariants as signers
use Rattle.dn_wire.specs.declared.ids.Round.{Round}
use Rattle.dn_wire.specs.declared.ids.Member.{Member}
use Rattle.dn_wire.specs.declared.ids.Member.TheVariants as members
use Rattle.dn_record_types.specs.declared.body.Body.{Body}
use Rattle.dn_record_types.specs.declared.statement.Statement.{Statement}
use Rattle.dn_record_types.specs.declared.statement.Statement.TheVariants as kinds
use Rattle.dn_seal.specs.Said.{SaidView}
use Rattle.dn_seal.specs.declared.challenge.Challenge.{Challenge}
use Rattle.dn_cert.specs.Certificate.{CertificateView}
use Rattle.dn_cert.specs.declared.opened.Opened.{Opened}
use Rattle.dn_cert.specs.declared.opened.Opened.TheVariants as opened
use Rattle.dn_client.specs.declared.holding.HoldFault.{HoldFault}
use Rattle.dn_client.specs.declared.holding.HoldFault.TheVariants as hold_faults
use Rattle.dn_client.specs.declared.answering.AnswerFault.{AnswerFault}
use Rattle.dn_client.specs.declared.answering.AnswerFault.TheVariants as answer_faults
use Rattle.dn_client.specs.Client.{ClientView, IsClient}
use Rattle.dn_client.specs.Holding.{IsHeld, IsNotHeld}
use Rattle.dn_client.specs.Answering.{IsRebutted, IsUnanswered}
use Rattle.dn_server.specs.declared.answer.Answer.{Answer}
use Rattle.dn_server.specs.declared.answer.Answer.TheVariants as answers
use Rattle.dn_server.specs.declared.answer.Reason.TheVariants as reasons
use Rattle.dn_server.specs.Server.{ServerView}
use Rattle.dn_exchange.specs.Submitting.{TakesSubmission}
use Rattle.dn_exchange.specs.Ending.{HoldsOn}
use Rattle.dn_exchange.specs.Listening.{Hears}
use Rattle.dn_payloads.specs.Payloads.{PayloadsView}
use Rattle.dn_payloads.specs.declared.content.Content.{Content}
use Rattle.dn_payloads.specs.declared.content.Content.TheVariants as contents
use Rattle.dn_flight.specs.declared.msg.Msg.{Msg}
use Rattle.dn_flight.specs.Flight.{FlightView, with_id, without_id}
use Rattle.dn_audit.specs.Group.{is_corrupt}
use Rattle.dn_audit.specs.Auditor.{AuditorView}
use Rattle.dn_report.specs.declared.outcome.Outcome.{Outcome}
use Rattle.dn_report.specs.declared.outcome.Outcome.TheVariants as outcomes
use Rattle.dn_report.specs.declared.words.IgnoredWord.TheVariants as ignored
use Rattle.dn_report.specs.declared.words.UnopenedWord.{UnopenedWord}
use Rattle.dn_state.specs.declared.delivering.Reached.{Reached}
use Rattle.dn_state.specs.declared.delivering.Reached.TheVariants as came
use Rattle.dn_state.specs.Parts.{PartsView, has}
use Rattle.dn_state.specs.Words.{unopened_word_of, hold_word_of, answer_word_of}
use Rattle.dn_state.specs.Putting.{front_of}
use Rattle.dn_state.specs.Telling.{TellsRound}
use Rattle.dn_state.specs.Doing.{Becomes, Rests, Tells, Then}
use Rattle.dn_state.specs.Members.{client_at, server_at, with_client, with_server}
use Rattle.dn_state.specs.Acting.{ComesOf}
use Rattle.dn_state.specs.Calling.{KeepsRules, AreDue, NotesSum, IsIgnored, PutsToServers}

-- ---- payloads

-- what payload p opens to or why it doesn't open, if it is there
abbrev pub content_of : PayloadsView → ℕ → Option Content
content_of payloads p = option_map (λ x. x.content) (slice_get payloads.items p)

-- what a payload carries, if it opens
abbrev pub opened_in : Option Content → Option Opened
opened_in (Some (contents.Opened x)) = Some x
opened_in (Some contents.Form) = None
opened_in (Some contents.Stranger) = None
opened_in (Some contents.Signature) = None
opened_in None = None

-- what payload p carries, if it is there and opens
abbrev pub opened_of : PayloadsView → ℕ → Option Opened
opened_of payloads p = opened_in (content_of payloads p)

abbrev pub opened_at : PartsView → ℕ → Option Opened
opened_at v p = opened_of v.payloads p

-- what is said in a plain payload
abbrev pub plain_in : Option Opened → Option SaidView
plain_in (Some (opened.Submission cipher said)) = None
plain_in (Some (opened.Plain said)) = Some said
plain_in (Some (opened.Certificate c)) = None
plain_in (Some (opened.Challenge c)) = None
plain_in None = None

abbrev pub said_at : PartsView → ℕ → Option SaidView
said_at v p = plain_in (opened_at v p)

-- the body of a certificate
abbrev pub body_of : Opened → Option Body
body_of (opened.Submission cipher said) = None
body_of (opened.Plain said) = None
body_of (opened.Certificate c) = Some c.body
body_of (opened.Challenge c) = None

-- and of what there may be
abbrev pub body_in : Option Opened → Option Body
body_in (Some x) = body_of x
body_in None = None

-- what was said, where a client or a slot said it
abbrev pub by_client : SignerId → SaidView → List SaidView
by_client (signers.Client i) said = said ∷ []
by_client (signers.Server j) said = []
by_client (signers.Slot k) said = said ∷ []

abbrev pub heard_in : Option SaidView → List SaidView
heard_in (Some said) = by_client said.signer said
heard_in None = []

-- what a client or a slot said in front of a payload
abbrev pub client_said : Content → List SaidView
client_said content = heard_in (front_of content)

-- and of one that there may be
abbrev pub client_said_in : Option Content → List SaidView
client_said_in (Some content) = client_said content
client_said_in None = []

-- the parts after a payload reached a server for the first time: what a client or a slot said in front of it is heard
abbrev pub with_heard : PartsView → ℕ → PartsView
with_heard v p = record v { heard = v.heard ++ client_said_in (content_of v.payloads p); delivered = insert_key nat_cmp v.delivered p }

abbrev pub IsHeardIf : Bool → ℕ → PartsView → PartsView → Type 0
IsHeardIf true p old new = new ≡ old
IsHeardIf false p old new = new ≡ with_heard old p

-- a payload reaches a server; nothing more comes of one that had reached a server before
abbrev pub IsHeard : ℕ → PartsView → PartsView → Type 0
IsHeard p old new = IsHeardIf (has old.delivered p) p old new

-- a message is taken out of flight
abbrev pub without_msg : FlightView → ℕ → FlightView
without_msg flight id = record flight { msgs = without_id id flight.msgs }

abbrev pub without_message : PartsView → ℕ → PartsView
without_message v id = record v { flight = without_msg v.flight id }

-- ---- servers

-- what a core answers to what reaches it
abbrev pub IsAnswerOn : Opened → ServerView → Answer → ServerView → Type 0
IsAnswerOn (opened.Submission cipher said) before answer after = TakesSubmission before said cipher answer after
IsAnswerOn (opened.Plain said) before answer after = Hears before said answer after × AreDue after answer
IsAnswerOn (opened.Certificate c) before answer after = HoldsOn before c answer after
IsAnswerOn (opened.Challenge c) before answer after = (answer ≡ answers.Ignored reasons.Kind) × (after ≡ before)

-- what a core is that answers by the rules; a challenge leaves it as it is
abbrev pub IsRuled : Opened → ServerView → ServerView → Type 0
IsRuled (opened.Submission cipher said) before after = KeepsRules before after
IsRuled (opened.Plain said) before after = KeepsRules before after
IsRuled (opened.Certificate c) before after = KeepsRules before after
IsRuled (opened.Challenge c) before after = after ≡ before

-- the line tells that a certificate is held
abbrev pub is_held : Outcome → Bool
is_held (outcomes.Held member r) = true
is_held _ = false

-- the first of the lines does
abbrev pub tells_held : List Outcome → Bool
tells_held [] = false
tells_held (line ∷ lines) = is_held line

-- what a round with this body came to is told, if there is one
abbrev pub TellsBody : Option Body → PartsView → PartsView → List Outcome → Type 0
TellsBody (Some body) old new lines = TellsRound old body new lines
TellsBody None old new lines = Rests old new lines

abbrev pub TellsBodyIf : Bool → Option Body → PartsView → PartsView → List Outcome → Type 0
TellsBodyIf true body old new lines = TellsBody body old new lines
TellsBodyIf false body old new lines = Rests old new lines

-- an answer is carried out; and where by it a certificate with this body is held, what its round came to is told
pub record CarriesOut (j : ServerId) (last : Round) (answer : Answer) (body : Option Body) (old new : PartsView) (lines : List Outcome) : Type 0 where
  pub between : PartsView
  pub lines_first : List Outcome
  pub lines_rest : List Outcome
  pub does : ComesOf j last answer old between lines_first
  pub tells : TellsBodyIf (tells_held lines_first) body between new lines_rest
  pub told : lines ≡ lines_first ++ lines_rest

-- what comes of an answer to a message that was taken up: it is kept where nothing is done
pub data ComesOfMessage (j : ServerId) (last : Round) (answer : Answer) (body : Option Body) (old new : PartsView) (lines : List Outcome) : Type 0 where
  keeps : answer ≡ answers.Acts [] → Tells outcomes.Kept old new lines → ComesOfMessage j last answer body old new lines
  does : answer ≢ answers.Acts [] → CarriesOut j last answer body old new lines → ComesOfMessage j last answer body old new lines

-- a message is taken, and heard; and its answer is carried out
pub record IsTakenUp (m : Msg) (j : ServerId) (last : Round) (answer : Answer) (body : Option Body) (old new : PartsView) (lines : List Outcome) : Type 0 where
  pub heard : PartsView
  pub hears : IsHeard m.payload (without_message old m.id) heard
  pub comes : ComesOfMessage j last answer body heard new lines

-- what comes of an answer to a message: it stays in flight where it is early, and is taken up where not
pub data ComesOfReply (m : Msg) (j : ServerId) (last : Round) (answer : Answer) (body : Option Body) (old new : PartsView) (lines : List Outcome) : Type 0 where
  stays : answer ≡ answers.Early → Tells outcomes.Early old new lines → ComesOfReply m j last answer body old new lines
  takes : answer ≢ answers.Early → IsTakenUp m j last answer body old new lines → ComesOfReply m j last answer body old new lines

-- the auditor is told the ciphertext of a server's record, but for an answer that the message is early
abbrev pub NotesReply : Answer → ServerId → ServerView → AuditorView → AuditorView → Type 0
NotesReply (answers.Acts did) j core old new = NotesSum j core.run.r core.run.sum old new
NotesReply (answers.Ignored reason) j core old new = NotesSum j core.run.r core.run.sum old new
NotesReply answers.Early j core old new = new ≡ old

-- a server's core answers to what reaches it; it opened round `last` last
pub record Replies (j : ServerId) (x : Opened) (before : ServerView) (answer : Answer) (last : Round) (old new : PartsView) : Type 0 where
  pub after : ServerView
  pub answered : IsAnswerOn x before answer after
  pub rules : IsRuled x before after
  pub opened_last : last ≡ after.run.r
  pub auditor : AuditorView
  pub noted : NotesReply answer j after old.auditor auditor
  pub kept : new ≡ record (with_server old j after) { auditor = auditor }

-- a server's core answers to a message, and its answer is carried out
pub record ReachesCore (m : Msg) (j : ServerId) (x : Opened) (before : ServerView) (old new : PartsView) (lines : List Outcome) : Type 0 where
  pub answer : Answer
  pub last : Round
  pub replied : PartsView
  pub replies : Replies j x before answer last old replied
  pub comes : ComesOfReply m j last answer (body_of x) replied new lines

-- A message reaches a server. It is taken out of flight, and nothing else comes of it, where there is no such core, or the payload isn't there or
-- doesn't open.
pub data ReachesServer (m : Msg) (j : ServerId) (old new : PartsView) (lines : List Outcome) : Type 0 where
  reaches : (x : Opened) (before : ServerView) → opened_at old m.payload ≡ Some x → server_at old j ≡ Some before → ReachesCore m j x before old new lines
      → ReachesServer m j old new lines
  passes : (opened_at old m.payload ≡ None) ⊎ (server_at old j ≡ None) → Becomes (without_message old m.id) new lines → ReachesServer m j old new lines

-- ---- clients

-- the statement is a receipt for the client
abbrev pub is_receipt_for : ClientId → Statement → Bool
is_receipt_for i (kinds.Receipt r client digest told) = client.0 == i.0
is_receipt_for i _ = false

-- it holds a certificate
pub record Holds (c : CertificateView) (before : ClientView) (reached : Reached) (after : ClientView) : Type 0 where
  pub is : reached ≡ came.Held c.body.r
  pub held : IsHeld before c after
  pub client : IsClient after

-- it doesn't, and the word is that of the reason
pub record HoldsNot (c : CertificateView) (before : ClientView) (reached : Reached) (after : ClientView) : Type 0 where
  pub fault : HoldFault
  pub is : reached ≡ came.Ignored (hold_word_of fault)
  pub refused : IsNotHeld before c.body fault
  pub same : fault ≢ hold_faults.NoMemory → after ≡ before

-- it answers a challenge
pub record Rebuts (c : Challenge) (before : ClientView) (reached : Reached) (after : ClientView) : Type 0 where
  pub envelope : Vec ℕ
  pub is : reached ≡ came.Rebutted envelope
  pub rebutted : IsRebutted before c envelope.items after
  pub client : IsClient after

-- it doesn't, and the word is that of the reason
pub record RebutsNot (c : Challenge) (before : ClientView) (reached : Reached) (after : ClientView) : Type 0 where
  pub fault : AnswerFault
  pub is : reached ≡ came.Ignored (answer_word_of fault)
  pub refused : IsUnanswered before c fault
  pub same : fault ≢ answer_faults.NoMemory → after ≡ before

-- what a client's core makes of what reaches it
abbrev pub IsReached : ClientId → Opened → ClientView → Reached → ClientView → Type 0
IsReached i (opened.Submission cipher said) before reached after = (reached ≡ came.Ignored (Some ignored.Kind)) × (after ≡ before)
IsReached i (opened.Plain said) before reached after =
    (reached ≡ (if is_receipt_for i said.statement then came.Noted else came.Ignored (Some ignored.Kind))) × (after ≡ before)
IsReached i (opened.Certificate c) before reached after = Holds c before reached after ⊎ HoldsNot c before reached after
IsReached i (opened.Challenge c) before reached after = Rebuts c before reached after ⊎ RebutsNot c before reached after

-- what is told of it, and put: a rebuttal to every server; and of a certificate that is held what its round came to
abbrev pub ComesOfReached : ClientId → Option Body → Reached → PartsView → PartsView → List Outcome → Type 0
ComesOfReached i body came.Noted old new lines = Tells outcomes.Noted old new lines
ComesOfReached i body (came.Held r) old new lines = Then (Tells (outcomes.Held (members.Client i) r)) (TellsBody body) old new lines
ComesOfReached i body (came.Rebutted envelope) old new lines = PutsToServers i envelope.items old new lines
ComesOfReached i body (came.Ignored word) old new lines = IsIgnored word old new lines

-- a client's core is reached by a message, and what comes of that
pub record ReachesClientCore (i : ClientId) (x : Opened) (before : ClientView) (old new : PartsView) (lines : List Outcome) : Type 0 where
  pub reached : Reached
  pub after : ClientView
  pub is : IsReached i x before reached after
  pub comes : ComesOfReached i (body_of x) reached (with_client old i after) new lines

-- A message, which was taken, reaches a client: that is told where it has left. Nothing comes of it where there is no such core, or the
-- payload isn't there or doesn't open.
pub data ReachesClient (i : ClientId) (p : ℕ) (old new : PartsView) (lines : List Outcome) : Type 0 where
  is_left : slice_get old.left i.0 ≡ Some true → Tells (outcomes.Ignored ignored.Left) old new lines → ReachesClient i p old new lines
  reaches : (x : Opened) (before : ClientView) → slice_get old.left i.0 ≢ Some true → opened_at old p ≡ Some x → client_at old i ≡ Some before
      → ReachesClientCore i x before old new lines → ReachesClient i p old new lines
  passes : slice_get old.left i.0 ≢ Some true → (opened_at old p ≡ None) ⊎ (client_at old i ≡ None) → Rests old new lines → ReachesClient i p old new lines

-- ---- messages

-- a message reaches a corrupt member; what it carries to a server is heard
abbrev pub IsTaken : ℕ → Member → PartsView → PartsView → Type 0
IsTaken p (members.Client i) old new = new ≡ old
IsTaken p (members.Server j) old new = IsHeard p old new

-- a message reaches an honest member: a client takes it out of flight
abbrev pub Reaches : Msg → Member → PartsView → PartsView → List Outcome → Type 0
Reaches m (members.Client i) old new lines = ReachesClient i m.payload (without_message old m.id) new lines
Reaches m (members.Server j) old new lines = ReachesServer m j old new lines

-- why payload p doesn't open; nothing where it opens, or there is none
abbrev pub unopened_at : PartsView → ℕ → Option UnopenedWord
unopened_at v p = option_and_then unopened_word_of (content_of v.payloads p)

-- The message in flight with this number arrives: there is none; or it is for a corrupt member, and taken; or what it carries doesn't open, and
-- it is taken out of flight with the word for why; or it reaches the member that it is for.
pub data Delivers (id : ℕ) (old new : PartsView) (lines : List Outcome) : Type 0 where
  finds_none : with_id id old.flight.msgs ≡ None → Tells (outcomes.Ignored ignored.None) old new lines → Delivers id old new lines
  is_taken : (m : Msg) (taken : PartsView) → with_id id old.flight.msgs ≡ Some m → is_corrupt old.group m.to ≡ true
      → IsTaken m.payload m.to (without_message old id) taken → Tells outcomes.Taken taken new lines → Delivers id old new lines
  is_unopened : (m : Msg) (word : UnopenedWord) → with_id id old.flight.msgs ≡ Some m → is_corrupt old.group m.to ≡ false
      → unopened_at old m.payload ≡ Some word → Tells (outcomes.Unopened word) (without_message old id) new lines → Delivers id old new lines
  reaches : (m : Msg) → with_id id old.flight.msgs ≡ Some m → is_corrupt old.group m.to ≡ false → unopened_at old m.payload ≡ None
      → Reaches m m.to old new lines → Delivers id old new lines

-- ---- messages that would be early

-- what was said is of a round above this one, so that it can't be heard yet
abbrev pub is_above : Round → Round → Bool
is_above last r = nat_lt last.0 r.0

-- a statement that servers make to each other in a round
abbrev pub is_phase_ahead : Round → Statement → Bool
is_phase_ahead last (kinds.Inventory v) = is_above last v.r
is_phase_ahead last (kinds.Commit r digest) = is_above last r
is_phase_ahead last (kinds.Reveal r s) = is_above last r
is_phase_ahead last (kinds.Sign b) = is_above last b.r
is_phase_ahead last _ = false

-- and only servers do
abbrev pub is_phase_ahead_of : SignerId → Round → Statement → Bool
is_phase_ahead_of (signers.Client i) last s = false
is_phase_ahead_of (signers.Server j) last s = is_phase_ahead last s
is_phase_ahead_of (signers.Slot k) last s = false

abbrev pub is_submission_ahead : Round → Statement → Bool
is_submission_ahead last (kinds.Submission r prev i digest) = is_above last r
is_submission_ahead last _ = false

abbrev pub is_ahead : Opened → Round → Bool
is_ahead (opened.Submission cipher said) last = is_submission_ahead last said.statement
is_ahead (opened.Plain said) last = is_phase_ahead_of said.signer last said.statement
is_ahead _ last = false

abbrev pub is_ahead_at : Option Opened → Option ServerView → Bool
is_ahead_at (Some x) (Some core) = is_ahead x core.run.r
is_ahead_at _ _ = false

abbrev pub is_early_to : PartsView → ℕ → Member → Bool
is_early_to v p (members.Client i) = false
is_early_to v p (members.Server j) = is_ahead_at (opened_at v p) (server_at v j)

-- whether the delivery of a message that there may be would now be early
abbrev pub is_early_now : PartsView → Option Msg → Bool
is_early_now v None = false
is_early_now v (Some m) = is_early_to v m.payload m.to
