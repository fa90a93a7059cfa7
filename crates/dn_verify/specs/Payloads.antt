-- What the payloads of a report carry under the roster of its header.
use Rattle.std.specs.Prelude.{◌≡◌, ◌⊎◌, ℕ, List, [], ◌∷◌, Option, Some, None, map, slice_get}
use Rattle.std.specs.List.{AllZip}
use Rattle.dn_wire.specs.declared.ids.ClientId.{ClientId}
use Rattle.dn_wire.specs.declared.ids.ServerId.{ServerId}
use Rattle.dn_wire.specs.declared.ids.SlotId.{SlotId}
use Rattle.dn_wire.specs.declared.ids.Round.{Round}
use Rattle.dn_wire.specs.declared.ids.Member.{Member}
use Rattle.dn_wire.specs.declared.ids.Member.TheVariants as members
use Rattle.dn_wire.specs.declared.ids.SignerId.{SignerId}
use Rattle.dn_wire.specs.declared.ids.SignerId.TheVariants as signers
use Rattle.dn_records.specs.Records.{payload_bytes, IsPayload}
use Rattle.dn_record_types.specs.declared.body.Body.{Body}
use Rattle.dn_record_types.specs.declared.payload.Payload.{Payload}
use Rattle.dn_record_types.specs.declared.statement.Statement.{Statement}
use Rattle.dn_record_types.specs.declared.statement.Statement.TheVariants as kinds
use Rattle.dn_record_types.specs.declared.statement.WordTold.{WordTold}
use Rattle.dn_report.specs.declared.words.UnopenedWord.{UnopenedWord}
use Rattle.dn_report.specs.declared.words.UnopenedWord.TheVariants as words
use Rattle.dn_roster.specs.Roster.{RosterView}
use Rattle.dn_seal.specs.Said.{SaidView}
use Rattle.dn_cert.specs.Certificate.{CertificateView}
use Rattle.dn_cert.specs.Evidence.{IsAccusation}
use Rattle.dn_cert.specs.Opening.{IsOpened, IsUnopenedPayload}
use Rattle.dn_cert.specs.declared.opened.Opened.{Opened}
use Rattle.dn_cert.specs.declared.opened.Opened.TheVariants as opened
use Rattle.dn_cert.specs.declared.payload_fault.PayloadFault.{PayloadFault}
use Rattle.dn_cert.specs.declared.payload_fault.PayloadFault.TheVariants as faults
use Rattle.dn_verify.specs.declared.content.Content.{Content}
use Rattle.dn_verify.specs.declared.content.Content.TheVariants.{Open, Closed}

-- What a payload carries: what was said in the envelope in front, the body of a certificate, or the word for why it doesn't open.
pub data Carried : Type 0 where
  a_submission : SaidView → Carried
  a_statement : SaidView → Carried
  a_certificate : Body → Carried
  a_challenge : Carried
  unopened : UnopenedWord → Carried

-- What the lines of a report are judged against: the roster of its header, the corrupt members, and its payloads by number, with what each
-- carries.
pub record Report : Type 0 where
  pub roster : RosterView
  pub corrupt : List Member
  pub payloads : List (List ℕ)
  pub carried : List Carried

-- the bytes are a payload that opens whole, to this
abbrev pub Opens : RosterView → List ℕ → Opened → Type 0
Opens roster bytes x = (p : Payload) × IsPayload p × (bytes ≡ payload_bytes p) × IsOpened roster p x

-- the word of a line that tells why a payload doesn't open
abbrev pub unopened_word : PayloadFault → Option UnopenedWord
unopened_word faults.Form = Some words.Form
unopened_word faults.Stranger = Some words.Stranger
unopened_word faults.Signature = Some words.Signature
unopened_word faults.NoMemory = None

-- the bytes don't open, and the word tells why
pub record StaysClosed (roster : RosterView) (bytes : List ℕ) (word : UnopenedWord) : Type 0 where
  pub fault : PayloadFault
  pub told : unopened_word fault ≡ Some word
  pub why : IsUnopenedPayload roster bytes fault
  pub closed : (x : Opened) → Opens roster bytes x → ⊥

-- payload number `payload` opens to this
abbrev pub Carries : Report → ℕ → Opened → Type 0
Carries report payload x = (bytes : List ℕ) × (slice_get report.payloads payload ≡ Some bytes) × Opens report.roster bytes x

-- it is a submission of this client for this round, of the ciphertext with this digest
abbrev pub IsSubmissionOf : ClientId → Round → List ℕ → Opened → Type 0
IsSubmissionOf client r digest (opened.Submission cipher said) = (prev : Round) × (said.statement ≡ kinds.Submission r prev client digest)
IsSubmissionOf client r digest (opened.Plain said) = ⊥
IsSubmissionOf client r digest (opened.Certificate c) = ⊥
IsSubmissionOf client r digest (opened.Challenge c) = ⊥

-- it is this server's receipt of a submission, with this word
abbrev pub IsReceiptOf : ServerId → ClientId → Round → List ℕ → WordTold → Opened → Type 0
IsReceiptOf server client r digest word (opened.Submission cipher said) = ⊥
IsReceiptOf server client r digest word (opened.Plain said) = (said.signer ≡ signers.Server server) × (said.statement ≡ kinds.Receipt r client digest word)
IsReceiptOf server client r digest word (opened.Certificate c) = ⊥
IsReceiptOf server client r digest word (opened.Challenge c) = ⊥

-- it is a certificate of this round
abbrev pub IsCertificateFor : Round → Opened → Type 0
IsCertificateFor r (opened.Submission cipher said) = ⊥
IsCertificateFor r (opened.Plain said) = ⊥
IsCertificateFor r (opened.Certificate c) = c.body.r ≡ r
IsCertificateFor r (opened.Challenge c) = ⊥

abbrev pub signer_of : Member → SignerId
signer_of (members.Client i) = signers.Client i
signer_of (members.Server j) = signers.Server j

-- this member said it, or it is an accusation of a slot's owner
abbrev pub IsOwnWord : Member → SaidView → Type 0
IsOwnWord by said = (said.signer ≡ signer_of by) ⊎ (IsAccusation said.statement × ((s : SlotId) × (said.signer ≡ signers.Slot s)))

-- what a member may put as its own; certificates and challenges have no outer signer
abbrev pub IsOwn : Member → Opened → Type 0
IsOwn by (opened.Submission cipher said) = IsOwnWord by said
IsOwn by (opened.Plain said) = IsOwnWord by said
IsOwn by (opened.Certificate c) = Unit {0}
IsOwn by (opened.Challenge c) = Unit {0}

-- payload number `payload` opens to what is so
abbrev pub CarriesSome : Report → ℕ → (Opened → Type 0) → Type 0
CarriesSome report payload Q = (x : Opened) × Carries report payload x × Q x

-- ---- payloads that were opened

-- the bytes were opened to this
abbrev pub IsContent : RosterView → List ℕ → Content → Type 0
IsContent roster bytes (Open x) = Opens roster bytes x
IsContent roster bytes (Closed word) = StaysClosed roster bytes word

-- what is carried by a payload that was opened to this
abbrev pub carried_in : Content → Carried
carried_in (Open (opened.Submission cipher said)) = a_submission said
carried_in (Open (opened.Plain said)) = a_statement said
carried_in (Open (opened.Certificate c)) = a_certificate c.body
carried_in (Open (opened.Challenge c)) = a_challenge
carried_in (Closed word) = unopened word

-- the bytes are a payload that carries this
abbrev pub IsCarried : RosterView → List ℕ → Carried → Type 0
IsCarried roster bytes carried = (content : Content) × IsContent roster bytes content × (carried ≡ carried_in content)

-- what each payload of a report was opened to
pub record AreContents (report : Report) (contents : List Content) : Type 0 where
  pub opened : AllZip (IsContent report.roster) report.payloads contents
  pub carried : report.carried ≡ map carried_in contents

-- ---- what a payload carries

abbrev pub carried_at : Report → ℕ → Option Carried
carried_at report payload = slice_get report.carried payload

-- the body of a certificate
abbrev pub body_in : Option Carried → Option Body
body_in (Some (a_certificate b)) = Some b
body_in (Some (a_submission said)) = None
body_in (Some (a_statement said)) = None
body_in (Some a_challenge) = None
body_in (Some (unopened word)) = None
body_in None = None

-- what was said, where a server said it
abbrev pub by_server : SignerId → SaidView → List SaidView
by_server (signers.Client i) said = []
by_server (signers.Server j) said = said ∷ []
by_server (signers.Slot s) said = []

-- and where a client or a slot said it
abbrev pub by_other : SignerId → SaidView → List SaidView
by_other (signers.Client i) said = said ∷ []
by_other (signers.Server j) said = []
by_other (signers.Slot s) said = said ∷ []

-- what is heard of a payload that is put: the word of a server
abbrev pub heard_put : Option Carried → List SaidView
heard_put (Some (a_submission said)) = by_server said.signer said
heard_put (Some (a_statement said)) = by_server said.signer said
heard_put (Some (a_certificate b)) = []
heard_put (Some a_challenge) = []
heard_put (Some (unopened word)) = []
heard_put None = []

-- what is heard of a payload that reaches a server: the word of a client or of a slot
abbrev pub heard_delivered : Option Carried → List SaidView
heard_delivered (Some (a_submission said)) = by_other said.signer said
heard_delivered (Some (a_statement said)) = by_other said.signer said
heard_delivered (Some (a_certificate b)) = []
heard_delivered (Some a_challenge) = []
heard_delivered (Some (unopened word)) = []
heard_delivered None = []
