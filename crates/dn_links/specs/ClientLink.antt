-- What ties an honest client to the run, and what a call on it does.
use Rattle.std.specs.Prelude.{◌≡◌, ◌⊎◌, ℕ, List, map, drop, length, Contains, slice_get, false, Some}
use Rattle.dn_wire.specs.declared.ids.ClientId.{ClientId}
use Rattle.dn_wire.specs.declared.ids.SlotId.{SlotId}
use Rattle.dn_wire.specs.declared.ids.Round.{Round}
use Rattle.dn_wire.specs.declared.ids.SignerId.TheVariants.{Client, Slot}
use Rattle.dn_bits.specs.Bits.{below}
use Rattle.dn_record_types.specs.declared.statement.Statement.{Statement}
use Rattle.dn_record_types.specs.declared.statement.Statement.TheVariants as kinds
use Rattle.dn_record_types.specs.declared.payload.Payload.TheVariants as payloads
use Rattle.dn_seal.specs.Challenge.{AreOpened}
use Rattle.dn_seal.specs.declared.challenge.Challenge.{Challenge}
use Rattle.dn_cert.specs.Certificate.{CertificateView}
use Rattle.dn_client.specs.declared.made.Made.{Made}
use Rattle.dn_client.specs.declared.submitting.Submission.{Submission}
use Rattle.dn_client.specs.Client.{ClientView, IsClient, IsIn}
use Rattle.dn_client.specs.Submitting.{IsSubmitted}
use Rattle.dn_client.specs.Holding.{IsHeld}
use Rattle.dn_client.specs.Accusing.{Accuses}
use Rattle.dn_client.specs.Answering.{IsRebutted}
use Rattle.dn_headline.specs.Group.{IsHonestClient, servers_of, seed_of}
use Rattle.dn_headline.specs.Log.{Put}
use Rattle.dn_headline.specs.Run.{RunView, PlainMade, log}
use Rattle.dn_headline.specs.Spoken.{IsPayloadOf, WasSubmitted}
use Rattle.dn_headline.specs.Certified.{IsCertified}
use Rattle.dn_headline.specs.Plains.{texts_of}
use Rattle.dn_headline.specs.Invariant.{Facts, ClientFacts}
use Rattle.dn_headline.specs.Step.{IsNewlySigned}

-- what the invariant of runs sees of a client
abbrev pub client_facts_of : ClientView → ClientFacts
client_facts_of c = record { chain = c.chain; signed = c.signed; accused = c.signed_as_slot }

-- what a client made for a round, in the run
abbrev pub plain_of : ClientId → Made → PlainMade
plain_of i m = record { client = i; r = m.r; prev = m.prev; plain = m.plain }

-- what the client made is the run's, and was put
abbrev pub IsOfRun : RunView → ClientId → Made → Type 0
IsOfRun w i m = Contains w.plains (plain_of i m) × WasSubmitted w (Client i) (kinds.Submission m.r m.prev i m.digest) m.cipher

-- what the client made is the run's, and the payload that it gives was put
pub record IsPutOf (w : RunView) (i : ClientId) (m : Made) : Type 0 where
  pub of_run : Contains w.plains (plain_of i m)
  pub put : Put
  pub there : Contains (log w).puts put
  pub is : IsPayloadOf put.bytes (payloads.Submission m.cipher m.envelope)

-- The client is the group's, of this number, signs nothing but by the rules, and has the texts that it was given; and the run's plain texts of
-- it are those that it made, whose submissions were put.
pub record IsClientLinked (w : RunView) (i : ClientId) (c : ClientView) : Type 0 where
  pub me : c.who.me ≡ i
  pub within : IsIn w.group.roster c.who
  pub owns : slice_get w.group.owners c.who.slot.0 ≡ Some i
  pub seeds : c.who.seeds ≡ map (λ j. seed_of w.group i.0 j) (below (servers_of w.group))
  pub mask : slice_get w.group.masks i.0 ≡ Some c.who.mask
  pub straight : c.bent ≡ false
  pub queue : c.queue ≡ texts_of w i
  pub made : (m : Made) → Contains c.made m → IsOfRun w i m
  pub plains : (m : PlainMade) → Contains w.plains m → m.client ≡ i → (of : Made) × Contains c.made of × (m ≡ plain_of i of)

-- the client is given a text, leaves, refuses, or isn't called
pub record RestsSo (c d : ClientView) : Type 0 where
  pub who : d.who ≡ c.who
  pub chain : d.chain ≡ c.chain
  pub made : d.made ≡ c.made
  pub signed : d.signed ≡ c.signed
  pub signed_as_slot : d.signed_as_slot ≡ c.signed_as_slot
  pub bent : d.bent ≡ c.bent

-- A call on an honest client: it rests, or holds a certificate that was put; or it submits what it made, which is the run's and is put; or it
-- accuses; or it answers a challenge that was opened under the group's roster.
pub data ClientCall (v : RunView) (i : ClientId) (c d : ClientView) : Type 0 where
  rests : RestsSo c d → ClientCall v i c d
  holds : (certificate : CertificateView) → IsHeld c certificate d → IsCertified v certificate.body → ClientCall v i c d
  submits : (r : Round) (s : Submission) → IsSubmitted c r s d → ((m : Made) → Contains d.made m → m.r ≡ r → IsPutOf v i m) → ClientCall v i c d
  accuses : (r : Round) (k : ℕ) (envelope : List ℕ) → Accuses c r k envelope d → ClientCall v i c d
  answers : (challenge : Challenge) (envelopes : List (List ℕ)) (envelope : List ℕ) → IsRebutted c challenge envelope d
      → AreOpened v.group.roster envelopes challenge.shown.items → ClientCall v i c d

-- what a call did on an honest client, with the texts that it was given; and each new plain text of it in the run is one that it made
pub record ClientMoves (w v : RunView) (i : ClientId) (c d : ClientView) : Type 0 where
  pub call : ClientCall v i c d
  pub queue : d.queue ≡ texts_of v i
  pub plains : (m : PlainMade) → Contains v.plains m → m.client ≡ i → Contains w.plains m ⊎ ((of : Made) × Contains d.made of × (m ≡ plain_of i of))

-- What a call did at the clients: each honest client before and after it; and what is put now with a client's or its slot's statement in front,
-- this client signed.
pub record ClientsCalled (w v : RunView) (f g : Facts) : Type 0 where
  pub before : ClientId → ClientView
  pub after : ClientId → ClientView
  pub facts_before : (i : ClientId) → IsHonestClient v.group i → f.client i ≡ client_facts_of (before i)
  pub facts_after : (i : ClientId) → IsHonestClient v.group i → g.client i ≡ client_facts_of (after i)
  pub linked : (i : ClientId) → IsHonestClient v.group i → IsClientLinked w i (before i)
  pub moves : (i : ClientId) → IsHonestClient v.group i → ClientMoves w v i (before i) (after i)
  pub clients : (i : ClientId) → IsHonestClient v.group i → IsClient (after i)
  pub put : (i : ClientId) (s : Statement) → IsHonestClient v.group i → IsNewlySigned w v (Client i) s → Contains (after i).signed s
  pub put_accused : (i : ClientId) (slot : SlotId) (s : Statement) → IsHonestClient v.group i → slice_get v.group.owners slot.0 ≡ Some i
      → IsNewlySigned w v (Slot slot) s → Contains (after i).signed_as_slot s

-- what each client signed in the call
abbrev pub fresh_of : (ClientId → ClientView) → (ClientId → ClientView) → ClientId → List Statement
fresh_of before after i = drop (length (before i).signed) (after i).signed
