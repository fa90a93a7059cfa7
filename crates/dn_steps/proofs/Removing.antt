-- What the log becomes where messages leave the flight: delivered, lost or dropped.
use Rattle.std.proofs.Common.{◌≡◌, ℕ, ◌<◌, List, [], ◌∷◌, ◌++◌, map, length, refl, sym, ap, subst, ◌∙◌, inl, inr, Bool, true, false, not}
use Rattle.std.specs.Prelude.{Contains, ◌==◌, filter, slice_get, Some, None, Option, option_map}
use Rattle.std.specs.List.{list_any}
use Rattle.std.proofs.lemmas.Bool.{cases_Bool, eqb-true}
use Rattle.std.proofs.lemmas.Option.{same_Some, slice_get-map}
use Rattle.std.proofs.lemmas.List.Elements.{Contains-append_left, Contains-append_cases}
use Rattle.dn_wire.specs.declared.ids.Member.{Member}
use Rattle.dn_wire.specs.declared.ids.Member.TheVariants as members
use Rattle.dn_wire.specs.declared.ids.ClientId.{ClientId}
use Rattle.dn_wire.specs.declared.ids.ServerId.{ServerId}
use Rattle.dn_wire.specs.declared.ids.SignerId.{SignerId}
use Rattle.dn_wire.specs.declared.ids.SignerId.TheVariants.{Client, Server, Slot}
use Rattle.dn_bits.proofs.TotalLemmas.{kept}
use Rattle.dn_record_types.specs.declared.payload.Payload.{Payload}
use Rattle.dn_record_types.specs.declared.payload.Payload.TheVariants as payloads
use Rattle.dn_record_types.specs.declared.statement.Statement.{Statement}
use Rattle.dn_record_types.specs.declared.statement.Statement.TheVariants as kinds
use Rattle.dn_records.specs.Records.{payload_bytes, IsPayload}
use Rattle.dn_roster.specs.Roster.{RosterView}
use Rattle.dn_seal.specs.Said.{SaidView, IsSaid, IsUnder}
use Rattle.dn_cert.specs.Opening.{IsOpened, IsSubmission as IsSubmissionOpened}
use Rattle.dn_cert.specs.declared.opened.Opened.{Opened}
use Rattle.dn_cert.specs.declared.opened.Opened.TheVariants as opened
use Rattle.dn_cert.proofs.Orders.{here, later, nothing}
use Rattle.dn_payloads.specs.declared.content.Content.{Content}
use Rattle.dn_payloads.specs.declared.content.Content.TheVariants as contents
use Rattle.dn_payloads.specs.Payloads.{PayloadView, PayloadsView, IsContent}
use Rattle.dn_flight.specs.declared.msg.Msg.{Msg}
use Rattle.dn_flight.specs.Flight.{FlightView, with_id, without_id, is_from, is_member as is_one}
use Rattle.dn_state.specs.Parts.{PartsView, has}
use Rattle.dn_state.specs.Calling.{without_from}
use Rattle.dn_state.specs.Putting.{front_of}
use Rattle.dn_state.specs.Delivering.{content_of, heard_in, by_client, client_said_in, IsHeard, IsHeardIf, without_message}
use Rattle.dn_headline.specs.Group.{GroupView, is_member}
use Rattle.dn_headline.specs.Log.{Log, Message, Put, message_of, without}
use Rattle.dn_headline.specs.Spoken.{IsPayloadOf, IsSubmission}
use Rattle.dn_links.specs.Judging.{HasInFront}
use Rattle.dn_steps.specs.Fitting.{FitsLog, FitsPayloads, FitsFlight, FitsMessage, WasHeard, CameFrom, HasArrived}
use Rattle.dn_steps.proofs.Places.{only, map-filter, same_kept, none_taken}
use Rattle.dn_steps.proofs.Putting.{heard_still}

-- ---- the messages that stay

-- a log in which the same was sent and put
module _ (log new : Log) (sent : new.sent ≡ log.sent) (payloads : new.payloads ≡ log.payloads) where
  message_same : (id : ℕ) → message_of new id ≡ message_of log id
  message_same id = ap (λ (ms : List Message). message_of (record log { sent = ms }) id) sent

  pub message_fits_too : (m : Msg) → FitsMessage log m → FitsMessage new m
  message_fits_too m fits = record {
    sent = subst (λ (ms : List Message). m.id < length ms) (sym sent) fits.sent;
    from = ap (λ (y : Message). y.from) (message_same m.id) ∙ fits.from;
    to = ap (λ (y : Message). y.to) (message_same m.id) ∙ fits.to;
    payload = ap (λ (ps : List (List ℕ)). slice_get ps m.payload) payloads ∙ fits.payload ∙ ap (λ (y : Message). Some y.bytes) (sym (message_same m.id));
  }

  -- a flight of which some messages stay, that are the log's
  pub flight_fits_too : (old : FlightView) (msgs : List Msg) → FitsFlight log old → ((m : Msg) → Contains msgs m → Contains old.msgs m)
      → new.flight ≡ map (λ (m : Msg). m.id) msgs → FitsFlight new (record old { msgs = msgs })
  flight_fits_too old msgs fits within numbers = record {
    next = fits.next ∙ ap (λ (ms : List Message). length ms) (sym sent);
    numbers = numbers;
    messages = λ m h. message_fits_too m (fits.messages m (within m h));
  }

payloads_fit_too : (roster : RosterView) (log new : Log) (payloads : PayloadsView) → new.payloads ≡ log.payloads → new.puts ≡ log.puts
    → FitsPayloads roster log payloads → FitsPayloads roster new payloads
payloads_fit_too roster log new payloads same puts fits = record {
  numbers = same ∙ fits.numbers;
  put = λ x h. let p = fits.put x h in (p.0, subst (λ (ps : List Put). Contains ps p.0) (sym puts) p.1, p.2);
  content = fits.content;
}

-- ---- a message is delivered, or lost

abbrev pub with_delivered : Log → ℕ → Log
with_delivered log id = record log { flight = without log.flight id; delivered = log.delivered ++ message_of log id ∷ [] }

abbrev pub with_loss : Log → ℕ → Log
with_loss log id = record log { flight = without log.flight id; lost = log.lost ++ message_of log id ∷ [] }

without_is : (log : Log) (flight : FlightView) (id : ℕ) → FitsFlight log flight → without log.flight id ≡ map (λ (m : Msg). m.id) (without_id id flight.msgs)
without_is log flight id fits = ap (filter (λ k. not (k == id))) fits.numbers ∙ map-filter (λ (m : Msg). m.id) (λ k. not (k == id)) flight.msgs

pub delivered_fits : (g : GroupView) (log : Log) (parts : PartsView) (id : ℕ) → FitsLog g log parts → FitsLog g (with_delivered log id) (without_message parts id)
delivered_fits g log parts id fits = record {
  payloads = payloads_fit_too g.roster log (with_delivered log id) parts.payloads refl refl fits.payloads;
  flight = flight_fits_too log (with_delivered log id) refl refl parts.flight (without_id id parts.flight.msgs) fits.flight
      (λ m h. kept (λ (x : Msg). not (x.id == id)) parts.flight.msgs m h) (without_is log parts.flight id fits.flight);
  chain = fits.chain;
  heard = λ said h. heard_still g.roster log (with_delivered log id) (λ p there. there)
      (λ m there. Contains-append_left log.delivered (message_of log id ∷ []) m there) said (fits.heard said h);
}

pub loss_fits : (g : GroupView) (log : Log) (parts : PartsView) (id : ℕ) → FitsLog g log parts → FitsLog g (with_loss log id) (without_message parts id)
loss_fits g log parts id fits = record {
  payloads = payloads_fit_too g.roster log (with_loss log id) parts.payloads refl refl fits.payloads;
  flight = flight_fits_too log (with_loss log id) refl refl parts.flight (without_id id parts.flight.msgs) fits.flight
      (λ m h. kept (λ (x : Msg). not (x.id == id)) parts.flight.msgs m h) (without_is log parts.flight id fits.flight);
  chain = fits.chain;
  heard = λ said h. heard_still g.roster log (with_loss log id) (λ p there. there) (λ m there. there) said (fits.heard said h);
}

-- no message in flight has the number
pub no_loss_fits : (g : GroupView) (log : Log) (parts : PartsView) (id : ℕ) → FitsLog g log parts → list_any (λ k. k == id) log.flight ≡ false
    → FitsLog g log (without_message parts id)
no_loss_fits g log parts id fits none = record {
  payloads = fits.payloads;
  flight = flight_fits_too log log refl refl parts.flight (without_id id parts.flight.msgs) fits.flight
      (λ m h. kept (λ (x : Msg). not (x.id == id)) parts.flight.msgs m h) (sym (none_taken log.flight id none) ∙ without_is log parts.flight id fits.flight);
  chain = fits.chain;
  heard = fits.heard;
}

-- ---- the messages of a client that leaves are dropped

abbrev pub with_dropped : Log → ClientId → Log
with_dropped log client = record log { flight = filter (λ id. not (is_member (message_of log id).from (members.Client client))) log.flight }

same_member : (a b : Member) → is_one a b ≡ is_member a b
same_member (members.Client i) (members.Client k) = refl
same_member (members.Client i) (members.Server k) = refl
same_member (members.Server j) (members.Client k) = refl
same_member (members.Server j) (members.Server k) = refl

pub dropped_fits : (g : GroupView) (log : Log) (parts : PartsView) (client : ClientId) → FitsLog g log parts
    → FitsLog g (with_dropped log client) (record parts { flight = without_from (members.Client client) parts.flight })
dropped_fits g log parts client fits =
    let stays : ℕ → Bool = λ id. not (is_member (message_of log id).from (members.Client client)) in
    let msgs = filter (λ (x : Msg). not (is_from (members.Client client) x)) parts.flight.msgs in
    record {
      payloads = payloads_fit_too g.roster log (with_dropped log client) parts.payloads refl refl fits.payloads;
      flight = flight_fits_too log (with_dropped log client) refl refl parts.flight msgs fits.flight
          (λ m h. kept (λ (x : Msg). not (is_from (members.Client client) x)) parts.flight.msgs m h)
          (ap (filter stays) fits.flight.numbers ∙ map-filter (λ (m : Msg). m.id) stays parts.flight.msgs
          ∙ ap (map (λ (m : Msg). m.id)) (same_kept (λ (x : Msg). stays x.id) (λ (x : Msg). not (is_from (members.Client client) x)) parts.flight.msgs
          (λ m h. ap not (ap (λ (a : Member). is_member a (members.Client client)) (fits.flight.messages m h).from ∙ sym (same_member m.from (members.Client client))))));
      chain = fits.chain;
      heard = λ said h. heard_still g.roster log (with_dropped log client) (λ p there. there) (λ m there. there) said (fits.heard said h);
    }

-- ---- the message with a number, and what it carries

pub is_with_id : (id : ℕ) (msgs : List Msg) (m : Msg) → with_id id msgs ≡ Some m → Contains msgs m × (m.id ≡ id)
is_with_id id [] m e = absurd cc
is_with_id id (x ∷ xs) m e =
    elim (cases_Bool (x.id == id)) [
      | inl is ↦ let same = same_Some x m (rw is at e) in (subst (Contains (x ∷ xs)) same (here x xs), ap (λ (y : Msg). y.id) (sym same) ∙ eqb-true x.id id is)
      | inr other ↦ let rest = is_with_id id xs m (rw other at e) in (later x xs m rest.0, rest.1)
    ]

mapped_from : {A B : Type 0} (f : A → B) (o : Option A) (y : B) → option_map f o ≡ Some y → (x : A) × (o ≡ Some x) × (f x ≡ y)
mapped_from f (Some x) y e = (x, refl, same_Some (f x) y e)
mapped_from f None y e = absurd cc

-- the payload that a message in flight carries
pub payload_of_message : (g : GroupView) (log : Log) (parts : PartsView) (m : Msg) → FitsLog g log parts → Contains parts.flight.msgs m
    → (x : PayloadView) × (slice_get parts.payloads.items m.payload ≡ Some x) × (x.bytes ≡ (message_of log m.id).bytes)
payload_of_message g log parts m fits h =
    mapped_from (λ (x : PayloadView). x.bytes) (slice_get parts.payloads.items m.payload) (message_of log m.id).bytes
    (sym (slice_get-map (λ (x : PayloadView). x.bytes) parts.payloads.items m.payload)
    ∙ ap (λ (ps : List (List ℕ)). slice_get ps m.payload) (sym fits.payloads.numbers) ∙ (fits.flight.messages m h).payload)

-- ---- what is heard where a payload reaches a server

submitted : (s : Statement) → IsSubmissionOpened s → IsSubmission s
submitted (kinds.Submission r prev i digest) h = tt
submitted _ h = absurd h

-- the envelope in front of what opens
front_opens : (roster : RosterView) (bytes : List ℕ) (x : Opened) (said : SaidView) (p : Payload) → front_of (contents.Opened x) ≡ Some said → IsPayload p
    → bytes ≡ payload_bytes p → IsOpened roster p x → IsSaid said × IsUnder roster said × HasInFront bytes said
front_opens roster bytes (opened.Submission cipher of) said (payloads.Submission own_cipher envelope) e fits is o =
    let same = same_Some of said e in
    subst (λ (z : SaidView). IsSaid z × IsUnder roster z × HasInFront bytes z) same
    (o.1.0, o.1.1, inr (own_cipher, submitted of.statement o.2, subst (λ (d : List ℕ). IsPayloadOf bytes (payloads.Submission own_cipher d)) (sym o.1.2) (record { fits = fits; spelled = is })))
front_opens roster bytes (opened.Plain of) said (payloads.Plain envelope) e fits is o =
    let same = same_Some of said e in
    subst (λ (z : SaidView). IsSaid z × IsUnder roster z × HasInFront bytes z) same
    (o.0, o.1, inl (subst (λ (d : List ℕ). IsPayloadOf bytes (payloads.Plain d)) (sym o.2) (record { fits = fits; spelled = is })))
front_opens roster bytes (opened.Submission cipher of) said (payloads.Plain envelope) e fits is o = absurd o
front_opens roster bytes (opened.Submission cipher of) said (payloads.Certificate body signatures) e fits is o = absurd o
front_opens roster bytes (opened.Submission cipher of) said (payloads.Challenge r k envelopes) e fits is o = absurd o
front_opens roster bytes (opened.Plain of) said (payloads.Submission own_cipher envelope) e fits is o = absurd o
front_opens roster bytes (opened.Plain of) said (payloads.Certificate body signatures) e fits is o = absurd o
front_opens roster bytes (opened.Plain of) said (payloads.Challenge r k envelopes) e fits is o = absurd o
front_opens roster bytes (opened.Certificate c) said p e fits is o = absurd cc
front_opens roster bytes (opened.Challenge c) said p e fits is o = absurd cc

heard_among : (roster : RosterView) (log : Log) (bytes : List ℕ) (front : Option SaidView) (arrived : (said : SaidView) → HasInFront bytes said → HasArrived log said)
    → ((said : SaidView) → front ≡ Some said → IsSaid said × IsUnder roster said × HasInFront bytes said)
    → (said : SaidView) → Contains (heard_in front) said → WasHeard roster log said
heard_among roster log bytes None arrived opens said h = absurd (nothing said h)
heard_among roster log bytes (Some of) arrived opens said h = by of.signer refl h where
  was : (z : SaidView) → of ≡ z → CameFrom log of of.signer → WasHeard roster log z
  was z same from = subst (WasHeard roster log) same (record { verified = (opens of refl).0; under = (opens of refl).1; from = from })

  by : (who : SignerId) → of.signer ≡ who → Contains (by_client who of) said → WasHeard roster log said
  by (Server j) e h = absurd (nothing said h)
  by (Client i) e h = was said (only of said h) (subst (CameFrom log of) (sym e) (arrived of (opens of refl).2))
  by (Slot k) e h = was said (only of said h) (subst (CameFrom log of) (sym e) (arrived of (opens of refl).2))

content_front : (roster : RosterView) (bytes : List ℕ) (content : Content) (said : SaidView) → IsContent roster bytes content
    → front_of content ≡ Some said → IsSaid said × IsUnder roster said × HasInFront bytes said
content_front roster bytes (contents.Opened x) said h e = front_opens roster bytes x said h.0 e h.1 h.2 h.3
content_front roster bytes contents.Form said h e = absurd cc
content_front roster bytes contents.Stranger said h e = absurd cc
content_front roster bytes contents.Signature said h e = absurd cc

-- a payload of a message that was delivered to a server is heard
pub heard_fits : (g : GroupView) (log : Log) (old new : PartsView) (p : ℕ) (x : PayloadView) (m : Message) (j : ServerId) → FitsLog g log old
    → slice_get old.payloads.items p ≡ Some x → Contains old.payloads.items x → Contains log.delivered m → m.to ≡ members.Server j → x.bytes ≡ m.bytes
    → IsHeard p old new → FitsLog g log new
heard_fits g log old new p x m j fits at inside there to bytes h = by (has old.delivered p) h where
  arrived : (said : SaidView) → HasInFront x.bytes said → HasArrived log said
  arrived said front = record { message = m; there = there; server = j; to = to; front = subst (λ (b : List ℕ). HasInFront b said) bytes front }

  content_is : content_of old.payloads p ≡ Some x.content
  content_is = ap (option_map (λ (y : PayloadView). y.content)) at

  newly : (said : SaidView) → Contains (client_said_in (content_of old.payloads p)) said → WasHeard g.roster log said
  newly said among =
      heard_among g.roster log x.bytes (front_of x.content) arrived
      (λ z e. content_front g.roster x.bytes x.content z (fits.payloads.content x inside) e) said
      (subst (λ (o : Option Content). Contains (client_said_in o) said) content_is among)

  by : (t : Bool) → IsHeardIf t p old new → FitsLog g log new
  by true same = subst (FitsLog g log) (sym same) fits
  by false first = subst (FitsLog g log) (sym first) (record {
    payloads = fits.payloads;
    flight = fits.flight;
    chain = fits.chain;
    heard = λ said among. elim (Contains-append_cases old.heard (client_said_in (content_of old.payloads p)) said among) [
      | inl before ↦ fits.heard said before
      | inr now ↦ newly said now
    ];
  })
