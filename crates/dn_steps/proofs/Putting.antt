-- What the log becomes where a member puts bytes.
use Rattle.std.proofs.Common.{◌≡◌, ℕ, ◌<◌, List, [], ◌∷◌, ◌++◌, map, length, refl, sym, ap, subst, ◌∙◌, inl, inr, Bool, true, false, cond}
use Rattle.std.specs.Prelude.{Contains, ◌⊎◌, slice_get, Some, option_map}
use Rattle.std.proofs.lemmas.Bool.{cases_Bool}
use Rattle.std.proofs.lemmas.Option.{same_Some, slice_get-map}
use Rattle.std.proofs.lemmas.List.{length-map, map-append}
use Rattle.std.proofs.lemmas.List.Elements.{Contains-append_left, Contains-append_right, Contains-append_cases}
use Rattle.dn_wire.specs.declared.ids.Member.{Member}
use Rattle.dn_wire.specs.declared.ids.SignerId.{SignerId}
use Rattle.dn_wire.specs.declared.ids.SignerId.TheVariants.{Client, Server, Slot}
use Rattle.dn_record_types.specs.declared.payload.Payload.{Payload}
use Rattle.dn_record_types.specs.declared.payload.Payload.TheVariants as payloads
use Rattle.dn_records.specs.Records.{payload_bytes, IsPayload}
use Rattle.dn_roster.specs.Roster.{RosterView}
use Rattle.dn_seal.specs.Said.{SaidView, IsSaid, IsUnder}
use Rattle.dn_cert.specs.Opening.{IsOpened}
use Rattle.dn_cert.specs.declared.opened.Opened.TheVariants as opened
use Rattle.dn_cert.proofs.Orders.{here, nothing, first_or_later}
use Rattle.dn_report.specs.declared.outcome.Outcome.{Outcome}
use Rattle.dn_report.specs.declared.outcome.Outcome.TheVariants as outcomes
use Rattle.dn_payloads.specs.declared.content.Content.{Content}
use Rattle.dn_payloads.specs.declared.content.Content.TheVariants as contents
use Rattle.dn_payloads.specs.declared.payloads.Numbered.{Numbered}
use Rattle.dn_payloads.specs.Payloads.{PayloadView, PayloadsView, IsContent, IsNumberedBy}
use Rattle.dn_state.specs.declared.putting.Sender.{Sender}
use Rattle.dn_state.specs.Parts.{PartsView}
use Rattle.dn_state.specs.Putting.{Puts, server_said, by_server}
use Rattle.dn_headline.specs.Group.{GroupView, clients_of}
use Rattle.dn_headline.specs.Log.{Log, Message, Put, message_of, with_outcome, with_outcomes, AreNumbered}
use Rattle.dn_headline.specs.Spoken.{IsPayloadOf}
use Rattle.dn_headline.specs.Certified.{IsChainOf}
use Rattle.dn_steps.specs.Fitting.{FitsLog, FitsPayloads, FitsFlight, WasHeard, CameFrom}
use Rattle.dn_steps.proofs.Places.{no_more, both_ways, only, place_stays, place_at_end, one_at}
use Rattle.dn_steps.proofs.Sending.{put_of, message_from, IsSentOrLost, SendsAll, sends_each}
use Rattle.dn_steps.proofs.Following.{IsOther, put_first, put_again, unput_follows}

-- ---- what stays where more is put

came_still : (log new : Log) → ((p : Put) → Contains log.puts p → Contains new.puts p) → ((m : Message) → Contains log.delivered m → Contains new.delivered m)
    → (said : SaidView) (who : SignerId) → CameFrom log said who → CameFrom new said who
came_still log new puts delivered said (Server j) from = (from.0, puts from.0 from.1, from.2)
came_still log new puts delivered said (Client i) from = record {
  message = from.message;
  there = delivered from.message from.there;
  server = from.server;
  to = from.to;
  front = from.front;
}
came_still log new puts delivered said (Slot k) from = record {
  message = from.message;
  there = delivered from.message from.there;
  server = from.server;
  to = from.to;
  front = from.front;
}

pub heard_still : (roster : RosterView) (log new : Log) → ((p : Put) → Contains log.puts p → Contains new.puts p)
    → ((m : Message) → Contains log.delivered m → Contains new.delivered m) → (said : SaidView) → WasHeard roster log said → WasHeard roster new said
heard_still roster log new puts delivered said h = record { verified = h.verified; under = h.under; from = came_still log new puts delivered said said.signer h.from }

-- ---- what a server says in a plain payload

pub plain_opens : (roster : RosterView) (bytes : List ℕ) (said : SaidView) (p : Payload) → IsPayload p → bytes ≡ payload_bytes p → IsOpened roster p (opened.Plain said)
    → IsSaid said × IsUnder roster said × IsPayloadOf bytes (payloads.Plain said.bytes)
plain_opens roster bytes said (payloads.Plain envelope) fits is o = (
  o.0,
  o.1,
  subst (λ (e : List ℕ). IsPayloadOf bytes (payloads.Plain e)) (sym o.2) (record { fits = fits; spelled = is }),
)
plain_opens roster bytes said (payloads.Certificate body signatures) fits is o = absurd o
plain_opens roster bytes said (payloads.Submission cipher envelope) fits is o = absurd o
plain_opens roster bytes said (payloads.Challenge r k envelopes) fits is o = absurd o

said_by_server : (who : SignerId) (of said : SaidView) → Contains (by_server who of) said → (of ≡ said) × ((j : _) × (who ≡ Server j))
said_by_server (Server j) of said h = (only of said h, (j, refl))
said_by_server (Client i) of said h = absurd (nothing said h)
said_by_server (Slot k) of said h = absurd (nothing said h)

-- what is heard newly was put
heard_newly : (roster : RosterView) (log : Log) (p : Put) (content : Content) → IsContent roster p.bytes content → Contains log.puts p
    → (said : SaidView) → Contains (server_said content) said → WasHeard roster log said
heard_newly roster log p (contents.Opened (opened.Plain of)) h there said among =
    let by = said_by_server of.signer of said among in
    let is = plain_opens roster p.bytes of h.0 h.1 h.2 h.3 in
    subst (WasHeard roster log) by.0 (record {
      verified = is.0;
      under = is.1;
      from = subst (CameFrom log of) (sym by.1.1) (p, there, is.2);
    })
heard_newly roster log p (contents.Opened (opened.Submission cipher of)) h there said among = absurd (nothing said among)
heard_newly roster log p (contents.Opened (opened.Certificate c)) h there said among = absurd (nothing said among)
heard_newly roster log p (contents.Opened (opened.Challenge c)) h there said among = absurd (nothing said among)
heard_newly roster log p contents.Form h there said among = absurd (nothing said among)
heard_newly roster log p contents.Stranger h there said among = absurd (nothing said among)
heard_newly roster log p contents.Signature h there said among = absurd (nothing said among)

-- ---- a put

-- it goes to somebody, or is no certificate
abbrev pub GoesOrIsOther : RosterView → List ℕ → List Member → Type 0
GoesOrIsOther roster bytes [] = (x : Content) → IsContent roster bytes x → IsOther x
GoesOrIsOther roster bytes (m ∷ ms) = Unit {0}

-- the log after a member put bytes to members
pub record PutsSo (g : GroupView) (own : Bool) (by : Member) (to : List Member) (bytes : List ℕ) (log : Log) (new : PartsView) (lines : List Outcome) : Type 0 where
  pub numbered : AreNumbered own by log lines
  pub fits : FitsLog g (with_outcomes own by log lines) new
  pub more : List Put
  pub puts : (with_outcomes own by log lines).puts ≡ log.puts ++ more
  pub each : (p : Put) → Contains more p → put_of own by bytes ≡ p
  pub put : (p : Put) × Contains (with_outcomes own by log lines).puts p × (p.bytes ≡ bytes)
  pub delivered : (with_outcomes own by log lines).delivered ≡ log.delivered
  pub fates : (m : Member) → Contains to m → IsSentOrLost (with_outcomes own by log lines) (message_from own by bytes m)
  pub sent : (id : ℕ) → id < length log.sent
      → (id < length (with_outcomes own by log lines).sent) × (message_of (with_outcomes own by log lines) id ≡ message_of log id)
  pub flies : (id : ℕ) → Contains log.flight id → Contains (with_outcomes own by log lines).flight id
  pub lost : (m : Message) → Contains log.lost m → Contains (with_outcomes own by log lines).lost m

puts_same : (own : Bool) (by : Member) (bytes : List ℕ) (to : List Member) (p : Put) → Contains (map (λ (m : Member). put_of own by bytes) to) p → put_of own by bytes ≡ p
puts_same own by bytes [] p h = absurd (nothing p h)
puts_same own by bytes (m ∷ ms) p h = elim (either p h) [ inl e ↦ e | inr behind ↦ puts_same own by bytes ms p behind ] where
  either : (q : Put) → Contains (put_of own by bytes ∷ map (λ (x : Member). put_of own by bytes) ms) q
      → (put_of own by bytes ≡ q) ⊎ Contains (map (λ (x : Member). put_of own by bytes) ms) q
  either q h = first_or_later (put_of own by bytes) (map (λ (x : Member). put_of own by bytes) ms) q h

module _ (g : GroupView) (log : Log) (old new : PartsView) (sender : Sender) (to : List Member) (bytes : List ℕ) (lines : List Outcome)
    (fits : FitsLog g log old) (opens : old.payloads.roster ≡ g.roster) (goes : GoesOrIsOther g.roster bytes to) (h : Puts old sender to bytes new lines) where
  abbrev own : Bool
  own = sender.is_own

  abbrev by : Member
  by = sender.member

  abbrev p : Put
  p = put_of own by bytes

  abbrev n : Numbered
  n = h.number

  bytes_of_payload : h.payload.bytes ≡ bytes
  bytes_of_payload = h.spelled

  -- ---- bytes that weren't put before
  module _ (is_new : n.is_new ≡ true) where
    numbered_new : IsNumberedBy old.payloads bytes new.payloads n.number true
    numbered_new = subst (IsNumberedBy old.payloads bytes new.payloads n.number) is_new h.numbered

    abbrev x : PayloadView
    x = numbered_new.2

    abbrev mid : Log
    mid = record log { payloads = log.payloads ++ bytes ∷ []; puts = log.puts ++ p ∷ [] }

    items_new : new.payloads.items ≡ old.payloads.items ++ x ∷ []
    items_new = ap (λ (v : PayloadsView). v.items) numbered_new.5

    long : n.number ≡ length log.payloads
    long =
        numbered_new.1 ∙ sym (length-map old.payloads.items (λ (y : PayloadView). y.bytes))
        ∙ ap (λ (bs : List (List ℕ)). length bs) (sym fits.payloads.numbers)

    there_new : slice_get mid.payloads n.number ≡ Some bytes
    there_new = subst (λ (k : ℕ). slice_get mid.payloads k ≡ Some bytes) (sym long) (place_at_end log.payloads bytes)

    payload_is : h.payload ≡ x
    payload_is =
        same_Some h.payload x (sym h.there ∙ ap (λ (ys : List PayloadView). slice_get ys n.number) items_new
        ∙ subst (λ (k : ℕ). slice_get (old.payloads.items ++ x ∷ []) k ≡ Some x) (sym numbered_new.1) (place_at_end old.payloads.items x))

    content_new : IsContent g.roster bytes h.payload.content
    content_new =
        subst (λ (r : RosterView). IsContent r bytes h.payload.content) opens
        (subst (λ (y : PayloadView). IsContent old.payloads.roster bytes y.content) (sym payload_is) numbered_new.4)

    flight_mid : FitsFlight mid old.flight
    flight_mid = record {
      next = fits.flight.next;
      numbers = fits.flight.numbers;
      messages = λ m is. let f = fits.flight.messages m is in
          record { sent = f.sent; from = f.from; to = f.to; payload = place_stays log.payloads (bytes ∷ []) m.payload _ f.payload };
    }

    all_sent : SendsAll own by bytes to mid h.sent new.flight
    all_sent = sends_each own by n.number bytes to mid old.flight new.flight h.sent there_new flight_mid h.sends

    abbrev after : Log
    after = with_outcomes own by mid h.sent

    puts_new : after.puts ≡ (log.puts ++ p ∷ []) ++ map (λ (m : Member). p) to
    puts_new = all_sent.has.puts

    in_after : (q : Put) → Contains (log.puts ++ p ∷ []) q → Contains after.puts q
    in_after q there = subst (λ (ps : List Put). Contains ps q) (sym puts_new) (Contains-append_left (log.puts ++ p ∷ []) (map (λ (m : Member). p) to) q there)

    p_in : Contains after.puts p
    p_in = in_after p (Contains-append_right log.puts (p ∷ []) p (here p []))

    old_in : (q : Put) → Contains log.puts q → Contains after.puts q
    old_in q there = in_after q (Contains-append_left log.puts (p ∷ []) q there)

    delivered_in : (m : Message) → Contains log.delivered m → Contains after.delivered m
    delivered_in m there = subst (λ (ms : List Message). Contains ms m) (sym all_sent.has.delivered) there

    heard_new : new.heard ≡ old.heard ++ server_said h.payload.content
    heard_new = h.heard ∙ ap (λ (t : Bool). cond t (old.heard ++ server_said h.payload.content) old.heard) is_new

    payloads_new : FitsPayloads g.roster after new.payloads
    payloads_new = record {
      numbers =
          all_sent.has.payloads ∙ ap (λ (bs : List (List ℕ)). bs ++ bytes ∷ []) fits.payloads.numbers
          ∙ ap (λ (b : List ℕ). map (λ (y : PayloadView). y.bytes) old.payloads.items ++ b ∷ []) (sym numbered_new.3)
          ∙ sym (map-append (λ (y : PayloadView). y.bytes) old.payloads.items (x ∷ []))
          ∙ ap (map (λ (y : PayloadView). y.bytes)) (sym items_new);
      put = λ y there. elim (Contains-append_cases old.payloads.items (x ∷ []) y (subst (λ (ys : List PayloadView). Contains ys y) items_new there)) [
        | inl before ↦ let q = fits.payloads.put y before in (q.0, old_in q.0 q.1, q.2)
        | inr last ↦ (p, p_in, sym numbered_new.3 ∙ ap (λ (z : PayloadView). z.bytes) (only x y last))
      ];
      content = λ y there. elim (Contains-append_cases old.payloads.items (x ∷ []) y (subst (λ (ys : List PayloadView). Contains ys y) items_new there)) [
        | inl before ↦ fits.payloads.content y before
        | inr last ↦ subst (λ (z : PayloadView). IsContent g.roster z.bytes z.content) (only x y last)
            (subst (λ (b : List ℕ). IsContent g.roster b x.content) (sym numbered_new.3) (subst (λ (r : RosterView). IsContent r bytes x.content) opens numbered_new.4))
      ];
    }

    chain_new : IsChainOf g.roster (clients_of g) after.puts new.chain
    chain_new =
        let first = put_first g.roster (clients_of g) h.payload.content p content_new log.puts old.chain new.chain h.follows fits.chain in
        subst (λ (ps : List Put). IsChainOf g.roster (clients_of g) ps new.chain) (sym puts_new)
        (put_again g.roster (clients_of g) h.payload.content p content_new (log.puts ++ p ∷ []) new.chain to first.1 first.0)

    fits_new : FitsLog g after new
    fits_new = record {
      payloads = payloads_new;
      flight = all_sent.has.fits;
      chain = chain_new;
      heard = λ said there. elim (Contains-append_cases old.heard (server_said h.payload.content) said (subst (λ (ss : List SaidView). Contains ss said) heard_new there)) [
        | inl before ↦ heard_still g.roster log after old_in delivered_in said (fits.heard said before)
        | inr now ↦ heard_newly g.roster after p h.payload.content content_new p_in said now
      ];
    }

    puts_so_new : PutsSo g own by to bytes log new (outcomes.Post n.number by bytes ∷ h.sent)
    unfolding with_outcomes with_outcome
    puts_so_new = record {
      numbered = (long, all_sent.numbered);
      fits = fits_new;
      more = p ∷ map (λ (m : Member). p) to;
      puts = puts_new ∙ both_ways log.puts (p ∷ []) (map (λ (m : Member). p) to);
      each = λ q there. elim (first_or_later p (map (λ (m : Member). p) to) q there) [ inl e ↦ e | inr behind ↦ puts_same own by bytes to q behind ];
      put = (p, p_in, refl);
      delivered = all_sent.has.delivered;
      fates = all_sent.has.fates;
      sent = all_sent.has.sent;
      flies = all_sent.has.flies;
      lost = all_sent.has.lost;
    }

    lines_new : lines ≡ outcomes.Post n.number by bytes ∷ h.sent
    lines_new = h.told ∙ ap (λ (t : Bool). cond t (outcomes.Post n.number by bytes ∷ []) [] ++ h.sent) is_new

  -- ---- bytes that were put before
  module _ (is_old : n.is_new ≡ false) where
    numbered_old : IsNumberedBy old.payloads bytes new.payloads n.number false
    numbered_old = subst (IsNumberedBy old.payloads bytes new.payloads n.number) is_old h.numbered

    abbrev y : PayloadView
    y = numbered_old.1

    there_old : slice_get log.payloads n.number ≡ Some bytes
    there_old =
        ap (λ (bs : List (List ℕ)). slice_get bs n.number) fits.payloads.numbers ∙ slice_get-map (λ (z : PayloadView). z.bytes) old.payloads.items n.number
        ∙ ap (option_map (λ (z : PayloadView). z.bytes)) numbered_old.2 ∙ ap Some numbered_old.3

    payload_old : h.payload ≡ y
    payload_old = same_Some h.payload y (sym h.there ∙ ap (λ (v : PayloadsView). slice_get v.items n.number) numbered_old.0 ∙ numbered_old.2)

    y_in : Contains old.payloads.items y
    y_in = one_at old.payloads.items n.number y numbered_old.2

    content_old : IsContent g.roster bytes h.payload.content
    content_old =
        subst (λ (z : PayloadView). IsContent g.roster bytes z.content) (sym payload_old)
        (subst (λ (b : List ℕ). IsContent g.roster b y.content) numbered_old.3 (fits.payloads.content y y_in))

    again_sent : SendsAll own by bytes to log h.sent new.flight
    again_sent = sends_each own by n.number bytes to log old.flight new.flight h.sent there_old fits.flight h.sends

    abbrev done : Log
    done = with_outcomes own by log h.sent

    before_in : (q : Put) → Contains log.puts q → Contains done.puts q
    before_in q there = subst (λ (ps : List Put). Contains ps q) (sym again_sent.has.puts) (Contains-append_left log.puts (map (λ (m : Member). p) to) q there)

    chain_of : (ms : List Member) → GoesOrIsOther g.roster bytes ms → IsChainOf g.roster (clients_of g) (log.puts ++ map (λ (m : Member). p) ms) new.chain
    chain_of [] none =
        subst (λ (ps : List Put). IsChainOf g.roster (clients_of g) ps new.chain) (no_more log.puts)
        (subst (IsChainOf g.roster (clients_of g) log.puts) (sym (unput_follows h.payload.content old.chain new.chain (none h.payload.content content_old) h.follows)) fits.chain)
    chain_of (m ∷ ms) some =
        let first = put_first g.roster (clients_of g) h.payload.content p content_old log.puts old.chain new.chain h.follows fits.chain in
        subst (λ (ps : List Put). IsChainOf g.roster (clients_of g) ps new.chain) (both_ways log.puts (p ∷ []) (map (λ (z : Member). p) ms))
        (put_again g.roster (clients_of g) h.payload.content p content_old (log.puts ++ p ∷ []) new.chain ms first.1 first.0)

    heard_old : new.heard ≡ old.heard
    heard_old = h.heard ∙ ap (λ (t : Bool). cond t (old.heard ++ server_said h.payload.content) old.heard) is_old

    fits_old : FitsLog g done new
    fits_old = record {
      payloads = subst (FitsPayloads g.roster done) (sym numbered_old.0) (record {
        numbers = again_sent.has.payloads ∙ fits.payloads.numbers;
        put = λ z there. let q = fits.payloads.put z there in (q.0, before_in q.0 q.1, q.2);
        content = fits.payloads.content;
      });
      flight = again_sent.has.fits;
      chain = subst (λ (ps : List Put). IsChainOf g.roster (clients_of g) ps new.chain) (sym again_sent.has.puts) (chain_of to goes);
      heard = λ said there. heard_still g.roster log done before_in (λ m was. subst (λ (ms : List Message). Contains ms m) (sym again_sent.has.delivered) was) said
          (fits.heard said (subst (λ (ss : List SaidView). Contains ss said) heard_old there));
    }

    puts_so_old : PutsSo g own by to bytes log new h.sent
    puts_so_old = record {
      numbered = again_sent.numbered;
      fits = fits_old;
      more = map (λ (m : Member). p) to;
      puts = again_sent.has.puts;
      each = λ q there. puts_same own by bytes to q there;
      put = let q = fits.payloads.put y y_in in (q.0, before_in q.0 q.1, q.2 ∙ numbered_old.3);
      delivered = again_sent.has.delivered;
      fates = again_sent.has.fates;
      sent = again_sent.has.sent;
      flies = again_sent.has.flies;
      lost = again_sent.has.lost;
    }

    lines_old : lines ≡ h.sent
    lines_old = h.told ∙ ap (λ (t : Bool). cond t (outcomes.Post n.number by bytes ∷ []) [] ++ h.sent) is_old

  pub puts_so : PutsSo g own by to bytes log new lines
  puts_so =
      elim (cases_Bool n.is_new) [
        | inl is_new ↦ subst (PutsSo g own by to bytes log new) (sym (lines_new is_new)) (puts_so_new is_new)
        | inr is_old ↦ subst (PutsSo g own by to bytes log new) (sym (lines_old is_old)) (puts_so_old is_old)
      ]
