-- What the log becomes where a payload goes to members.
use Rattle.std.proofs.Common.{◌≡◌, ℕ, ◌+◌, ◌<◌, List, [], ◌∷◌, ◌++◌, map, length, get_or, refl, sym, ap, subst, ◌∙◌, arith, inl, inr, Bool, false}
use Rattle.std.specs.Prelude.{Contains, ◌⊎◌, slice_get, Some}
use Rattle.std.proofs.lemmas.Option.{get_or_from_slice_get}
use Rattle.std.proofs.lemmas.List.{length-append, map-append}
use Rattle.std.proofs.lemmas.List.Elements.{Contains-append_left, Contains-append_right, Contains-append_cases}
use Rattle.dn_wire.specs.declared.ids.Member.{Member}
use Rattle.dn_report.specs.declared.outcome.Outcome.{Outcome}
use Rattle.dn_report.specs.declared.outcome.Outcome.TheVariants as outcomes
use Rattle.dn_flight.specs.declared.msg.Msg.{Msg}
use Rattle.dn_flight.specs.Flight.{FlightView}
use Rattle.dn_state.specs.Putting.{Sends, SendsEach}
use Rattle.dn_state.specs.Putting.Sends.{sent, full}
use Rattle.dn_state.specs.Putting.SendsEach.{to_none, to_next}
use Rattle.dn_cert.proofs.Orders.{here, nothing, first_or_later}
use Rattle.dn_cert.proofs.ListLemmas.{Contains-from_map}
use Rattle.dn_headline.specs.Log.{Log, Message, Put, nobody, message_of, actor_after, with_outcome, with_outcomes, message_to, IsNext, AreNumbered}
use Rattle.dn_steps.specs.Fitting.{FitsFlight, FitsMessage}
use Rattle.dn_steps.proofs.Places.{no_more, both_ways, only, value_stays, value_at_end}

abbrev pub put_of : Bool → Member → List ℕ → Put
put_of own by bytes = record { by = by; own = own; bytes = bytes }

abbrev pub message_from : Bool → Member → List ℕ → Member → Message
message_from own by bytes to = record { from = by; to = to; own = own; bytes = bytes }

-- the message is in flight, or was lost
abbrev pub IsSentOrLost : Log → Message → Type 0
IsSentOrLost log m = Contains log.lost m ⊎ ((id : ℕ) × Contains log.flight id × (message_of log id ≡ m))

-- a log with messages more of a payload, to these members: each was put, and is in flight or lost
pub record HasSent (own : Bool) (by : Member) (bytes : List ℕ) (to : List Member) (log new : Log) (flight : FlightView) : Type 0 where
  pub payloads : new.payloads ≡ log.payloads
  pub puts : new.puts ≡ log.puts ++ map (λ (m : Member). put_of own by bytes) to
  pub delivered : new.delivered ≡ log.delivered
  pub fits : FitsFlight new flight
  pub fates : (m : Member) → Contains to m → IsSentOrLost new (message_from own by bytes m)
  -- what was in flight or lost still is
  pub sent : (id : ℕ) → id < length log.sent → (id < length new.sent) × (message_of new id ≡ message_of log id)
  pub flies : (id : ℕ) → Contains log.flight id → Contains new.flight id
  pub lost : (m : Message) → Contains log.lost m → Contains new.lost m

abbrev none : Message
none = record { from = nobody; to = nobody; own = false; bytes = [] }

-- ---- one message

message_is : (own : Bool) (by to : Member) (payload : ℕ) (bytes : List ℕ) (log : Log) → slice_get log.payloads payload ≡ Some bytes
    → message_to log by own payload to ≡ message_from own by bytes to
message_is own by to payload bytes log there = ap (λ (b : List ℕ). message_from own by b to) (get_or_from_slice_get log.payloads payload bytes [] there)

-- the log with this message in flight
abbrev with_sent : Log → Message → ℕ → Log
with_sent log m id = record log { puts = log.puts ++ put_of m.own m.from m.bytes ∷ []; sent = log.sent ++ m ∷ []; flight = log.flight ++ id ∷ [] }

abbrev with_lost : Log → Message → Log
with_lost log m = record log { puts = log.puts ++ put_of m.own m.from m.bytes ∷ []; lost = log.lost ++ m ∷ [] }

sent_is : (own : Bool) (by to : Member) (payload id : ℕ) (bytes : List ℕ) (log : Log) → slice_get log.payloads payload ≡ Some bytes
    → with_outcome own by log (outcomes.Sent id payload to) ≡ with_sent log (message_from own by bytes to) id
unfolding with_outcome
sent_is own by to payload id bytes log there = ap (λ (m : Message). with_sent log m id) (message_is own by to payload bytes log there)

lost_is : (own : Bool) (by to : Member) (payload : ℕ) (bytes : List ℕ) (log : Log) → slice_get log.payloads payload ≡ Some bytes
    → with_outcome own by log (outcomes.Full payload to) ≡ with_lost log (message_from own by bytes to)
unfolding with_outcome
lost_is own by to payload bytes log there = ap (λ (m : Message). with_lost log m) (message_is own by to payload bytes log there)

-- a message that fitted fits still
message_fits : (log : Log) (m : Message) (id : ℕ) (x : Msg) → FitsMessage log x → FitsMessage (with_sent log m id) x
message_fits log m id x fits =
    let more = length-append log.sent (m ∷ []) in
    let same : message_of (with_sent log m id) x.id ≡ message_of log x.id = value_stays log.sent (m ∷ []) x.id none fits.sent in
    let lt = fits.sent in
    record {
      sent = omega (arith, more, lt);
      from = ap (λ (y : Message). y.from) same ∙ fits.from;
      to = ap (λ (y : Message). y.to) same ∙ fits.to;
      payload = fits.payload ∙ ap (λ (y : Message). Some y.bytes) (sym same);
    }

sends_it : (own : Bool) (by to : Member) (payload : ℕ) (bytes : List ℕ) (log : Log) (old new : FlightView) → slice_get log.payloads payload ≡ Some bytes
    → FitsFlight log old → new.msgs ≡ old.msgs ++ record { id = old.next; from = by; to = to; payload = payload } ∷ [] → new.next ≡ old.next + 1
    → HasSent own by bytes (to ∷ []) log (with_sent log (message_from own by bytes to) old.next) new
sends_it own by to payload bytes log old new there fits msgs next =
    let m = message_from own by bytes to in
    let x : Msg = record { id = old.next; from = by; to = to; payload = payload } in
    let more = length-append log.sent (m ∷ []) in
    let was = fits.next in
    let at_end : message_of (with_sent log m old.next) old.next ≡ m = subst (λ (n : ℕ). get_or (log.sent ++ m ∷ []) n none ≡ m) (sym was) (value_at_end log.sent m none) in
    record {
      payloads = refl;
      puts = refl;
      delivered = refl;
      fits = record {
        next = omega (arith, more, was, next);
        numbers = ap (λ (ids : List ℕ). ids ++ old.next ∷ []) fits.numbers ∙ sym (map-append (λ (y : Msg). y.id) old.msgs (x ∷ [])) ∙ ap (map (λ (y : Msg). y.id)) (sym msgs);
        messages = λ y h. elim (Contains-append_cases old.msgs (x ∷ []) y (subst (λ (ys : List Msg). Contains ys y) msgs h)) [
          | inl before ↦ message_fits log m old.next y (fits.messages y before)
          | inr last ↦ subst (FitsMessage (with_sent log m old.next)) (only x y last) (record {
            sent = omega (arith, more, was);
            from = ap (λ (z : Message). z.from) at_end;
            to = ap (λ (z : Message). z.to) at_end;
            payload = there ∙ ap (λ (z : Message). Some z.bytes) (sym at_end);
          })
        ];
      };
      fates = λ r h. inr (
        old.next,
        Contains-append_right log.flight (old.next ∷ []) old.next (here old.next []),
        at_end ∙ ap (message_from own by bytes) (only to r h),
      );
      sent = λ id lt. (omega (arith, more, lt), value_stays log.sent (m ∷ []) id none lt);
      flies = λ id h. Contains-append_left log.flight (old.next ∷ []) id h;
      lost = λ y h. h;
    }

loses_it : (own : Bool) (by to : Member) (bytes : List ℕ) (log : Log) (old new : FlightView) → FitsFlight log old → new ≡ old
    → HasSent own by bytes (to ∷ []) log (with_lost log (message_from own by bytes to)) new
loses_it own by to bytes log old new fits same =
    let m = message_from own by bytes to in
    record {
      payloads = refl;
      puts = refl;
      delivered = refl;
      fits = subst (FitsFlight (with_lost log m)) (sym same) (record {
        next = fits.next;
        numbers = fits.numbers;
        messages = λ y h. let is = fits.messages y h in record { sent = is.sent; from = is.from; to = is.to; payload = is.payload };
      });
      fates = λ r h. inl (subst (λ (z : Member). Contains (log.lost ++ m ∷ []) (message_from own by bytes z)) (only to r h) (Contains-append_right log.lost (m ∷ []) m (here m [])));
      sent = λ id lt. (lt, refl);
      flies = λ id h. h;
      lost = λ y h. Contains-append_left log.lost (m ∷ []) y h;
    }

-- its number is right, the actor stays, and the log has the message more
pub record SendsSo (own : Bool) (by : Member) (bytes : List ℕ) (to : Member) (log : Log) (line : Outcome) (flight : FlightView) : Type 0 where
  pub next : IsNext log line
  pub actor : actor_after by line ≡ by
  pub has : HasSent own by bytes (to ∷ []) log (with_outcome own by log line) flight

pub sends_one : (own : Bool) (by to : Member) (payload : ℕ) (bytes : List ℕ) (log : Log) (old new : FlightView) (line : Outcome)
    → slice_get log.payloads payload ≡ Some bytes → FitsFlight log old → Sends by payload to old new line → SendsSo own by bytes to log line new
sends_one own by to payload bytes log old new line there fits (sent room msgs next is) =
    subst (λ (o : Outcome). SendsSo own by bytes to log o new) (sym is) (record {
      next = fits.next;
      actor = refl;
      has = subst (λ (l : Log). HasSent own by bytes (to ∷ []) log l new) (sym (sent_is own by to payload old.next bytes log there))
          (sends_it own by to payload bytes log old new there fits msgs next);
    })
sends_one own by to payload bytes log old new line there fits (full no_room same is) =
    subst (λ (o : Outcome). SendsSo own by bytes to log o new) (sym is) (record {
      next = tt;
      actor = refl;
      has = subst (λ (l : Log). HasSent own by bytes (to ∷ []) log l new) (sym (lost_is own by to payload bytes log there))
          (loses_it own by to bytes log old new fits same);
    })

-- ---- one after the other

sends_none : (own : Bool) (by : Member) (bytes : List ℕ) (log : Log) (flight : FlightView) → FitsFlight log flight → HasSent own by bytes [] log log flight
sends_none own by bytes log flight fits = record {
  payloads = refl;
  puts = no_more log.puts;
  delivered = refl;
  fits = fits;
  fates = λ m h. absurd (nothing m h);
  sent = λ id lt. (lt, refl);
  flies = λ id h. h;
  lost = λ m h. h;
}

fate_stays : (own : Bool) (by : Member) (bytes : List ℕ) (to : List Member) (log new : Log) (flight : FlightView) → HasSent own by bytes to log new flight
    → ((id : ℕ) → Contains log.flight id → id < length log.sent) → (m : Message) → IsSentOrLost log m → IsSentOrLost new m
fate_stays own by bytes to log new flight has within m fate =
    elim fate [
      | inl lost ↦ inl (has.lost m lost)
      | inr flies ↦ inr (flies.0, has.flies flies.0 flies.1, (has.sent flies.0 (within flies.0 flies.1)).1 ∙ flies.2)
    ]

-- the messages in flight were sent
pub flying_were_sent : (log : Log) (flight : FlightView) → FitsFlight log flight → (id : ℕ) → Contains log.flight id → id < length log.sent
flying_were_sent log flight fits id h =
    let at = from_map flight.msgs id (subst (λ (ids : List ℕ). Contains ids id) fits.numbers h) in
    subst (λ (n : ℕ). n < length log.sent) at.2 (fits.messages at.0 at.1).sent
  where
    from_map : (xs : List Msg) (n : ℕ) → Contains (map (λ (m : Msg). m.id) xs) n → (m : Msg) × Contains xs m × (m.id ≡ n)
    from_map xs n h = Contains-from_map (λ (m : Msg). m.id) xs n h

both_sent : (own : Bool) (by t : Member) (bytes : List ℕ) (ts : List Member) (a b c : Log) (between flight : FlightView) → HasSent own by bytes (t ∷ []) a b between
    → HasSent own by bytes ts b c flight → HasSent own by bytes (t ∷ ts) a c flight
both_sent own by t bytes ts a b c between flight one rest = record {
  payloads = rest.payloads ∙ one.payloads;
  puts =
      rest.puts ∙ ap (λ (ps : List Put). ps ++ map (λ (m : Member). put_of own by bytes) ts) one.puts
      ∙ both_ways a.puts (put_of own by bytes ∷ []) (map (λ (m : Member). put_of own by bytes) ts);
  delivered = rest.delivered ∙ one.delivered;
  fits = rest.fits;
  fates = λ m h. elim (first_or_later t ts m h) [
    | inl is ↦ subst (λ (z : Member). IsSentOrLost c (message_from own by bytes z)) is
        (fate_stays own by bytes ts b c flight rest (flying_were_sent b between one.fits) (message_from own by bytes t) (one.fates t (here t [])))
    | inr behind ↦ rest.fates m behind
  ];
  sent = λ id lt. let first = one.sent id lt in let second = rest.sent id first.0 in (second.0, second.1 ∙ first.1);
  flies = λ id h. rest.flies id (one.flies id h);
  lost = λ m h. rest.lost m (one.lost m h);
}

-- what goes to members one after the other: the numbers are right, and each has its message
pub record SendsAll (own : Bool) (by : Member) (bytes : List ℕ) (to : List Member) (log : Log) (lines : List Outcome) (flight : FlightView) : Type 0 where
  pub numbered : AreNumbered own by log lines
  pub has : HasSent own by bytes to log (with_outcomes own by log lines) flight

pub sends_each : (own : Bool) (by : Member) (payload : ℕ) (bytes : List ℕ) (to : List Member) (log : Log) (old new : FlightView) (lines : List Outcome)
    → slice_get log.payloads payload ≡ Some bytes → FitsFlight log old → SendsEach by payload to old new lines → SendsAll own by bytes to log lines new
unfolding with_outcomes
sends_each own by payload bytes to log old new lines there fits (to_none same is) =
    subst (λ (os : List Outcome). SendsAll own by bytes [] log os new) (sym is) (record {
      numbered = tt;
      has = sends_none own by bytes log new (subst (FitsFlight log) (sym same) fits);
    })
sends_each own by payload bytes to log old new lines there fits (to_next {to = t} {others = ts} between line rest first more is) =
    let one = sends_one own by t payload bytes log old between line there fits first in
    let mid = with_outcome own by log line in
    let others = sends_each own by payload bytes ts mid between new rest
    (subst (λ (ps : List (List ℕ)). slice_get ps payload ≡ Some bytes) (sym one.has.payloads) there) one.has.fits more in
    subst (λ (os : List Outcome). SendsAll own by bytes (t ∷ ts) log os new) (sym is) (record {
      numbered = (one.next, subst (λ (m : Member). AreNumbered own m mid rest) (sym one.actor) others.numbered);
      has = subst (λ (m : Member). HasSent own by bytes (t ∷ ts) log (with_outcomes own m mid rest) new) (sym one.actor)
          (both_sent own by t bytes ts log mid (with_outcomes own by mid rest) between new one.has others.has);
    })
