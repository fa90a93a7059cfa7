-- What becomes of messages in a step whose numbers are right.
use Rattle.std.proofs.Common.{◌≡◌, ℕ, zero, suc, ◌<◌, List, [], ◌∷◌, ◌++◌, length, get_or, refl, sym, ap, subst, ◌∙◌, arith, inl, inr, Bool, true, false, cond, not}
use Rattle.std.specs.Prelude.{Contains, ◌⊎◌, ◌==◌, filter}
use Rattle.std.specs.List.{list_any}
use Rattle.std.proofs.lemmas.Bool.{cases_Bool, cases_eq, ne_eqb}
use Rattle.std.proofs.lemmas.List.{length-append}
use Rattle.std.proofs.lemmas.List.Elements.{Contains-append_left, Contains-append_right, Contains-append_cases, Contains-get_or}
use Rattle.dn_wire.specs.declared.ids.Member.{Member}
use Rattle.dn_wire.specs.declared.ids.Member.TheVariants as members
use Rattle.dn_wire.specs.declared.ids.ServerId.{ServerId}
use Rattle.dn_wire.specs.declared.ids.ClientId.{ClientId}
use Rattle.dn_report.specs.declared.event.Event.{Event}
use Rattle.dn_report.specs.declared.event.Event.TheVariants as events
use Rattle.dn_report.specs.declared.outcome.Outcome.{Outcome}
use Rattle.dn_report.specs.declared.outcome.Outcome.TheVariants as outcomes
use Rattle.dn_cert.proofs.Orders.{here, later, nothing, first_or_later}
use Rattle.dn_headline.specs.Group.{is_member}
use Rattle.dn_headline.specs.Log.{Step, Put, Message, Log, nobody, message_of, actor_of, actor_after, is_own, is_early_or_none, with_outcome, with_outcomes, with_removal, with_step, message_to, IsNext, AreNumbered, IsOrderly, IsSoundLog}
use Rattle.dn_bits.proofs.TotalLemmas.{kept}

get_or_append : {A : Type 0} (xs ys : List A) (k : ℕ) (d : A) → k < length xs → get_or (xs ++ ys) k d ≡ get_or xs k d
get_or_append [] ys k d lt = absurd (omega arith)
get_or_append (x ∷ xs) ys zero d lt = refl
get_or_append (x ∷ xs) ys (suc k) d lt = get_or_append xs ys k d (omega arith)

-- one log is another with more sent, delivered, lost and in flight
pub record Goes (old new : Log) : Type 0 where
  pub sent : (id : ℕ) → id < length old.sent → (id < length new.sent) × (message_of new id ≡ message_of old id)
  pub flies : (id : ℕ) → Contains old.flight id → Contains new.flight id
  pub delivered : (m : Message) → Contains old.delivered m → Contains new.delivered m
  pub lost : (m : Message) → Contains old.lost m → Contains new.lost m

goes_nowhere : (log : Log) → Goes log log
goes_nowhere log = record { sent = λ id lt. (lt, refl); flies = λ id h. h; delivered = λ m h. h; lost = λ m h. h }

goes_on : (a b c : Log) → Goes a b → Goes b c → Goes a c
goes_on a b c g h = record {
  sent = λ id lt. let one = g.sent id lt in let two = h.sent id one.0 in (two.0, two.1 ∙ one.1);
  flies = λ id x. h.flies id (g.flies id x);
  delivered = λ m x. h.delivered m (g.delivered m x);
  lost = λ m x. h.lost m (g.lost m x);
}

outcome_goes : (own : Bool) (actor : Member) (log : Log) (o : Outcome) → Goes log (with_outcome own actor log o)
unfolding with_outcome
outcome_goes own actor log (outcomes.Post payload by bytes) = record { sent = λ id lt. (lt, refl); flies = λ id h. h; delivered = λ m h. h; lost = λ m h. h }
outcome_goes own actor log (outcomes.Sent id payload to) =
    let m = message_to log actor own payload to in
    let none : Message = record { from = nobody; to = nobody; own = false; bytes = [] } in
    let more = length-append log.sent (m ∷ []) in
    record {
      sent = λ k lt. (omega arith, get_or_append log.sent (m ∷ []) k none lt);
      flies = λ k h. Contains-append_left log.flight (id ∷ []) k h;
      delivered = λ x h. h;
      lost = λ x h. h;
    }
outcome_goes own actor log (outcomes.Full payload to) =
    record { sent = λ id lt. (lt, refl); flies = λ id h. h; delivered = λ m h. h; lost = λ m h. Contains-append_left log.lost _ m h }
outcome_goes own actor log _ = goes_nowhere log

pub outcomes_go : (own : Bool) (actor : Member) (log : Log) (os : List Outcome) → Goes log (with_outcomes own actor log os)
unfolding with_outcomes
outcomes_go own actor log [] = goes_nowhere log
outcomes_go own actor log (o ∷ os) =
    goes_on log (with_outcome own actor log o) (with_outcomes own (actor_after actor o) (with_outcome own actor log o) os)
    (outcome_goes own actor log o) (outcomes_go own (actor_after actor o) (with_outcome own actor log o) os)

-- ---- what takes a message out of flight

filter_keeps : (p : ℕ → Bool) (xs : List ℕ) (x : ℕ) → p x ≡ true → Contains xs x → Contains (filter p xs) x
filter_keeps p [] x passes h = absurd (nothing x h)
filter_keeps p (y ∷ ys) x passes h =
    elim (cases_Bool (p y)) [
      | inl does ↦ rw does (elim (first_or_later y ys x h) [
        | inl e ↦ subst (λ z. Contains (y ∷ filter p ys) z) e (here y (filter p ys))
        | inr behind ↦ later y (filter p ys) x (filter_keeps p ys x passes behind)
      ])
      | inr fails ↦ rw fails (elim (first_or_later y ys x h) [
        | inl e ↦ absurd (both_ways (p y) fails (ap p e ∙ passes))
        | inr behind ↦ filter_keeps p ys x passes behind
      ])
    ]
  where
    both_ways : (t : Bool) → t ≡ false → t ≡ true → ⊥
    both_ways true a b = absurd cc
    both_ways false a b = absurd cc

stays_unless : (flight : List ℕ) (gone id : ℕ) → Contains flight id → (gone ≡ id) ⊎ Contains (filter (λ k. not (k == gone)) flight) id
stays_unless flight gone id h =
    elim (cases_eq id gone) [
      | inl e ↦ inl (sym e)
      | inr ne ↦ inr (filter_keeps (λ k. not (k == gone)) flight id (ap not (ne_eqb id gone ne)) h)
    ]

abbrev Fate : Log → Log → ℕ → Type 0
Fate old new id = Contains new.delivered (message_of old id) ⊎ Contains new.lost (message_of old id) ⊎ Contains new.flight id

deliver_fate : (t : Bool) (log : Log) (gone id : ℕ) → Contains log.flight id
    → Fate log (cond t log (record log { flight = filter (λ k. not (k == gone)) log.flight; delivered = log.delivered ++ message_of log gone ∷ [] })) id
deliver_fate true log gone id h = inr (inr h)
deliver_fate false log gone id h =
    elim (stays_unless log.flight gone id h) [
      | inl e ↦ inl (subst (λ k. Contains (log.delivered ++ message_of log gone ∷ []) (message_of log k)) e
          (Contains-append_right log.delivered (message_of log gone ∷ []) (message_of log gone) (here (message_of log gone) [])))
      | inr still ↦ inr (inr still)
    ]

lose_fate : (t : Bool) (log : Log) (gone id : ℕ) → Contains log.flight id
    → Fate log (cond t (record log { flight = filter (λ k. not (k == gone)) log.flight; lost = log.lost ++ message_of log gone ∷ [] }) log) id
lose_fate false log gone id h = inr (inr h)
lose_fate true log gone id h =
    elim (stays_unless log.flight gone id h) [
      | inl e ↦ inr (inl (subst (λ k. Contains (log.lost ++ message_of log gone ∷ []) (message_of log k)) e
          (Contains-append_right log.lost (message_of log gone ∷ []) (message_of log gone) (here (message_of log gone) []))))
      | inr still ↦ inr (inr still)
    ]

is_other : (m : Member) (x : ServerId) (i : ClientId) → m ≡ members.Server x → not (is_member m (members.Client i)) ≡ true
is_other (members.Server y) x i e = refl
is_other (members.Client y) x i e = absurd cc

-- a server's message in flight stays there, or is delivered or lost
removal_fate : (log : Log) (e : Event) (os : List Outcome) (id : ℕ) (x : ServerId) → (message_of log id).from ≡ members.Server x → Contains log.flight id
    → Fate log (with_removal log e os) id
removal_fate log (events.Deliver gone) os id x from h = deliver_fate (list_any is_early_or_none os) log gone id h
removal_fate log (events.Lose gone) os id x from h = lose_fate (list_any (λ k. k == gone) log.flight) log gone id h
removal_fate log (events.Leave client) os id x from h =
    inr (inr (filter_keeps (λ k. not (is_member (message_of log k).from (members.Client client))) log.flight id (is_other (message_of log id).from x client from) h))
removal_fate log _ os id x from h = inr (inr h)

sent_stays : (log : Log) (e : Event) (os : List Outcome) → (with_removal log e os).sent ≡ log.sent
sent_stays log (events.Deliver id) os = same (list_any is_early_or_none os)
  where
    same : (t : Bool) → (cond t log (record log { flight = filter (λ k. not (k == id)) log.flight; delivered = log.delivered ++ message_of log id ∷ [] })).sent ≡ log.sent
    same true = refl
    same false = refl
sent_stays log (events.Lose id) os = same (list_any (λ k. k == id) log.flight)
  where
    same : (t : Bool) → (cond t (record log { flight = filter (λ k. not (k == id)) log.flight; lost = log.lost ++ message_of log id ∷ [] }) log).sent ≡ log.sent
    same true = refl
    same false = refl
sent_stays log (events.Leave client) os = refl
sent_stays log _ os = refl

pub step_fate : (log : Log) (s : Step) (id : ℕ) (x : ServerId) → IsSoundLog log → Contains log.flight id → (message_of log id).from ≡ members.Server x
    → Contains (with_step log s).delivered (message_of log id) ⊎ Contains (with_step log s).lost (message_of log id)
    ⊎ (Contains (with_step log s).flight id × (message_of (with_step log s) id ≡ message_of log id))
step_fate log s id x sound h from =
    let mid = with_removal log s.event s.outcomes in
    let goes = outcomes_go (is_own s.event) (actor_of log s.event) mid s.outcomes in
    let same = sent_stays log s.event s.outcomes in
    let none : Message = record { from = nobody; to = nobody; own = false; bytes = [] } in
    let within : id < length mid.sent = let lt = sound.flies id h in omega (arith, ap length same) in
    let message = (goes.sent id within).1 ∙ ap (λ (ms : List Message). get_or ms id none) same in
    elim (removal_fate log s.event s.outcomes id x from h) [
      | inl delivered ↦ inl (goes.delivered (message_of log id) delivered)
      | inr rest ↦ elim rest [
        | inl lost ↦ inr (inl (goes.lost (message_of log id) lost))
        | inr flies ↦ inr (inr (goes.flies id flies, message))
      ]
    ]

-- ---- sound logs stay sound

outcome_sound : (own : Bool) (actor : Member) (log : Log) (o : Outcome) → IsNext log o → IsSoundLog log → IsSoundLog (with_outcome own actor log o)
unfolding with_outcome
outcome_sound own actor log (outcomes.Post payload by bytes) next sound = record {
  sent = λ m h. let p = sound.sent m h in (p.0, Contains-append_left log.puts (record { by = by; own = own; bytes = bytes } ∷ []) p.0 p.1, p.2);
  flies = sound.flies;
}
outcome_sound own actor log (outcomes.Sent id payload to) next sound =
    let m = message_to log actor own payload to in
    let put : Put = record { by = m.from; own = m.own; bytes = m.bytes } in
    let more = length-append log.sent (m ∷ []) in
    record {
      sent = λ x h. elim (Contains-append_cases log.sent (m ∷ []) x h) [
        | inl old ↦ let p = sound.sent x old in (p.0, Contains-append_left log.puts (put ∷ []) p.0 p.1, p.2)
        | inr new ↦ (
          put,
          Contains-append_right log.puts (put ∷ []) put (here put []),
          elim (first_or_later m [] x new) [
            | inl e ↦ ap (λ (y : Message). y.bytes) e
            | inr behind ↦ absurd (nothing x behind)
          ],
        )
      ];
      flies = λ k h. elim (Contains-append_cases log.flight (id ∷ []) k h) [
        | inl old ↦ let lt = sound.flies k old in omega arith
        | inr new ↦ elim (first_or_later id [] k new) [
          | inl e ↦ omega arith
          | inr behind ↦ absurd (nothing k behind)
        ]
      ];
    }
outcome_sound own actor log (outcomes.Full payload to) next sound =
    let m = message_to log actor own payload to in
    let put : Put = record { by = m.from; own = m.own; bytes = m.bytes } in
    record {
      sent = λ x h. let p = sound.sent x h in (p.0, Contains-append_left log.puts (put ∷ []) p.0 p.1, p.2);
      flies = sound.flies;
    }
outcome_sound own actor log _ next sound = sound

pub outcomes_sound : (own : Bool) (actor : Member) (log : Log) (os : List Outcome) → AreNumbered own actor log os → IsSoundLog log → IsSoundLog (with_outcomes own actor log os)
unfolding with_outcomes
outcomes_sound own actor log [] next sound = sound
outcomes_sound own actor log (o ∷ os) next sound =
    outcomes_sound own (actor_after actor o) (with_outcome own actor log o) os next.1 (outcome_sound own actor log o next.0 sound)

removal_sound : (log : Log) (e : Event) (os : List Outcome) → IsSoundLog log → IsSoundLog (with_removal log e os)
removal_sound log (events.Deliver id) os sound = sound_if (list_any is_early_or_none os)
  where
    sound_if : (t : Bool) → IsSoundLog (cond t log (record log { flight = filter (λ k. not (k == id)) log.flight; delivered = log.delivered ++ message_of log id ∷ [] }))
    sound_if true = sound
    sound_if false = record { sent = sound.sent; flies = λ k h. sound.flies k (kept (λ k. not (k == id)) log.flight k h) }
removal_sound log (events.Lose id) os sound = sound_if (list_any (λ k. k == id) log.flight)
  where
    sound_if : (t : Bool) → IsSoundLog (cond t (record log { flight = filter (λ k. not (k == id)) log.flight; lost = log.lost ++ message_of log id ∷ [] }) log)
    sound_if true = record { sent = sound.sent; flies = λ k h. sound.flies k (kept (λ k. not (k == id)) log.flight k h) }
    sound_if false = sound
removal_sound log (events.Leave client) os sound = record {
  sent = sound.sent;
  flies = λ k h. sound.flies k (kept (λ id. not (is_member (message_of log id).from (members.Client client))) log.flight k h);
}
removal_sound log _ os sound = sound

pub step_sound : (log : Log) (s : Step) → IsOrderly log s → IsSoundLog log → IsSoundLog (with_step log s)
step_sound log s orderly sound =
    outcomes_sound (is_own s.event) (actor_of log s.event) (with_removal log s.event s.outcomes) s.outcomes orderly.numbered (removal_sound log s.event s.outcomes sound)

-- ---- what is delivered was put

delivered_by_one : (own : Bool) (actor : Member) (log : Log) (o : Outcome) → (with_outcome own actor log o).delivered ≡ log.delivered
unfolding with_outcome
delivered_by_one own actor log (outcomes.Post payload by bytes) = refl
delivered_by_one own actor log (outcomes.Sent id payload to) = refl
delivered_by_one own actor log (outcomes.Full payload to) = refl
delivered_by_one own actor log _ = refl

pub delivered_same : (own : Bool) (actor : Member) (log : Log) (os : List Outcome) → (with_outcomes own actor log os).delivered ≡ log.delivered
unfolding with_outcomes
delivered_same own actor log [] = refl
delivered_same own actor log (o ∷ os) = delivered_same own (actor_after actor o) (with_outcome own actor log o) os ∙ delivered_by_one own actor log o

pub removal_delivers : (log : Log) (e : Event) (os : List Outcome) (m : Message) → Contains (with_removal log e os).delivered m
    → Contains log.delivered m ⊎ ((id : ℕ) × (e ≡ events.Deliver id) × (list_any is_early_or_none os ≡ false) × (message_of log id ≡ m))
removal_delivers log (events.Deliver id) os m h = of (list_any is_early_or_none os) refl h
  where
    of : (t : Bool) → list_any is_early_or_none os ≡ t
        → Contains (cond t log (record log { flight = filter (λ k. not (k == id)) log.flight; delivered = log.delivered ++ message_of log id ∷ [] })).delivered m
        → Contains log.delivered m ⊎ ((k : ℕ) × (events.Deliver id ≡ events.Deliver k) × (list_any is_early_or_none os ≡ false) × (message_of log k ≡ m))
    of true e h = inl h
    of false e h = elim (Contains-append_cases log.delivered (message_of log id ∷ []) m h) [
      | inl old ↦ inl old
      | inr new ↦ elim (first_or_later (message_of log id) [] m new) [
        | inl is ↦ inr (id, refl, e, is)
        | inr behind ↦ absurd (nothing m behind)
      ]
    ]
removal_delivers log (events.Lose id) os m h = inl (of (list_any (λ k. k == id) log.flight) h)
  where
    of : (t : Bool) → Contains (cond t (record log { flight = filter (λ k. not (k == id)) log.flight; lost = log.lost ++ message_of log id ∷ [] }) log).delivered m → Contains log.delivered m
    of true h = h
    of false h = h
removal_delivers log (events.Leave client) os m h = inl h
removal_delivers log _ os m h = inl h

pub step_delivers_what_was_put : (log : Log) (s : Step) → IsOrderly log s → IsSoundLog log → (m : Message) → Contains (with_step log s).delivered m
    → Contains log.delivered m ⊎ ((p : Put) × Contains log.puts p × (p.bytes ≡ m.bytes))
step_delivers_what_was_put log s orderly sound m h =
    let mid = with_removal log s.event s.outcomes in
    let same = delivered_same (is_own s.event) (actor_of log s.event) mid s.outcomes in
    let none : Message = record { from = nobody; to = nobody; own = false; bytes = [] } in
    elim (removal_delivers log s.event s.outcomes m (subst (λ (ms : List Message). Contains ms m) same h)) [
      | inl old ↦ inl old
      | inr new ↦
          let within = sound.flies new.0 (orderly.delivers new.0 new.1 new.2) in
          let p = sound.sent (message_of log new.0) (Contains-get_or log.sent new.0 none within) in
          inr (p.0, p.1, p.2 ∙ ap (λ (x : Message). x.bytes) new.3)
    ]
