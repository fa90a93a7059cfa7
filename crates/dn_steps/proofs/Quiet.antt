-- A step in which no core is called.
use Rattle.std.proofs.Common.{◌≡◌, ◌≢◌, ℕ, ◌≤◌, List, [], ◌++◌, length, refl, sym, ap, ◌∙◌, inl, inr, true, false}
use Rattle.std.specs.Prelude.{Contains, slice_get, Some}
use Rattle.std.specs.List.{list_any}
use Rattle.std.proofs.lemmas.Option.{same_Some}
use Rattle.dn_wire.specs.declared.ids.ClientId.{ClientId}
use Rattle.dn_wire.specs.declared.ids.ServerId.{ServerId}
use Rattle.dn_wire.specs.declared.ids.Round.{Round}
use Rattle.dn_wire.specs.declared.ids.Member.TheVariants as members
use Rattle.dn_record_types.specs.declared.statement.Statement.{Statement}
use Rattle.dn_cert.specs.Chain.{ChainView}
use Rattle.dn_cert.proofs.Orders.{nothing}
use Rattle.dn_client.specs.Client.{ClientView}
use Rattle.dn_server.specs.Server.{ServerView}
use Rattle.dn_report.specs.declared.event.Event.TheVariants as events
use Rattle.dn_report.specs.declared.outcome.Outcome.TheVariants as outcomes
use Rattle.dn_state.specs.Parts.{PartsView}
use Rattle.dn_headline.specs.Group.{IsHonestServer, IsHonestClient}
use Rattle.dn_headline.specs.Log.{Step, Message, Put, message_of, is_early_or_none, IsOrderly}
use Rattle.dn_headline.specs.Run.{RunView, PlainMade, SumMade, log}
use Rattle.dn_headline.specs.Plains.{text_in, texts_of}
use Rattle.dn_headline.specs.Delivered.{IsPhaseOf}
use Rattle.dn_headline.specs.Invariant.{HoldsOneEach, Carries}
use Rattle.dn_headline.specs.Step.{ChainFollows}
use Rattle.dn_links.specs.Link.{Moves, StaysInRound, ServersCalled, RoundsCalled, facts_of}
use Rattle.dn_links.specs.ClientLink.{ClientCall, ClientsCalled, client_facts_of}
use Rattle.dn_links.specs.ClientLink.ClientCall.{rests}
use Rattle.dn_links.specs.MessageLink.{MessagesCalled}
use Rattle.dn_links.specs.MessageLink.LogMoves.{by_step}
use Rattle.dn_links.proofs.Clients.{texts_more}
use Rattle.dn_steps.specs.Cores.{server_of, client_of, facts_in}
use Rattle.dn_steps.specs.Tied.{IsTied}
use Rattle.dn_steps.proofs.Places.{no_more}
use Rattle.dn_steps.proofs.Runs.{next_run, log_next, AreQuiet}

module _ (w : RunView) (old new : PartsView) (s : Step) (plains : List PlainMade) (sums : List SumMade) (tied : IsTied w old) where
  abbrev v : RunView
  v = next_run w s plains sums

  -- ---- servers that rest

  module _ (quiet : AreQuiet s.outcomes) where
    pub server_rests : (j : ServerId) (c : ServerView) → StaysInRound v j c c s.outcomes
    server_rests j c = record {
      r = refl;
      prev = refl;
      none_opened = λ q p h. let e = quiet (outcomes.Opened j q p) h in absurd cc;
      stays_closed = λ h. h;
      closes = λ q count h. let e = quiet (outcomes.Closed j q count) h in absurd cc;
      told = λ i q told h. let e = quiet (outcomes.Told i j q told) h in absurd cc;
      kept = λ said h. inl h;
      claims = λ i claim h. inl h;
      claimed = λ i claim h. h;
      told_claimed = λ i word h. let e = quiet (outcomes.Told i j c.run.r _) h in absurd cc;
    }

    pub server_rests_on : (j : ServerId) (c : ServerView) → Moves v j c c s.outcomes
    server_rests_on j c = record { seat = refl; signed = λ t h. inl h; made = λ sum h. inl (refl, h); round = inl (server_rests j c) }

  pub chain_rests : (chain : ChainView) → HoldsOneEach chain → ChainFollows v chain chain
  chain_rests chain one = record { grows = record { slots = refl; held = λ b h. h }; one_each = one; certified = λ b h. inl h }

  pub one_each : (j : ServerId) → IsHonestServer w.group j → HoldsOneEach (server_of old j).chain
  one_each j h = (tied.invariant.held_is_put.servers j h).one_each

  module _ (quiet : AreQuiet s.outcomes) (same : (j : ServerId) → server_of new j ≡ server_of old j)
      (unput : (at : ℕ) (p : Put) → length (log w).puts ≤ at → slice_get (log v).puts at ≡ Some p → p.own ≡ true → (j : ServerId) → IsHonestServer w.group j
      → members.Server j ≢ p.by) where
    abbrev pub servers_rest : ServersCalled w v (facts_in old) (facts_in new) s.outcomes (λ j. [])
    servers_rest = record {
      before = server_of old;
      after = server_of old;
      facts_before = λ j h. refl;
      facts_after = λ j h. ap facts_of (same j);
      linked = λ j h. (tied.servers j h).linked;
      moves = λ j h. server_rests_on quiet j (server_of old j);
      were_disciplined = λ j h. (tied.servers j h).disciplined;
      disciplined = λ j h. (tied.servers j h).disciplined;
      chains = λ j h. chain_rests (server_of old j).chain (one_each j h);
      signed = λ j h. no_more (server_of old j).signed;
      of_record = λ j t h has. absurd (nothing t has);
      put = λ j t h now. absurd (unput now.at now.put now.new now.there now.own j h now.key);
    }

  pub rounds_rest : AreQuiet s.outcomes → RoundsCalled w v (facts_in old) (facts_in new) s.outcomes (λ j. []) (server_of old) (server_of old)
  rounds_rest quiet = record {
    settled = λ j h on. (tied.servers j h).settled on;
    ran = λ j h on. inl (on, refl);
    opened = λ j r p h line. let e = quiet (outcomes.Opened j r p) line in absurd cc;
    spoiled = λ j x r reason h line. let e = quiet (outcomes.Spoiled j r x reason) line in absurd cc;
    prev_held = λ j b h has. absurd (nothing _ has);
    certificates = λ j r h line. elim line [
      | inl a ↦ let e = quiet (outcomes.Certified j r) a in absurd cc
      | inr a ↦ let e = quiet (outcomes.Held (members.Server j) r) a in absurd cc
    ];
  }

  -- ---- messages, where servers rest

  pub messages_rest : IsOrderly (log w) s
      → ((x j : ServerId) (r : Round) (t : Statement) (m : Message) → IsHonestServer w.group j → IsPhaseOf r t → Carries v x j t m
      → (id : ℕ) × (s.event ≡ events.Deliver id) × (list_any is_early_or_none s.outcomes ≡ false) × (message_of (log w) id ≡ m) → ⊥)
      → MessagesCalled w v (facts_in old) (facts_in new) s.outcomes (λ j. []) (server_of old) (server_of old)
  messages_rest orderly unheard = record {
    sound = tied.sound;
    moves = by_step s orderly (log_next w s plains sums);
    none_ahead = λ j h. (tied.servers j h).none_ahead;
    sent = λ x j r t hx hj ne phase has. absurd (nothing t has);
    keeps_on = λ j said h stays there. there;
    runs_on = λ j h stays on. on;
    hears = λ x j r t m h phase carries now runs. absurd (unheard x j r t m h phase carries now);
    not_ahead = λ x j r t m h phase carries now. absurd (unheard x j r t m h phase carries now);
  }

  -- ---- clients that rest

  pub client_rests : (i : ClientId) (c : ClientView) → ClientCall v i c c
  client_rests i c = rests (record { who = refl; chain = refl; made = refl; signed = refl; signed_as_slot = refl; bent = refl })

  pub texts_rest : (i : ClientId) → text_in i s.event ≡ [] → texts_of v i ≡ texts_of w i
  texts_rest i none = texts_more i w.history s ∙ ap (λ (ts : List (List ℕ)). texts_of w i ++ ts) none ∙ sym (no_more (texts_of w i))

  module _ (untexted : (i : ClientId) → IsHonestClient w.group i → text_in i s.event ≡ []) (same : (i : ClientId) → client_of new i ≡ client_of old i)
      (unmade : (m : PlainMade) → Contains plains m → Contains w.plains m)
      (unput : (at : ℕ) (p : Put) → length (log w).puts ≤ at → slice_get (log v).puts at ≡ Some p → p.own ≡ true → (i : ClientId) → IsHonestClient w.group i
      → members.Client i ≢ p.by) where
    abbrev pub clients_rest : ClientsCalled w v (facts_in old) (facts_in new)
    clients_rest = record {
      before = client_of old;
      after = client_of old;
      facts_before = λ i h. refl;
      facts_after = λ i h. ap client_facts_of (same i);
      linked = λ i h. (tied.clients i h).linked;
      moves = λ i h. record {
        call = client_rests i (client_of old i);
        queue = (tied.clients i h).linked.queue ∙ sym (texts_rest i (untexted i h));
        plains = λ m there mine. inl (unmade m there);
      };
      clients = λ i h. (tied.clients i h).client;
      put = λ i t h now. absurd (unput now.at now.put now.new now.there now.own i h now.key);
      put_accused = λ i slot t h owns now.
          absurd (unput now.at now.put now.new now.there now.own i h (ap members.Client (same_owner slot.0 i now.key.0 owns now.key.1) ∙ now.key.2));
    } where
      same_owner : (k : ℕ) (a b : ClientId) → slice_get w.group.owners k ≡ Some a → slice_get w.group.owners k ≡ Some b → a ≡ b
      same_owner k a b x y = same_Some a b (sym x ∙ y)
