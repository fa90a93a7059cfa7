-- A step in which one honest client's core is called, and no other.
use Rattle.std.proofs.Common.{◌≡◌, ◌≢◌, ℕ, ◌≤◌, List, [], ◌∷◌, ◌++◌, length, refl, sym, ap, subst, ◌∙◌, inl, inr, true, false}
use Rattle.std.specs.Prelude.{Contains, ◌⊎◌, Option, Some, IsSome, slice_get, slice_set}
use Rattle.std.specs.List.{list_any}
use Rattle.std.specs.Option.{unwrap_or}
use Rattle.std.proofs.lemmas.Bool.{cases_eq}
use Rattle.std.proofs.lemmas.List.{length-set}
use Rattle.std.proofs.lemmas.Option.{same_Some}
use Rattle.dn_wire.specs.declared.ids.ClientId.{ClientId}
use Rattle.dn_wire.specs.declared.ids.ServerId.{ServerId}
use Rattle.dn_wire.specs.declared.ids.SlotId.{SlotId}
use Rattle.dn_wire.specs.declared.ids.Round.{Round}
use Rattle.dn_wire.specs.declared.ids.Member.TheVariants as members
use Rattle.dn_wire.specs.declared.ids.SignerId.TheVariants.{Client, Slot}
use Rattle.dn_record_types.specs.declared.statement.Statement.{Statement}
use Rattle.dn_cert.proofs.Orders.{same_client}
use Rattle.dn_roster.specs.Roster.{RosterView}
use Rattle.dn_client.specs.declared.made.Made.{Made}
use Rattle.dn_client.specs.Client.{ClientView, IsClient}
use Rattle.dn_server.specs.Server.{ServerView}
use Rattle.dn_report.specs.declared.event.Event.TheVariants as events
use Rattle.dn_audit.specs.Group.{GroupView as MarkedGroup, is_corrupt as is_marked}
use Rattle.dn_state.specs.Parts.{PartsView, IsWhole, HaveClients, HaveServers}
use Rattle.dn_state.specs.Members.{client_at}
use Rattle.dn_headline.specs.Group.{IsHonestServer, IsHonestClient}
use Rattle.dn_headline.specs.Log.{Step, Message, Put, message_of, is_early_or_none, IsOrderly}
use Rattle.dn_headline.specs.Run.{RunView, PlainMade, log}
use Rattle.dn_headline.specs.Plains.{text_in, texts_of}
use Rattle.dn_headline.specs.Delivered.{IsPhaseOf}
use Rattle.dn_headline.specs.Invariant.{Carries}
use Rattle.dn_headline.specs.Step.{IsNewlySigned}
use Rattle.dn_links.specs.ClientLink.{ClientCall, ClientMoves, ClientsCalled, plain_of}
use Rattle.dn_links.specs.Judging.{JudgeCalled}
use Rattle.dn_links.specs.Call.{IsCall}
use Rattle.dn_steps.specs.Cores.{server_of, client_of, facts_in, no_client}
use Rattle.dn_steps.specs.Fitting.{FitsLog}
use Rattle.dn_steps.specs.Openings.{KeepsOpenings}
use Rattle.dn_steps.specs.Tied.{IsTied}
use Rattle.dn_steps.proofs.Members.{core_set_same, core_set_other, set_is, set_other, client_is_honest, client_core_is, client_within, client_there}
use Rattle.dn_steps.proofs.Runs.{next_run, run_grows, AreQuiet}
use Rattle.dn_steps.proofs.Quiet.{servers_rest, rounds_rest, messages_rest, client_rests, texts_rest}
use Rattle.dn_steps.proofs.Resting.{carried, group_fits_too}
use Rattle.dn_steps.proofs.Tying.{still_tied}

-- the parts have the group and the servers that they had
pub record SameServers (old new : PartsView) : Type 0 where
  pub roster : new.roster ≡ old.roster
  pub opens : new.payloads.roster ≡ old.payloads.roster
  pub group : new.group ≡ old.group
  pub servers : new.servers ≡ old.servers
  pub left : length new.left ≡ length old.left

module _ (w : RunView) (old new : PartsView) (s : Step) (plains : List PlainMade) (tied : IsTied w old) (i : ClientId) (c d : ClientView) where
  abbrev v : RunView
  v = next_run w s plains w.sums

  -- the client's core is called so, and nobody else's
  pub record Turns : Type 0 where
    pub here : client_at old i ≡ Some c
    pub clients : new.clients ≡ slice_set old.clients i.0 (Some d)
    pub rest : SameServers old new
    pub quiet : AreQuiet s.outcomes
    pub fits : FitsLog w.group (log v) new
    pub orderly : IsOrderly (log w) s
    pub by_client : (at : ℕ) (p : Put) → length (log w).puts ≤ at → slice_get (log v).puts at ≡ Some p → p.own ≡ true → p.by ≡ members.Client i
    pub unheard : (x j : ServerId) (r : Round) (t : Statement) (m : Message) → IsHonestServer w.group j → IsPhaseOf r t → Carries v x j t m
        → (id : ℕ) × (s.event ≡ events.Deliver id) × (list_any is_early_or_none s.outcomes ≡ false) × (message_of (log w) id ≡ m) → ⊥
    pub call : ClientCall v i c d
    pub queue : d.queue ≡ texts_of v i
    pub others : (k : ClientId) → k.0 ≢ i.0 → text_in k s.event ≡ []
    pub more : (m : PlainMade) → Contains w.plains m → Contains plains m
    pub made : (m : PlainMade) → Contains plains m → Contains w.plains m ⊎ ((m.client ≡ i) × (of : Made) × Contains d.made of × (m ≡ plain_of i of))
    pub client : IsClient d
    pub put : (t : Statement) → IsNewlySigned w v (Client i) t → Contains d.signed t
    pub put_accused : (slot : SlotId) (t : Statement) → slice_get w.group.owners slot.0 ≡ Some i → IsNewlySigned w v (Slot slot) t → Contains d.signed_as_slot t
    pub judge : JudgeCalled w v

  module _ (turn : Turns) where
    pub same_server : (j : ServerId) → server_of new j ≡ server_of old j
    same_server j = λ t. server_of (record old { roster = turn.rest.roster t; servers = turn.rest.servers t }) j

    pub before_here : client_of old i ≡ c
    before_here = client_core_is old i c turn.here

    at_here : client_at new i ≡ Some d
    at_here =
        ap (λ (cs : List (Option ClientView)). client_at (record old { clients = cs }) i) turn.clients
        ∙ core_set_same old.clients i.0 d (client_within old i c turn.here)

    pub after_here : client_of new i ≡ d
    after_here = client_core_is new i d at_here

    pub after_other : (k : ClientId) → k.0 ≢ i.0 → client_of new k ≡ client_of old k
    after_other k other =
        ap (λ (cs : List (Option ClientView)). client_of (record old { clients = cs }) k) turn.clients
        ∙ ap (λ (o : Option ClientView). unwrap_or o no_client) (core_set_other old.clients i.0 k.0 d other)

    apart : (j : ServerId) → members.Client i ≡ members.Server j → ⊥
    apart j e = absurd cc

    same_one : (k : ClientId) → members.Client k ≡ members.Client i → k ≡ i
    same_one k e = cc

    moves_here : ClientMoves w v i (client_of old i) (client_of new i)
    moves_here =
        subst (λ (z : ClientView). ClientMoves w v i z (client_of new i)) (sym before_here) (subst (ClientMoves w v i c) (sym after_here) (record {
          call = turn.call;
          queue = turn.queue;
          plains = λ m there mine. elim (turn.made m there) [ inl was ↦ inl was | inr now ↦ inr (now.1, now.2, now.3) ];
        }))

    moves_other : (k : ClientId) → IsHonestClient w.group k → k.0 ≢ i.0 → ClientMoves w v k (client_of old k) (client_of new k)
    moves_other k h other = subst (ClientMoves w v k (client_of old k)) (sym (after_other k other)) (record {
      call = client_rests w old new s plains w.sums tied k (client_of old k);
      queue = (tied.clients k h).linked.queue ∙ sym (texts_rest w old new s plains w.sums tied k (turn.others k other));
      plains = λ m there mine. elim (turn.made m there) [
        | inl was ↦ inl was
        | inr now ↦ absurd (other (ap (λ (z : ClientId). z.0) (sym mine ∙ now.0)))
      ];
    })

    moves : (k : ClientId) → IsHonestClient w.group k → ClientMoves w v k (client_of old k) (client_of new k)
    moves k h =
        elim (cases_eq k.0 i.0) [
          | inl same ↦ subst (λ (z : ClientId). ClientMoves w v z (client_of old z) (client_of new z)) (sym (same_client k i same)) moves_here
          | inr other ↦ moves_other k h other
        ]

    client_after : (k : ClientId) → IsHonestClient w.group k → IsClient (client_of new k)
    client_after k h =
        elim (cases_eq k.0 i.0) [
          | inl same ↦ subst (λ (z : ClientId). IsClient (client_of new z)) (sym (same_client k i same)) (subst IsClient (sym after_here) turn.client)
          | inr other ↦ subst IsClient (sym (after_other k other)) (tied.clients k h).client
        ]

    put_by : (k : ClientId) (t : Statement) → IsNewlySigned w v (Client k) t → Contains (client_of new k).signed t
    put_by k t now =
        let same = same_one k (now.key ∙ turn.by_client now.at now.put now.new now.there now.own) in
        subst (λ (z : ClientId). Contains (client_of new z).signed t) (sym same)
        (subst (λ (z : ClientView). Contains z.signed t) (sym after_here) (turn.put t (subst (λ (z : ClientId). IsNewlySigned w v (Client z) t) same now)))

    put_by_slot : (k : ClientId) (slot : SlotId) (t : Statement) → slice_get w.group.owners slot.0 ≡ Some k → IsNewlySigned w v (Slot slot) t
        → Contains (client_of new k).signed_as_slot t
    put_by_slot k slot t owns now =
        let owner : now.key.0 ≡ k = same_Some now.key.0 k (sym now.key.1 ∙ owns) in
        let same = same_one k (ap members.Client (sym owner) ∙ now.key.2 ∙ turn.by_client now.at now.put now.new now.there now.own) in
        subst (λ (z : ClientId). Contains (client_of new z).signed_as_slot t) (sym same)
        (subst (λ (z : ClientView). Contains z.signed_as_slot t) (sym after_here)
        (turn.put_accused slot t (subst (λ (z : ClientId). slice_get w.group.owners slot.0 ≡ Some z) same owns) now))

    abbrev clients_called : ClientsCalled w v (facts_in old) (facts_in new)
    clients_called = record {
      before = client_of old;
      after = client_of new;
      facts_before = λ k h. refl;
      facts_after = λ k h. refl;
      linked = λ k h. (tied.clients k h).linked;
      moves = moves;
      clients = client_after;
      put = λ k t h now. put_by k t now;
      put_accused = λ k slot t h owns now. put_by_slot k slot t owns now;
    }

    server_put : (at : ℕ) (p : Put) → length (log w).puts ≤ at → slice_get (log v).puts at ≡ Some p → p.own ≡ true → (j : ServerId) → IsHonestServer w.group j
        → members.Server j ≢ p.by
    server_put at p past there own j h e = apart j (sym (e ∙ turn.by_client at p past there own))

    abbrev the_call : IsCall w (facts_in old) v (facts_in new)
    the_call = record {
      group = refl;
      lines = s.outcomes;
      fresh = λ j. [];
      grows = run_grows w s plains w.sums turn.more (λ m h. h);
      servers = servers_rest w old new s plains w.sums tied turn.quiet same_server server_put;
      rounds = rounds_rest w old new s plains w.sums tied turn.quiet;
      clients = clients_called;
      messages = messages_rest w old new s plains w.sums tied turn.orderly turn.unheard;
      judge = turn.judge;
    }

    -- ---- the parts are whole

    unmarked : is_marked old.group (members.Client i) ≡ false
    unmarked = (tied.whole.clients i.0 (Some c) (client_there old i c turn.here)).0 refl

    have_set : HaveClients old.group (slice_set old.clients i.0 (Some d))
    have_set k core at =
        elim (cases_eq k i.0) [
          | inl same ↦
              let is : core ≡ Some d = set_is old.clients i.0 k d core (client_within old i c turn.here) same at in (
                λ some. subst (λ (n : ℕ). is_marked old.group (members.Client (record { 0 = n })) ≡ false) (sym same) unmarked,
                λ mark. subst (λ (o : Option ClientView). IsSome o) (sym is) refl,
              )
          | inr other ↦ tied.whole.clients k core (set_other old.clients i.0 k d core other at)
        ]

    whole_after : IsWhole new
    whole_after = record {
      opens = turn.rest.opens ∙ tied.whole.opens ∙ sym turn.rest.roster;
      clients_long =
          ap (λ (cs : List (Option ClientView)). length cs) turn.clients ∙ length-set old.clients i.0 (Some d) ∙ tied.whole.clients_long
          ∙ ap (λ (z : RosterView). length z.clients) (sym turn.rest.roster);
      servers_long =
          ap (λ (cs : List (Option ServerView)). length cs) turn.rest.servers ∙ tied.whole.servers_long ∙ ap (λ (z : RosterView). length z.servers) (sym turn.rest.roster);
      left_long = turn.rest.left ∙ tied.whole.left_long ∙ ap (λ (z : RosterView). length z.clients) (sym turn.rest.roster);
      clients = subst (λ (z : MarkedGroup). HaveClients z new.clients) (sym turn.rest.group) (subst (HaveClients old.group) (sym turn.clients) have_set);
      servers = subst (λ (z : MarkedGroup). HaveServers z new.servers) (sym turn.rest.group) (subst (HaveServers old.group) (sym turn.rest.servers) tied.whole.servers);
      carried = carried w.group (log v) new turn.fits;
    }

    made_by_honest : (m : PlainMade) → Contains plains m → IsHonestClient w.group m.client
    made_by_honest m there =
        elim (turn.made m there) [
          | inl was ↦ tied.plains m was
          | inr now ↦ subst (IsHonestClient w.group) (sym now.0) (client_is_honest w old tied i c turn.here)
        ]

    pub turned : IsTied v new
    turned = still_tied w old new (w.history ++ s ∷ []) plains w.sums tied the_call (record {
      whole = whole_after;
      group = group_fits_too w.group old new turn.rest.roster turn.rest.opens turn.rest.group tied.group;
      fits = turn.fits;
      servers = λ j h. sym (same_server j);
      keys = λ j h. ap (λ (z : ServerView). z.key) (same_server j);
      straight = λ j h. ap (λ (z : ServerView). z.bent) (same_server j);
      clients = λ k h. refl;
      openings = λ j h. subst (KeepsOpenings w.group.roster) (sym (same_server j)) (tied.servers j h).openings;
      plains_of = made_by_honest;
      sums_of = tied.sums;
    })
