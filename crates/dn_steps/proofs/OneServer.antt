-- A call of one honest server's core, and of no other's, keeps the tie.
use Rattle.std.proofs.Common.{◌≡◌, ◌≢◌, ℕ, ◌≤◌, List, [], length, refl, sym, ap, subst, ◌∙◌, arith, inl, inr, true, false, Bool, cond}
use Rattle.std.specs.Prelude.{Contains, ◌⊎◌, ◌==◌, Option, Some, IsSome, slice_get, slice_set}
use Rattle.std.specs.Option.{unwrap_or}
use Rattle.std.proofs.lemmas.Bool.{cases_eq, ne_eqb}
use Rattle.std.proofs.lemmas.List.{length-set}
use Rattle.dn_wire.specs.declared.ids.ClientId.{ClientId}
use Rattle.dn_wire.specs.declared.ids.ServerId.{ServerId}
use Rattle.dn_wire.specs.declared.ids.Member.TheVariants as members
use Rattle.dn_record_types.specs.declared.statement.Statement.{Statement}
use Rattle.dn_cert.proofs.Orders.{nothing}
use Rattle.dn_roster.specs.Roster.{RosterView}
use Rattle.dn_client.specs.Client.{ClientView}
use Rattle.dn_server.specs.Server.{ServerView}
use Rattle.dn_report.specs.declared.outcome.Outcome.{Outcome}
use Rattle.dn_audit.specs.Group.{GroupView as MarkedGroup, is_corrupt as is_marked}
use Rattle.dn_state.specs.Parts.{PartsView, IsWhole, HaveClients, HaveServers}
use Rattle.dn_state.specs.Members.{server_at}
use Rattle.dn_headline.specs.Group.{IsHonestServer, IsHonestClient}
use Rattle.dn_headline.specs.Log.{Step, Message, Put}
use Rattle.dn_headline.specs.Run.{RunView, SumMade, log}
use Rattle.dn_headline.specs.Plains.{texts_of}
use Rattle.dn_headline.specs.Invariant.{HoldsOneEach}
use Rattle.dn_headline.specs.Step.{Grows}
use Rattle.dn_links.specs.Link.{StaysInRound, ServersCalled}
use Rattle.dn_links.specs.ClientLink.{ClientsCalled, client_facts_of}
use Rattle.dn_links.specs.ClientLink.ClientCall.{rests}
use Rattle.dn_links.specs.MessageLink.{LogMoves, DeliversNow}
use Rattle.dn_links.specs.Judging.{JudgeCalled}
use Rattle.dn_links.specs.Call.{IsCall}
use Rattle.dn_steps.specs.Cores.{server_of, client_of, facts_in, no_server}
use Rattle.dn_steps.specs.Fitting.{FitsLog}
use Rattle.dn_steps.specs.Tied.{IsTied}
use Rattle.dn_steps.specs.ServerCall.{TellNothingOf, ServerCall}
use Rattle.dn_steps.proofs.Places.{no_more}
use Rattle.dn_steps.proofs.Members.{core_set_same, core_set_other, set_is, set_other, server_is_honest, server_core_is, server_within, server_there}
use Rattle.dn_steps.proofs.Resting.{carried, group_fits_too}
use Rattle.dn_steps.proofs.Tying.{still_tied}

-- the parts have the group and the clients that they had
pub record SameClients (old new : PartsView) : Type 0 where
  pub roster : new.roster ≡ old.roster
  pub opens : new.payloads.roster ≡ old.payloads.roster
  pub group : new.group ≡ old.group
  pub clients : new.clients ≡ old.clients
  pub left : length new.left ≡ length old.left

-- a core that isn't called, where the lines tell nothing of its server
pub rests_so : (v : RunView) (k : ServerId) (c : ServerView) (lines : List Outcome) → TellNothingOf k lines → StaysInRound v k c c lines
rests_so v k c lines none = record {
  r = refl;
  prev = refl;
  none_opened = none.opened;
  stays_closed = λ h. h;
  closes = λ q count h. absurd (none.closed q count h);
  told = λ i q told h. absurd (none.told i q told h);
  kept = λ said h. inl h;
  claims = λ i claim h. inl h;
  claimed = λ i claim h. h;
  told_claimed = λ i word h. absurd (none.told i c.run.r _ h);
}

same_id : (k j : ServerId) → k.0 ≡ j.0 → k ≡ j
same_id k j e = let make : ℕ → ServerId = λ n. record { 0 = n } in ap make e

same_number : (n : ℕ) → (n == n) ≡ true
same_number n = grind arith

module _ (w : RunView) (old new : PartsView) (history : List Step) (sums : List SumMade) (lines : List Outcome) (tied : IsTied w old) (j : ServerId) (fresh : List Statement)
    (c d : ServerView) where
  abbrev v : RunView
  v = record { group = w.group; history = history; plains = w.plains; sums = sums }

  -- the server's core is called so, and nobody else's
  pub record Serves : Type 0 where
    pub here : server_at old j ≡ Some c
    pub servers : new.servers ≡ slice_set old.servers j.0 (Some d)
    pub rest : SameClients old new
    pub fits : FitsLog w.group (log v) new
    pub grows : Grows w v lines
    pub moved : LogMoves (log w) (log v)
    pub of_others : (k : ServerId) → k.0 ≢ j.0 → TellNothingOf k lines
    pub by_server : (at : ℕ) (p : Put) → length (log w).puts ≤ at → slice_get (log v).puts at ≡ Some p → p.own ≡ true → p.by ≡ members.Server j
    pub to_server : (k : ServerId) (m : Message) → k.0 ≢ j.0 → m.to ≡ members.Server k → DeliversNow (log w) (log v) moved m → ⊥
    pub call : ServerCall w v (facts_in new) lines moved j fresh c d
    pub texts : (i : ClientId) → IsHonestClient w.group i → texts_of v i ≡ texts_of w i
    pub sums_of : (m : SumMade) → Contains sums m → Contains w.sums m ⊎ (m.server ≡ j)
    pub judge : JudgeCalled w v

  module _ (serves : Serves) where
    before_here : server_of old j ≡ c
    before_here = server_core_is old j c serves.here

    at_here : server_at new j ≡ Some d
    at_here =
        ap (λ (cs : List (Option ServerView)). server_at (record old { servers = cs }) j) serves.servers
        ∙ core_set_same old.servers j.0 d (server_within old j c serves.here)

    after_here : server_of new j ≡ d
    after_here = server_core_is new j d at_here

    after_other : (k : ServerId) → k.0 ≢ j.0 → server_of new k ≡ server_of old k
    after_other k other =
        (λ t. server_of (record old { roster = serves.rest.roster t; servers = serves.servers t }) k)
        ∙ ap (λ (o : Option ServerView). unwrap_or o (no_server old)) (core_set_other old.servers j.0 k.0 d other)

    fresh_of : ServerId → List Statement
    fresh_of k = cond (k.0 == j.0) fresh []

    fresh_here : fresh_of j ≡ fresh
    unfolding fresh_of
    fresh_here = ap (λ (t : Bool). cond t fresh []) (same_number j.0)

    fresh_other : (k : ServerId) → k.0 ≢ j.0 → fresh_of k ≡ []
    unfolding fresh_of
    fresh_other k other = ap (λ (t : Bool). cond t fresh []) (ne_eqb k.0 j.0 other)

    call_here : ServerCall w v (facts_in new) lines serves.moved j (fresh_of j) (server_of old j) (server_of new j)
    call_here =
        subst (λ (f : List Statement). ServerCall w v (facts_in new) lines serves.moved j f (server_of old j) (server_of new j)) (sym fresh_here)
        (subst (λ (z : ServerView). ServerCall w v (facts_in new) lines serves.moved j fresh z (server_of new j)) (sym before_here)
        (subst (ServerCall w v (facts_in new) lines serves.moved j fresh c) (sym after_here) serves.call))

    one_each : (k : ServerId) → IsHonestServer w.group k → HoldsOneEach (server_of old k).chain
    one_each k h = (tied.invariant.held_is_put.servers k h).one_each

    not_others : (k : ServerId) → k.0 ≢ j.0 → members.Server k ≡ members.Server j → ⊥
    not_others k other e = other (number_of e) where
      number_of : members.Server k ≡ members.Server j → k.0 ≡ j.0
      number_of x = cc

    -- a server whose core isn't called
    call_other : (k : ServerId) → IsHonestServer w.group k → k.0 ≢ j.0
        → ServerCall w v (facts_in new) lines serves.moved k (fresh_of k) (server_of old k) (server_of new k)
    call_other k h other =
        let was = tied.servers k h in
        let none = serves.of_others k other in
        subst (λ (f : List Statement). ServerCall w v (facts_in new) lines serves.moved k f (server_of old k) (server_of new k)) (sym (fresh_other k other))
        (subst (ServerCall w v (facts_in new) lines serves.moved k [] (server_of old k)) (sym (after_other k other)) (record {
          moves = record { seat = refl; signed = λ t there. inl there; made = λ sum there. inl (refl, there); round = inl (rests_so v k (server_of old k) lines none) };
          disciplined = was.disciplined;
          chains = record { grows = record { slots = refl; held = λ b there. there }; one_each = one_each k h; certified = λ b there. inl there };
          signed = no_more (server_of old k).signed;
          of_record = λ t there. absurd (nothing t there);
          put = λ t now. absurd (not_others k other (now.key ∙ serves.by_server now.at now.put now.new now.there now.own));
          settled = was.settled;
          ran = λ on. inl (on, refl);
          opened = λ r p line. absurd (none.opened r p line);
          spoiled = λ x r reason line. absurd (none.spoiled r x reason line);
          prev_held = λ b there. absurd (nothing _ there);
          certificates = λ r line. absurd (elim line [ inl a ↦ none.certified r a | inr a ↦ none.held r a ]);
          sent = λ n r t hn ne phase there. absurd (nothing t there);
          keeps_on = λ said stays there. there;
          runs_on = λ stays on. on;
          hears = λ x r t m phase carries now runs. absurd (serves.to_server k m other carries.to now);
          not_ahead = λ x r t m phase carries now. absurd (serves.to_server k m other carries.to now);
          key = refl;
          bent = refl;
          openings = was.openings;
        }))

    call_of : (k : ServerId) → IsHonestServer w.group k → ServerCall w v (facts_in new) lines serves.moved k (fresh_of k) (server_of old k) (server_of new k)
    call_of k h =
        elim (cases_eq k.0 j.0) [
          | inl same ↦ subst (λ (z : ServerId). ServerCall w v (facts_in new) lines serves.moved z (fresh_of z) (server_of old z) (server_of new z)) (sym (same_id k j same)) call_here
          | inr other ↦ call_other k h other
        ]

    abbrev servers_called : ServersCalled w v (facts_in old) (facts_in new) lines fresh_of
    servers_called = record {
      before = server_of old;
      after = server_of new;
      facts_before = λ k h. refl;
      facts_after = λ k h. refl;
      linked = λ k h. (tied.servers k h).linked;
      moves = λ k h. (call_of k h).moves;
      were_disciplined = λ k h. (tied.servers k h).disciplined;
      disciplined = λ k h. (call_of k h).disciplined;
      chains = λ k h. (call_of k h).chains;
      signed = λ k h. (call_of k h).signed;
      of_record = λ k t h there. (call_of k h).of_record t there;
      put = λ k t h now. (call_of k h).put t now;
    }

    same_client : (i : ClientId) → client_of new i ≡ client_of old i
    same_client i = λ t. client_of (record old { clients = serves.rest.clients t }) i

    not_client : (i : ClientId) → members.Client i ≡ members.Server j → ⊥
    not_client i e = absurd cc

    abbrev clients_called : ClientsCalled w v (facts_in old) (facts_in new)
    clients_called = record {
      before = client_of old;
      after = client_of old;
      facts_before = λ i h. refl;
      facts_after = λ i h. ap client_facts_of (same_client i);
      linked = λ i h. (tied.clients i h).linked;
      moves = λ i h. record {
        call = rests (record { who = refl; chain = refl; made = refl; signed = refl; signed_as_slot = refl; bent = refl });
        queue = (tied.clients i h).linked.queue ∙ sym (serves.texts i h);
        plains = λ m there mine. inl there;
      };
      clients = λ i h. (tied.clients i h).client;
      put = λ i t h now. absurd (not_client i (now.key ∙ serves.by_server now.at now.put now.new now.there now.own));
      put_accused = λ i slot t h owns now. absurd (not_client now.key.0 (now.key.2 ∙ serves.by_server now.at now.put now.new now.there now.own));
    }

    abbrev the_call : IsCall w (facts_in old) v (facts_in new)
    the_call = record {
      group = refl;
      lines = lines;
      fresh = fresh_of;
      grows = serves.grows;
      servers = servers_called;
      rounds = record {
        settled = λ k h on. (call_of k h).settled on;
        ran = λ k h on. (call_of k h).ran on;
        opened = λ k r p h line. (call_of k h).opened r p line;
        spoiled = λ k x r reason h line. (call_of k h).spoiled x r reason line;
        prev_held = λ k b h there. (call_of k h).prev_held b there;
        certificates = λ k r h line. (call_of k h).certificates r line;
      };
      clients = clients_called;
      messages = record {
        sound = tied.sound;
        moves = serves.moved;
        none_ahead = λ k h. (tied.servers k h).none_ahead;
        sent = λ x k r t hx hk ne phase there. (call_of x hx).sent k r t hk ne phase there;
        keeps_on = λ k said h stays there. (call_of k h).keeps_on said stays there;
        runs_on = λ k h stays on. (call_of k h).runs_on stays on;
        hears = λ x k r t m h phase carries now runs. (call_of k h).hears x r t m phase carries now runs;
        not_ahead = λ x k r t m h phase carries now. (call_of k h).not_ahead x r t m phase carries now;
      };
      judge = serves.judge;
    }

    -- ---- the parts are whole

    unmarked : is_marked old.group (members.Server j) ≡ false
    unmarked = (tied.whole.servers j.0 (Some c) (server_there old j c serves.here)).0 refl

    have_set : HaveServers old.group (slice_set old.servers j.0 (Some d))
    have_set k core at =
        elim (cases_eq k j.0) [
          | inl same ↦
              let is : core ≡ Some d = set_is old.servers j.0 k d core (server_within old j c serves.here) same at in (
                λ some. subst (λ (n : ℕ). is_marked old.group (members.Server (record { 0 = n })) ≡ false) (sym same) unmarked,
                λ mark. subst (λ (o : Option ServerView). IsSome o) (sym is) refl,
              )
          | inr other ↦ tied.whole.servers k core (set_other old.servers j.0 k d core other at)
        ]

    whole_after : IsWhole new
    whole_after = record {
      opens = serves.rest.opens ∙ tied.whole.opens ∙ sym serves.rest.roster;
      clients_long =
          ap (λ (cs : List (Option ClientView)). length cs) serves.rest.clients ∙ tied.whole.clients_long ∙ ap (λ (z : RosterView). length z.clients) (sym serves.rest.roster);
      servers_long =
          ap (λ (cs : List (Option ServerView)). length cs) serves.servers ∙ length-set old.servers j.0 (Some d) ∙ tied.whole.servers_long
          ∙ ap (λ (z : RosterView). length z.servers) (sym serves.rest.roster);
      left_long = serves.rest.left ∙ tied.whole.left_long ∙ ap (λ (z : RosterView). length z.clients) (sym serves.rest.roster);
      clients = subst (λ (z : MarkedGroup). HaveClients z new.clients) (sym serves.rest.group) (subst (HaveClients old.group) (sym serves.rest.clients) tied.whole.clients);
      servers = subst (λ (z : MarkedGroup). HaveServers z new.servers) (sym serves.rest.group) (subst (HaveServers old.group) (sym serves.servers) have_set);
      carried = carried w.group (log v) new serves.fits;
    }

    made_by_honest : (m : SumMade) → Contains sums m → IsHonestServer w.group m.server
    made_by_honest m there =
        elim (serves.sums_of m there) [
          | inl was ↦ tied.sums m was
          | inr now ↦ subst (IsHonestServer w.group) (sym now) (server_is_honest w old tied j c serves.here)
        ]

    pub served : IsTied v new
    served = still_tied w old new history w.plains sums tied the_call (record {
      whole = whole_after;
      group = group_fits_too w.group old new serves.rest.roster serves.rest.opens serves.rest.group tied.group;
      fits = serves.fits;
      servers = λ k h. refl;
      keys = λ k h. (call_of k h).key;
      straight = λ k h. (call_of k h).bent;
      clients = λ i h. sym (same_client i);
      openings = λ k h. (call_of k h).openings;
      plains_of = tied.plains;
      sums_of = made_by_honest;
    })
