-- A world as it is made is tied to the run in which nothing has happened.
use Rattle.std.proofs.Common.{◌≡◌, ℕ, zero, suc, ◌+◌, ◌*◌, ◌<◌, ◌≤◌, List, [], ◌∷◌, map, length, get_or, refl, sym, ap, subst, ◌∙◌, arith, true, false, Bool}
use Rattle.std.specs.Prelude.{Contains, ◌↔◌, Option, Some, None, IsSome, slice_get, slice_index_or}
use Rattle.std.specs.List.{list_any, range_with_len}
use Rattle.std.proofs.lemmas.Option.{same_Some, slice_get_within, slice_get-get_or, get_or_from_slice_get}
use Rattle.std.proofs.lemmas.List.{length-replicate}
use Rattle.std.proofs.lemmas.List.FromFn.{length-map-range_with_len}
use Rattle.dn_wire.specs.declared.ids.ClientId.{ClientId}
use Rattle.dn_wire.specs.declared.ids.ServerId.{ServerId}
use Rattle.dn_wire.specs.declared.ids.Member.{Member}
use Rattle.dn_wire.specs.declared.ids.Member.TheVariants as members
use Rattle.dn_bits.specs.Bits.{below}
use Rattle.dn_hash.specs.Digests.{seed_commitment_of}
use Rattle.dn_lms.specs.Signature.{public_key}
use Rattle.dn_roster.specs.declared.group.GroupSpec.{GroupSpec}
use Rattle.dn_roster.specs.Dealing.{mask_secret_of}
use Rattle.dn_roster.specs.Roster.{RosterView, key_of}
use Rattle.dn_seal.specs.Dealt.{client, server, key_dealt_to, seed_dealt_to, each_pair, keys_dealt_to}
use Rattle.dn_seal.proofs.ListLemmas.{length-public_keys}
use Rattle.dn_seal.proofs.DealtLemmas.{slice_get-first, key_of-member, slice_get-each_pair, commitment_of-pair}
use Rattle.dn_seal.specs.Said.{SaidView}
use Rattle.dn_cert.proofs.Orders.{nothing, All-from_contains}
use Rattle.dn_client.specs.Client.{ClientView}
use Rattle.dn_server.specs.Server.{ServerView}
use Rattle.dn_exchange.specs.Making.{first_server, IsGroup}
use Rattle.dn_exchange.proofs.FirstSound.{first_sound, none_claimed}
use Rattle.dn_exchange.proofs.CallsWhole.{first_whole, whole_disciplined}
use Rattle.dn_payloads.specs.Payloads.{PayloadView, PayloadsView}
use Rattle.dn_flight.specs.declared.msg.Msg.{Msg}
use Rattle.dn_flight.specs.Flight.{FlightView}
use Rattle.dn_audit.specs.Group.{is_corrupt as is_marked, is_member as is_named}
use Rattle.dn_state.specs.Parts.{PartsView, IsWhole, HaveClients, HaveServers}
use Rattle.dn_state.specs.Members.{client_at, core_in}
use Rattle.dn_state.specs.Beginning.{Begins, IsFirstClient, IsClientPlace, server_place}
use Rattle.dn_headline.specs.Group.{GroupView, clients_of, servers_of, seed_of, is_member, is_corrupt, IsHonestServer, IsHonestClient}
use Rattle.dn_headline.specs.Log.{with_steps}
use Rattle.dn_headline.specs.Run.{RunView, log}
use Rattle.dn_headline.specs.Certified.{IsChainOf}
use Rattle.dn_headline.specs.Certified.IsChainOf.{empty}
use Rattle.dn_headline.specs.Invariant.{seat_of}
use Rattle.dn_headline.specs.Step.{first_run, HoldsNone, Begins as RunBegins}
use Rattle.dn_headline.proofs.Beginning.{begun}
use Rattle.dn_links.proofs.BeginningLinks.{client_begins, messages_begin, none_ahead_begins, server_begins}
use Rattle.dn_steps.specs.Cores.{server_of, client_of, facts_in}
use Rattle.dn_steps.specs.Fitting.{FitsGroup, FitsLog, IsAmong}
use Rattle.dn_steps.specs.Tied.{IsTied, IsServerTied, IsClientTied}
use Rattle.dn_steps.specs.Dealt.{IsDealtGroup}
use Rattle.dn_steps.proofs.Members.{server_core_is, client_core_is}

-- ---- lists

same_over : {A : Type 0} (f g : ℕ → A) (a n : ℕ) → ((i : ℕ) → a ≤ i → i < a + n → f i ≡ g i) → map f (range_with_len a n) ≡ map g (range_with_len a n)
same_over f g a zero same = refl
same_over f g a (suc n) same = λ t. same a (omega arith) (omega arith) t ∷ same_over f g (a + 1) n (λ i low high. same i (omega arith) (omega arith)) t

same_any : (f g : Member → Bool) → ((m : Member) → f m ≡ g m) → (ms : List Member) → list_any f ms ≡ list_any g ms
same_any f g same ms = ap (λ (h : Member → Bool). list_any h ms) (λ t m. same m t)

same_name : (a b : Member) → is_named a b ≡ is_member a b
same_name (members.Client i) (members.Client k) = refl
same_name (members.Client i) (members.Server k) = refl
same_name (members.Server j) (members.Client k) = refl
same_name (members.Server j) (members.Server k) = refl

module _ (group : GroupSpec) (owners : List ClientId) (corrupt : List Member) (workers : ℕ) (g : GroupView) (parts : PartsView) (dealt : IsDealtGroup group owners corrupt g)
    (begins : Begins group g.roster owners corrupt workers parts) (some : 1 ≤ workers) (few : workers ≤ 16) where
  abbrev w : RunView
  w = first_run g

  pub clients_are : clients_of g ≡ group.clients
  clients_are = ap (λ (r : RosterView). length r.clients) dealt.roster ∙ length-public_keys group client group.clients (map public_key (keys_dealt_to group client group.clients)) refl

  pub servers_are : servers_of g ≡ group.servers
  servers_are = ap (λ (r : RosterView). length r.servers) dealt.roster ∙ length-public_keys group server group.servers (map public_key (keys_dealt_to group server group.servers)) refl

  -- ---- the group

  marks : (m : Member) → IsAmong g m → is_marked parts.group m ≡ is_corrupt g m
  marks (members.Client i) among =
      begins.members.of_clients i (subst (λ (n : ℕ). i.0 < n) clients_are among) ∙ same_any (is_named (members.Client i)) (is_member (members.Client i)) (same_name (members.Client i)) corrupt
      ∙ ap (list_any (is_member (members.Client i))) (sym dealt.marked)
  marks (members.Server j) among =
      begins.members.of_servers j (subst (λ (n : ℕ). j.0 < n) servers_are among) ∙ same_any (is_named (members.Server j)) (is_member (members.Server j)) (same_name (members.Server j)) corrupt
      ∙ ap (list_any (is_member (members.Server j))) (sym dealt.marked)

  pub fits_group : FitsGroup g parts
  fits_group = record {
    is_roster = dealt.is_roster;
    roster = begins.roster_is;
    opens = ap (λ (v : PayloadsView). v.roster) begins.payloads;
    owners = begins.members.owned ∙ sym dealt.owned;
    corrupt = marks;
  }

  -- ---- the cores

  abbrev place : ℕ → Option ServerView
  place j = server_place group g.roster workers j (is_marked parts.group (members.Server (record { 0 = j })))

  server_there : (j : ℕ) → j < group.servers → slice_get parts.servers j ≡ Some (place j)
  server_there j within = ap (λ (cs : List (Option ServerView)). slice_get cs j) begins.servers ∙ slice_get-first place group.servers j within

  servers_long : length parts.servers ≡ group.servers
  servers_long = ap (λ (cs : List (Option ServerView)). length cs) begins.servers ∙ length-map-range_with_len place 0 group.servers

  place_some : (j : ℕ) (t : Bool) → IsSome (server_place group g.roster workers j t) ↔ (t ≡ false)
  place_some j true = ((λ e. absurd cc), (λ e. absurd cc))
  place_some j false = ((λ e. refl), (λ e. refl))

  have_servers : HaveServers parts.group parts.servers
  have_servers j core at =
      let within = subst (λ (n : ℕ). j < n) servers_long (slice_get_within parts.servers j core at) in
      let is = same_Some core (place j) (sym at ∙ server_there j within) in
      subst (λ (o : Option ServerView). IsSome o ↔ (is_marked parts.group (members.Server (record { 0 = j })) ≡ false)) (sym is)
      (place_some j (is_marked parts.group (members.Server (record { 0 = j }))))

  client_some : (i : ClientId) (t : Bool) (at : Option ClientView) → IsClientPlace group g.roster i t at → IsSome at ↔ (t ≡ false)
  client_some i true at is = ((λ e. absurd (no_core at e is)), (λ e. absurd cc)) where
    no_core : (o : Option ClientView) → IsSome o → o ≡ None → ⊥
    no_core (Some c) e n = absurd cc
    no_core None e n = absurd cc
  client_some i false None is = absurd is
  client_some i false (Some core) is = ((λ e. refl), (λ e. refl))

  have_clients : HaveClients parts.group parts.clients
  have_clients i core at = client_some (record { 0 = i }) (is_marked parts.group (members.Client (record { 0 = i }))) core (begins.clients.each (record { 0 = i }) core at)

  whole : IsWhole parts
  whole = record {
    opens = ap (λ (v : PayloadsView). v.roster) begins.payloads ∙ sym begins.roster_is;
    clients_long = begins.clients.long ∙ sym clients_are ∙ ap (λ (r : RosterView). length r.clients) (sym begins.roster_is);
    servers_long = servers_long ∙ sym servers_are ∙ ap (λ (r : RosterView). length r.servers) (sym begins.roster_is);
    left_long =
        ap (λ (ls : List Bool). length ls) begins.left ∙ length-replicate {A = Bool} group.clients false ∙ sym clients_are
        ∙ ap (λ (r : RosterView). length r.clients) (sym begins.roster_is);
    clients = have_clients;
    servers = have_servers;
    carried = All-from_contains (λ (m : Msg). m.payload < length parts.payloads.items) parts.flight.msgs
        (λ m h. absurd (nothing m (subst (λ (f : FlightView). Contains f.msgs m) begins.flight h)));
  }

  -- ---- the log

  fits_log : FitsLog g (log w) parts
  unfolding with_steps
  fits_log = record {
    payloads = record {
      numbers = ap (λ (v : PayloadsView). map (λ (x : PayloadView). x.bytes) v.items) (sym begins.payloads);
      put = λ x h. absurd (nothing x (subst (λ (v : PayloadsView). Contains v.items x) begins.payloads h));
      content = λ x h. absurd (nothing x (subst (λ (v : PayloadsView). Contains v.items x) begins.payloads h));
    };
    flight = record {
      next = ap (λ (f : FlightView). f.next) begins.flight;
      numbers = ap (λ (f : FlightView). map (λ (m : Msg). m.id) f.msgs) (sym begins.flight);
      messages = λ m h. absurd (nothing m (subst (λ (f : FlightView). Contains f.msgs m) begins.flight h));
    };
    chain = subst (IsChainOf g.roster (clients_of g) []) (ap (λ (n : ℕ). record { slots = n; held = [] }) clients_are ∙ sym begins.chain) empty;
    heard = λ said h. absurd (nothing said (subst (λ (ss : List SaidView). Contains ss said) begins.heard h));
  }

  -- ---- servers

  pub seed_is : (i j : ℕ) → i < group.clients → j < group.servers → seed_of g i j ≡ seed_dealt_to group i j
  seed_is i j low high =
      ap (λ (n : ℕ). slice_index_or g.seeds (i * n + j) []) servers_are ∙ ap (λ (ss : List (List ℕ)). slice_index_or ss (i * group.servers + j) []) dealt.seeds
      ∙ get_or_from_slice_get (each_pair (seed_dealt_to group) group.clients group.servers) (i * group.servers + j) (seed_dealt_to group i j) []
      (slice_get-each_pair (seed_dealt_to group) group.clients group.servers i j low high)

  abbrev first : ℕ → ServerView
  first j = first_server group g.roster j workers

  is_group : IsGroup group g.roster
  is_group = record { is = dealt.is_roster; clients = clients_are; servers = servers_are }

  module _ (j : ServerId) (h : IsHonestServer g j) where
    within : j.0 < group.servers
    within = subst (λ (n : ℕ). j.0 < n) servers_are h.server

    unmarked : is_marked parts.group (members.Server j) ≡ false
    unmarked = marks (members.Server j) h.server ∙ h.honest

    server_is : server_of parts j ≡ first j.0
    server_is = server_core_is parts j (first j.0)
        (ap core_in (server_there j.0 within ∙ ap (λ (t : Bool). Some (server_place group g.roster workers j.0 t)) unmarked))

    known : key_of g.roster (server j.0) ≡ Some (public_key (key_dealt_to group (server j.0)))
    known = key_of-member group g.roster dealt.roster (server j.0) within

    seat_is : (first j.0).seat ≡ seat_of g j
    seat_is = λ t. record {
      roster = g.roster;
      number = j.0;
      seeds = (ap (λ (n : ℕ). map (λ i. seed_dealt_to group i j.0) (below n)) (sym clients_are)
          ∙ same_over (λ i. seed_dealt_to group i j.0) (λ i. seed_of g i j.0) 0 (clients_of g)
          (λ i low high. sym (seed_is i j.0 (subst (λ (n : ℕ). i < n) clients_are (omega (arith, high))) within))) t;
    }

    server_tied : IsServerTied w j (server_of parts j)
    server_tied = subst (IsServerTied w j) (sym server_is) (record {
      linked = server_begins g j (first j.0) seat_is
          (record { round = refl; claims = λ i claim at. none_claimed group.clients i.0 claim at; kept = refl; signed = refl; sum = λ sum e. absurd cc });
      key = known;
      straight = refl;
      disciplined = whole_disciplined (first j.0)
          (first_whole group g.roster j.0 workers is_group (first_sound group g.roster j.0 workers is_group within some few known (dealt.keys j.0 within))) refl;
      settled = λ on. absurd cc;
      none_ahead = none_ahead_begins g j (first j.0);
      openings = record { evidence = λ said at. absurd (nothing said at); opened = λ place at. absurd (nothing place at) };
    })

    server_none : HoldsNone g (server_of parts j).chain × ((server_of parts j).run.is_running ≡ false) × ((server_of parts j).run.kept ≡ []) × ((server_of parts j).signed ≡ [])
    server_none =
        subst (λ (c : ServerView). HoldsNone g c.chain × (c.run.is_running ≡ false) × (c.run.kept ≡ []) × (c.signed ≡ [])) (sym server_is)
        (record { slots = sym clients_are; none = refl }, refl, refl, refl)

  -- ---- clients

  module _ (i : ClientId) (h : IsHonestClient g i) where
    client_low : i.0 < group.clients
    client_low = subst (λ (n : ℕ). i.0 < n) clients_are h.client

    core_of : (t : Bool) (at : Option ClientView) → t ≡ false → slice_get parts.clients i.0 ≡ Some at → IsClientPlace group g.roster i t at
        → (core : ClientView) × (client_at parts i ≡ Some core) × IsFirstClient group g.roster i core
    core_of true at e there is = absurd cc
    core_of false None e there is = absurd is
    core_of false (Some core) e there is = (core, ap core_in there, is)

    core : (core : ClientView) × (client_at parts i ≡ Some core) × IsFirstClient group g.roster i core
    core =
        let none : Option ClientView = None in
        let at = slice_get-get_or parts.clients i.0 none (subst (λ (n : ℕ). i.0 < n) (sym begins.clients.long) client_low) in
        core_of (is_marked parts.group (members.Client i)) (get_or parts.clients i.0 none) (marks (members.Client i) h.client ∙ h.honest) at
        (begins.clients.each i (get_or parts.clients i.0 none) at)

    client_is : client_of parts i ≡ core.0
    client_is = client_core_is parts i core.0 core.1

    client_tied : IsClientTied w i (client_of parts i)
    client_tied =
        let c = core.0 in
        let is = core.2 in
        subst (IsClientTied w i) (sym client_is) (record {
          linked = client_begins g i c is.dealt.me is.within
              (ap (λ (os : List ClientId). slice_get os c.who.slot.0) dealt.owned ∙ is.dealt.owner owners dealt.in_order)
              (is.dealt.seeds ∙ ap (λ (n : ℕ). map (seed_dealt_to group i.0) (range_with_len 0 n)) (sym servers_are)
              ∙ same_over (seed_dealt_to group i.0) (λ j. seed_of g i.0 j) 0 (servers_of g)
              (λ j low high. sym (seed_is i.0 j client_low (subst (λ (n : ℕ). j < n) servers_are (omega (arith, high))))))
              (ap (λ (ms : List (List ℕ)). slice_get ms i.0) dealt.masks ∙ slice_get-first (mask_secret_of group.seed) group.clients i.0 client_low ∙ ap Some (sym is.dealt.mask))
              (ap (λ (z : ClientView). z.bent) is.fresh) (ap (λ (z : ClientView). z.queue) is.fresh) (ap (λ (z : ClientView). z.made) is.fresh);
          client = is.client;
        })

    client_none : HoldsNone g (client_of parts i).chain × ((client_of parts i).signed ≡ []) × ((client_of parts i).signed_as_slot ≡ [])
    client_none =
        let is = core.2 in
        subst (λ (c : ClientView). HoldsNone g c.chain × (c.signed ≡ []) × (c.signed_as_slot ≡ [])) (sym client_is) (
          record { slots = ap (λ (z : ClientView). z.chain.slots) is.fresh ∙ sym clients_are; none = ap (λ (z : ClientView). z.chain.held) is.fresh },
          ap (λ (z : ClientView). z.signed) is.fresh,
          ap (λ (z : ClientView). z.signed_as_slot) is.fresh,
        )

  -- ---- the invariant

  run_begins : RunBegins g (facts_in parts)
  run_begins = record {
    servers = λ j h. let n = server_none j h in (n.0, n.1, ap (map _) n.2, n.3);
    clients = client_none;
    seeds = λ i j low high.
        let low_is = subst (λ (n : ℕ). i < n) clients_are low in
        let high_is = subst (λ (n : ℕ). j < n) servers_are high in
        commitment_of-pair group g.roster dealt.roster i j low_is high_is
        ∙ ap (λ (s : List ℕ). Some (seed_commitment_of i j s)) (sym (seed_is i j low_is high_is));
  }

  pub tie_begins : IsTied w parts
  tie_begins = record {
    whole = whole;
    group = fits_group;
    fits = fits_log;
    sound = messages_begin g;
    servers = server_tied;
    clients = client_tied;
    plains = λ m h. absurd (nothing m h);
    sums = λ m h. absurd (nothing m h);
    invariant = begun g (facts_in parts) run_begins;
  }
