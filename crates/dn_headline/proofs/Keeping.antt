-- What a call adds by the rules keeps the invariant.
use Rattle.std.proofs.Common.{◌≡◌, List, refl, sym, ap, subst, ◌∙◌, arith, inl, inr}
use Rattle.std.specs.Prelude.{Contains, ◌⊎◌}
use Rattle.std.proofs.lemmas.Option.{slice_get_within}
use Rattle.std.proofs.lemmas.List.Elements.{All-contains, Contains-append_left, Contains-append_cases}
use Rattle.dn_wire.specs.declared.ids.ClientId.{ClientId}
use Rattle.dn_wire.specs.declared.ids.ServerId.{ServerId}
use Rattle.dn_wire.specs.declared.ids.Round.{Round}
use Rattle.dn_wire.specs.declared.ids.SignerId.TheVariants.{Client, Server, Slot}
use Rattle.dn_told.specs.declared.told.WindowTold.TheVariants as tolds
use Rattle.dn_record_types.specs.declared.statement.Statement.{Statement}
use Rattle.dn_record_types.specs.declared.statement.Statement.TheVariants as kinds
use Rattle.dn_cert.specs.Chain.{ChainView, bodies}
use Rattle.dn_cert.proofs.Orders.{All-from_contains}
use Rattle.dn_report.specs.declared.outcome.Outcome.TheVariants as outcomes
use Rattle.dn_headline.specs.Group.{GroupView, IsHonestServer, IsHonestClient}
use Rattle.dn_headline.specs.Log.{Step, Message}
use Rattle.dn_headline.specs.Run.{RunView, PlainMade, SumMade, log}
use Rattle.dn_headline.specs.Certified.{IsCertified}
use Rattle.dn_headline.specs.Invariant.{Facts, ServerFacts, Invariant, Kept, Keeps, KeepsAll, HasSigned, IsInventory, IsCommit, IsReveal, IsSign, IsHeldChain, Signs, ClientSigns, PutIsSigned, KeptIsSaid, HeldIsPut, ServersKeepRules, ClientsKeepRules, RoundsGoOn, MessagesArrive, VerdictsAreRight, HasGoneOn, HasFate}
use Rattle.dn_headline.specs.Invariant.EndOf.{certified, given_up, spoiled_by, going_on}
use Rattle.dn_headline.specs.Step.{ChainFollows, IsUntouched, Follows}
use Rattle.dn_headline.proofs.Signing.{place_in}
use Rattle.dn_headline.proofs.Counts.{counts_are_one}
use Rattle.dn_headline.proofs.Layouts.{held_single}
use Rattle.dn_headline.proofs.Justifying.{HasMore}
use Rattle.dn_headline.proofs.Growing.{chain_layout_stays, put_stays, said_stays, had_cases, signed_cases, certified_stays, certified_at_stays, certificate_stays, server_fits_still, client_fits_still, cause_stays, verdict_stays}

module _ (w : RunView) (f g : Facts) (history : List Step) (plains : List PlainMade) (sums : List SumMade) (inv : Invariant w f)
    (added : Follows w f (record { group = w.group; history = history; plains = plains; sums = sums }) g) where
  abbrev v : RunView
  v = record { group = w.group; history = history; plains = plains; sums = sums }

  chain_held : (chain more : ChainView) → ChainFollows v chain more → IsHeldChain w chain → IsHeldChain v more
  chain_held chain more c held = record {
    slots = c.grows.slots ∙ held.slots;
    certified = All-from_contains (IsCertified v) (bodies more) (λ b has. elim (c.certified b has) [
      | inl old ↦ certified_stays w history plains sums added.lines added.grows b (All-contains (IsCertified w) (bodies chain) b held.certified old)
      | inr new ↦ new
    ]);
    one_each = c.one_each;
  }

  -- an honest server's chain has the layouts and the counts that it had
  has_more : (j : ServerId) → IsHonestServer w.group j → HasMore (f.server j).chain (g.server j).chain
  has_more j h =
      let chain = (f.server j).chain in
      let more = (g.server j).chain in
      let follows = added.servers.chains j h in
      let held = inv.held_is_put.servers j h in
      let longer = chain_held chain more follows held in record {
        layouts = λ r l after. chain_layout_stays chain more r l follows.grows after;
        counts = λ r l after. counts_are_one more chain r l l (held_single v more longer) (held_single w chain held)
            (λ b c hb hc e. follows.one_each b c hb (follows.grows.held c hc) e) (chain_layout_stays chain more r l follows.grows after) after;
      }

  signs : (j : ServerId) → IsHonestServer w.group j → (s : Statement) → Signs f j s → Signs g j s
  signs j h s old = subst (λ (ss : List Statement). Contains ss s) (sym (added.servers.signed j h)) (Contains-append_left (f.server j).signed (added.fresh j) s old)

  signs_cases : (j : ServerId) → IsHonestServer w.group j → (s : Statement) → Signs g j s → Signs f j s ⊎ Contains (added.fresh j) s
  signs_cases j h s new =
      Contains-append_cases (f.server j).signed (added.fresh j) s (subst (λ (ss : List Statement). Contains ss s) (added.servers.signed j h) new)

  client_signs : (i : ClientId) → IsHonestClient w.group i → (s : Statement) → ClientSigns f i s → ClientSigns g i s
  client_signs i h s old =
      subst (λ (ss : List Statement). Contains ss s) (sym (added.clients.signed i h)) (Contains-append_left (f.client i).signed (added.clients.fresh i) s old)

  client_signs_cases : (i : ClientId) → IsHonestClient w.group i → (s : Statement) → ClientSigns g i s → ClientSigns f i s ⊎ Contains (added.clients.fresh i) s
  client_signs_cases i h s new =
      Contains-append_cases (f.client i).signed (added.clients.fresh i) s (subst (λ (ss : List Statement). Contains ss s) (added.clients.signed i h) new)

  put_is_signed : PutIsSigned v g
  put_is_signed = record {
    servers = λ j s h c. elim (signed_cases w history plains sums added.lines added.grows (Server j) s c) [
      | inl old ↦ signs j h s (inv.put_is_signed.servers j s h old)
      | inr new ↦ added.servers.put j s h new
    ];
    clients = λ i s h c. elim (signed_cases w history plains sums added.lines added.grows (Client i) s c) [
      | inl old ↦ client_signs i h s (inv.put_is_signed.clients i s h old)
      | inr new ↦ added.clients.put i s h new
    ];
    slots = λ i slot s h owns c. elim (signed_cases w history plains sums added.lines added.grows (Slot slot) s c) [
      | inl old ↦ added.clients.accused i s h (inv.put_is_signed.slots i slot s h owns old)
      | inr new ↦ added.clients.put_accused i slot s h owns new
    ];
    said = λ j s h c. elim (signs_cases j h s c) [
      | inl old ↦ said_stays w history plains sums added.lines added.grows (Server j) s (inv.put_is_signed.said j s h old)
      | inr new ↦ added.servers.said j s h new
    ];
  }

  kept_is_said : KeptIsSaid v g
  kept_is_said j x s h k =
      elim (added.servers.kept j x s h k) [
        | inl old ↦ said_stays w history plains sums added.lines added.grows (Server x) s (inv.kept_is_said j x s h old)
        | inr new ↦ new
      ]

  held_is_put : HeldIsPut v g
  held_is_put = record {
    servers = λ j h. chain_held (f.server j).chain (g.server j).chain (added.servers.chains j h) (inv.held_is_put.servers j h);
    clients = λ i h. chain_held (f.client i).chain (g.client i).chain (added.clients.chains i h) (inv.held_is_put.clients i h);
  }

  servers : ServersKeepRules v g
  servers = record {
    one_each = λ j h place s t ss st ps pt. elim (signs_cases j h s ss) [
      | inr new ↦ added.servers.one_each j place s t h new st ps pt
      | inl old ↦ elim (signs_cases j h t st) [
        | inr new ↦ sym (added.servers.one_each j place t s h new ss pt ps)
        | inl other ↦ inv.servers.one_each j h place s t old other ps pt
      ]
    ];
    fit = λ j s h signed. elim (signs_cases j h s signed) [
      | inr new ↦ added.servers.fit j s h new
      | inl old ↦ server_fits_still w history plains sums added.lines added.grows f g j (added.servers.chains j h).grows (has_more j h) (signs j h) s
          (λ u i e told. elim (added.grows.new (outcomes.Told i j u.r tolds.Included) told) [
            | inl was ↦ was
            | inr line ↦ added.servers.told_open j i u.r u line h refl (subst (λ (x : Statement). Signs f j x) e old)
          ]) (inv.servers.fit j s h old)
    ];
    told_once = λ j i r told again h a b na nb. elim (added.grows.new (outcomes.Told i j r told) a) [
      | inr line ↦ added.servers.told_once j i r told again h line b na nb
      | inl old ↦ elim (added.grows.new (outcomes.Told i j r again) b) [
        | inr line ↦ sym (added.servers.told_once j i r again told h line a nb na)
        | inl other ↦ inv.servers.told_once j i r told again h old other na nb
      ]
    ];
  }

  clients : ClientsKeepRules v g
  clients = record {
    one_each = λ i r p q k l d e h a b. elim (client_signs_cases i h (kinds.Submission r p k d) a) [
      | inr new ↦ added.clients.one_each i r p q k l d e h new b
      | inl old ↦ elim (client_signs_cases i h (kinds.Submission r q l e) b) [
        | inr new ↦ sym (added.clients.one_each i r q p l k e d h new a)
        | inl other ↦ inv.clients.one_each i r p q k l d e h old other
      ]
    ];
    fit = λ i s h signed. elim (client_signs_cases i h s signed) [
      | inr new ↦ added.clients.fit i s h new
      | inl old ↦ client_fits_still w history plains sums added.lines added.grows f g i (added.clients.chains i h).grows s (inv.clients.fit i s h old)
    ];
  }

  -- ---- rounds

  module _ (j : ServerId) (r : Round) (same : IsUntouched w v f g j) where
    kept_now : (x : ServerId) (s : Statement) → Keeps f j x s → Keeps g j x s
    kept_now x s h = subst (λ (z : ServerFacts). (k : Kept) × Contains z.kept k × (k.by ≡ Server x) × (k.statement ≡ s)) (sym same.facts) h

    kept_then : (x : ServerId) (s : Statement) → Keeps g j x s → Keeps f j x s
    kept_then x s h = subst (λ (z : ServerFacts). (k : Kept) × Contains z.kept k × (k.by ≡ Server x) × (k.statement ≡ s)) same.facts h

    signs_then : (s : Statement) → Signs g j s → Signs f j s
    signs_then s h = subst (λ (z : ServerFacts). Contains z.signed s) same.facts h

    signs_now : (s : Statement) → Signs f j s → Signs g j s
    signs_now s h = subst (λ (z : ServerFacts). Contains z.signed s) (sym same.facts) h

    signed_now : (Is : Statement → Type 0) → HasSigned f j Is → HasSigned g j Is
    signed_now Is h = (h.0, signs_now h.0 h.1, h.2)

    signed_then : (Is : Statement → Type 0) → HasSigned g j Is → HasSigned f j Is
    signed_then Is h = (h.0, signs_then h.0 h.1, h.2)

    all_then : (Is : Statement → Type 0) → KeepsAll v g j Is → KeepsAll w f j Is
    all_then Is h x server = let k = h x server in (k.0, kept_then x k.0 k.1, k.2)

    goes_on_still : HasGoneOn w f j r → HasGoneOn v g j r
    goes_on_still h = record {
      own_kept = λ s signed phase. kept_now j s (h.own_kept s (signs_then s signed) phase);
      inventory = λ count closed. signed_now (IsInventory r) (h.inventory count (same.closed r count closed));
      commit = λ signed all. elim (h.commit (signed_then (IsInventory r) signed) (all_then (IsInventory r) all)) [
        | inl c ↦ inl (signed_now (IsCommit r) c)
        | inr s ↦ inr (signed_now (IsSign r) s)
      ];
      reveal = λ signed all. signed_now (IsReveal r) (h.reveal (signed_then (IsCommit r) signed) (all_then (IsCommit r) all));
      sign = λ signed all. signed_now (IsSign r) (h.sign (signed_then (IsReveal r) signed) (all_then (IsReveal r) all));
      goes_on = λ b round signed all. h.goes_on b round (signs_then (kinds.Sign b) signed) (λ x server. kept_then x (kinds.Sign b) (all x server));
    }

  rounds : RoundsGoOn v g
  rounds = record {
    opened_once = λ j r p q h a b. elim (added.grows.new (outcomes.Opened j r p) a) [
      | inr line ↦ added.rounds.opened_once j r p q h line b
      | inl old ↦ elim (added.grows.new (outcomes.Opened j r q) b) [
        | inr line ↦ sym (added.rounds.opened_once j r q p h line a)
        | inl other ↦ inv.rounds.opened_once j r p q h old other
      ]
    ];
    ends = λ j r p h opened. elim (added.grows.new (outcomes.Opened j r p) opened) [
      | inr line ↦ added.rounds.ends j r p h opened (inl line)
      | inl old ↦ elim (inv.rounds.ends j r p h old) [
        | certified c ↦ certified (certificate_stays w history plains sums added.lines added.grows j r c)
        | given_up a ↦ given_up (added.grows.happened (outcomes.Abandoned j r) a)
        | spoiled_by x reason a ↦ spoiled_by x reason (added.grows.happened (outcomes.Spoiled j r x reason) a)
        | going_on runs ↦ added.rounds.ends j r p h opened (inr runs)
      ]
    ];
    gone_on = λ j r h runs. elim (added.rounds.gone_on j r h runs) [
      | inr new ↦ new
      | inl same ↦ goes_on_still j r same (inv.rounds.gone_on j r h (record {
        last = ap (λ (z : ServerFacts). z.last) (sym same.facts) ∙ runs.last;
        runs = ap (λ (z : ServerFacts). z.runs) (sym same.facts) ∙ runs.runs;
      }))
    ];
    spoiled = λ j x r reason h a. elim (added.grows.new (outcomes.Spoiled j r x reason) a) [
      | inr line ↦ added.rounds.spoiled j x r reason h line
      | inl old ↦ cause_stays w history plains sums added.lines added.grows f g j (added.servers.chains j h).grows (has_more j h) (signs j h) r x (inv.rounds.spoiled j x r reason h old)
    ];
    prev_before = λ j n b h had. elim (had_cases w history plains sums added.lines added.grows n (Server j) (kinds.Sign b) had) [
      | inl old ↦ elim (inv.rounds.prev_before j n b h old) [
        | inl z ↦ inl z
        | inr c ↦ inr (c.0, c.1, c.2, certified_at_stays w history plains sums added.lines added.grows c.0 c.1 c.3, c.4)
      ]
      | inr new ↦ elim (added.rounds.prev_before j b h new.0) [
        | inl z ↦ inl z
        | inr c ↦
            let cert = c.1 in
            let at = place_in (log w).puts cert.put cert.there in
            let within = slice_get_within (log w).puts at.0 cert.put at.1 in
            let behind = new.1 in
            inr (
              at.0,
              c.0,
              omega arith,
              certified_at_stays w history plains sums added.lines added.grows at.0 c.0
                  (record { put = cert.put; there = at.1; certificate = cert.certificate; is = cert.is; body = cert.body }),
              c.2,
            )
      ]
    ];
    certificates = λ j r h cert. elim (added.rounds.certificates j r h cert) [
      | inl old ↦ let holds = inv.rounds.certificates j r h old in (holds.0, (added.servers.chains j h).grows.held holds.0 holds.1, holds.2)
      | inr new ↦ new
    ];
  }

  -- ---- messages

  messages : MessagesArrive v g
  messages = record {
    was_put = λ m delivered. elim (added.messages.was_put m delivered) [
      | inl old ↦ let p = inv.messages.was_put m old in (p.0, put_stays w history plains sums added.lines added.grows p.0 p.1, p.2)
      | inr new ↦ new
    ];
    sent = λ x j r s hx hj ne phase signed. elim (signs_cases x hx s signed) [
      | inr new ↦ added.messages.sent x j r s hx hj ne phase new
      | inl old ↦
          let m = inv.messages.sent x j r s hx hj ne phase old in
          let carries = m.1 in (
            m.0,
            record { from = carries.from; to = carries.to; own = carries.own; says = carries.says },
            elim m.2 [
              | inl delivered ↦ inl (added.grows.delivered m.0 delivered)
              | inr rest ↦ elim rest [
                | inl lost ↦ inr (inl (added.grows.lost m.0 lost))
                | inr flies ↦ subst (HasFate v) flies.2 (added.messages.flies flies.0 x flies.1 (ap (λ (z : Message). z.from) flies.2 ∙ carries.from))
              ]
            ],
          )
    ];
    kept = λ x j r s m h phase carries delivered runs. elim (added.messages.kept x j r s m h phase carries delivered runs) [
      | inr new ↦ new
      | inl old ↦ old.2 (inv.messages.kept x j r s m h phase (record { from = carries.from; to = carries.to; own = carries.own; says = carries.says }) old.0 old.1)
    ];
  }

  verdicts : VerdictsAreRight v
  verdicts = record {
    judged = λ s r k there judges. elim (added.verdicts.judged s r k there judges) [
      | inr new ↦ new
      | inl old ↦ elim (inv.verdicts.judged s r k old judges) [
        | inl none ↦ inl none
        | inr verdict ↦ inr (verdict_stays w history plains sums added.lines added.grows r k s.outcomes verdict)
      ]
    ];
    alone = λ s m reason there line. elim (added.verdicts.alone s m reason there line) [
      | inl old ↦ inv.verdicts.alone s m reason old line
      | inr new ↦ new
    ];
  }

  stays : Invariant v g
  stays = record {
    put_is_signed = put_is_signed;
    kept_is_said = kept_is_said;
    held_is_put = held_is_put;
    servers = servers;
    clients = clients;
    plains = added.clients.plains;
    rounds = rounds;
    messages = messages;
    verdicts = verdicts;
    seeds = inv.seeds;
  }

pub calls_keep_the_invariant_lem : (w : RunView) (f : Facts) (v : RunView) (g : Facts) → Invariant w f → Follows w f v g → Invariant v g
calls_keep_the_invariant_lem w f v g inv follows =
    let with_group : GroupView → RunView = λ z. record { group = z; history = v.history; plains = v.plains; sums = v.sums } in
    let same : v ≡ with_group w.group = ap with_group follows.group in
    subst (λ (z : RunView). Invariant z g) (sym same)
    (stays w f g v.history v.plains v.sums inv (subst (λ (z : RunView). Follows w f z g) same follows))
