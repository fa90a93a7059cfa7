-- What a server needs to look at a place.
use Rattle.std.proofs.Common.{◌≡◌, ◌≢◌, ℕ, ◌<◌, false, List, refl, sym, ap, ◌∙◌, subst, length, cond, [], ◌∷◌, inl, inr}
use Rattle.std.specs.Prelude.{Contains, All}
use Rattle.std.proofs.lemmas.List.Elements.{All-filter}
use Rattle.dn_record_types.specs.declared.body.Body.{Body}
use Rattle.dn_roster.specs.Roster.{RosterView}
use Rattle.dn_seal.specs.Said.{SaidView, IsUnder}
use Rattle.dn_trace.specs.Trial.{Trial}
use Rattle.dn_openings.specs.Evidence.{is_opening, openings_of, HasOpened}
use Rattle.dn_openings.proofs.DueLemmas.{AreOpenings, openings_open, opened_so}
use Rattle.dn_layout.specs.Layout.{bits_of}
use Rattle.dn_cert.specs.Certificate.{IsOfRoster}
use Rattle.dn_cert.specs.Chain.{ChainView, bodies, Holds, IsChain, IsLayoutAfter}
use Rattle.dn_cert.proofs.ChainLemmas.{one_body, has_layout, layout_is_one_lem}
use Rattle.dn_server.specs.declared.places.Place.{Place}
use Rattle.dn_server.specs.Server.{ServerView, servers_in}
use Rattle.dn_server.specs.declared.act.Act.{Act}
use Rattle.dn_wire.specs.declared.ids.Member.{Member}
use Rattle.dn_openings.specs.Challenging.{CanLook, IsTrialAt, IsComplete, AllOpened, AreDueAt, IsCall, LooksAt, finds_nobody, finds_fault, challenges, with_looked}

-- what a body and its layout have, where the server can look at the place
pub record IsLooked (v : ServerView) (place : Place) (b : Body) (layout : List ℕ) : Type 0 where
  pub within : place.k < bits_of layout
  pub digests : length b.digests ≡ length v.seat.roster.servers
  pub listed : All (λ l. (l.client.0 < length v.seat.roster.clients) × (l.server.0 < length v.seat.roster.servers)) b.listed

-- the output of a body with data is as long as its layout
pub long_output : (chain : ChainView) (b : Body) (layout : List ℕ) → IsChain chain → Contains (bodies chain) b → b.thin ≡ false
    → IsLayoutAfter chain b.prev.0 layout → length b.out ≡ bits_of layout
long_output chain b layout is held full after =
    let due = is.long b held in
    let same : due.0 ≡ layout = layout_is_one_lem chain b.prev.0 due.0 layout is due.1 after in
    due.2 ∙ ap (λ t. cond t 0 (bits_of due.0)) full ∙ ap bits_of same

module _ (v : ServerView) (place : Place) (can : CanLook v place) (chain : IsChain v.chain) (b : Body) (held : Contains (bodies v.chain) b) (round : b.r ≡ place.r) where
  same_body : can.body ≡ b
  same_body = one_body v.chain chain can.body b can.held held (ap (λ r. r.0) (can.round ∙ sym round))

  full : b.thin ≡ false
  full = subst (λ x. x.thin ≡ false) same_body can.full

  in_group : IsOfRoster v.seat.roster b
  in_group = subst (IsOfRoster v.seat.roster) same_body can.in_group

  pub looked : (layout : List ℕ) → IsLayoutAfter v.chain b.prev.0 layout → IsLooked v place b layout
  looked layout after =
      let within : place.k < length b.out = subst (λ x. place.k < length x.out) same_body can.within in
      let long = long_output v.chain b layout chain held full after in
      record {
        within = subst (λ n. place.k < n) long within;
        digests = in_group.digests ∙ ap (λ t. cond t 0 (length v.seat.roster.servers)) full;
        listed = in_group.listed;
      }

  -- there is a layout
  pub laid_out : ((b.prev.0 ≢ 0) × (¬ Holds v.chain b.prev.0)) → ⊥
  laid_out none =
      let due = chain.long b held in
      none.1 (has_layout v.chain b.prev.0 due.0 none.0 due.1)

  module _ (layout : List ℕ) (after : IsLayoutAfter v.chain b.prev.0 layout) (roster : RosterView) (same : roster ≡ v.seat.roster) (given : List SaidView) (are : given ≡ openings_of v.evidence place) where
    abbrev pub trial : Trial
    trial = record { roster = roster; body = b; layout = layout; k = place.k; given = given }

    pub digests_so : length b.digests ≡ length roster.servers
    digests_so = (looked layout after).digests ∙ ap (λ (r : RosterView). length r.servers) (sym same)

    pub listed_so : All (λ l. (l.client.0 < length roster.clients) × (l.server.0 < length roster.servers)) b.listed
    listed_so =
        subst (λ (r : RosterView). All (λ l. (l.client.0 < length r.clients) × (l.server.0 < length r.servers)) b.listed) (sym same)
        (looked layout after).listed

    pub under_so : All (IsUnder roster) given
    under_so =
        subst (λ (r : RosterView). All (IsUnder r) given) (sym same)
        (subst (All (IsUnder v.seat.roster)) (sym are)
        (All-filter (λ x. is_opening place.r place.k x.statement) (IsUnder v.seat.roster) v.evidence can.under))

    pub open_so : AreOpenings place given
    open_so = subst (AreOpenings place) (sym are) (openings_open v.evidence place)

    pub complete_so : ((j : ℕ) → j < length v.seat.roster.servers → HasOpened v.evidence place j) → IsComplete trial
    complete_so all j lt =
        let in_roster : j < length v.seat.roster.servers = subst (λ (r : RosterView). j < length r.servers) same lt in
        opened_so place trial open_so v.evidence are round refl j (all j in_roster)

    pub is_trial : IsTrialAt v place trial
    is_trial = record { roster = same; held = held; round = round; after = after; at = refl; given = are }

-- what is done and what the server is then, where all have opened
pub calls : (v : ServerView) (place : Place) (to : List Member) (did : List Act) → ¬ Contains v.challenged place → AllOpened v place → AreDueAt v place to
    → IsCall v.evidence place (servers_in v) to did → LooksAt v place did (with_looked v place)
calls v place [] did new all due call = elim due.2 [
  | inl named ↦ finds_nobody due.0 new all due.1 named.0 named.1 call refl
  | inr fault ↦ finds_fault due.0 new all due.1 fault.0 call refl
]
calls v place (first ∷ others) did new all due call = elim due.2 [
  | inl named ↦ challenges due.0 first others call.0 new all due.1 named.0 named.1 call.1 call.2 refl
  | inr fault ↦ cc
]

-- the layout before a body that is held is there
pub has_prev : (chain : ChainView) (b : Body) → IsChain chain → Contains (bodies chain) b → ((b.prev.0 ≢ 0) × (¬ Holds chain b.prev.0)) → ⊥
has_prev chain b is held none = let due = is.long b held in none.1 (has_layout chain b.prev.0 due.0 none.0 due.1)
