-- What a call does to rounds, by what cores promise, follows the rules of runs.
use Rattle.std.proofs.Common.{◌≡◌, ℕ, List, sym, ap, subst, ◌∙◌, arith, inl, inr}
use Rattle.std.specs.Prelude.{Contains, ◌⊎◌}
use Rattle.std.proofs.lemmas.List.Elements.{All-contains, Contains-append_cases}
use Rattle.dn_wire.specs.declared.ids.ServerId.{ServerId}
use Rattle.dn_wire.specs.declared.ids.Round.{Round}
use Rattle.dn_wire.specs.declared.ids.Member.TheVariants as members
use Rattle.dn_record_types.specs.declared.body.Body.{Body}
use Rattle.dn_record_types.specs.declared.statement.Statement.{Statement}
use Rattle.dn_record_types.specs.declared.statement.Statement.TheVariants as kinds
use Rattle.dn_cert.specs.Chain.{ChainView, bodies, Holds, IsLayoutAfter}
use Rattle.dn_cert.specs.Chain.LayoutAfter.{at_first, after_prev}
use Rattle.dn_cert.proofs.ChainLemmas.{round_is}
use Rattle.dn_report.specs.declared.outcome.Outcome.{Outcome}
use Rattle.dn_report.specs.declared.outcome.Outcome.TheVariants as outcomes
use Rattle.dn_headline.specs.Group.{IsHonestServer}
use Rattle.dn_headline.specs.Log.{Step}
use Rattle.dn_headline.specs.Run.{RunView, PlainMade, SumMade, Happened}
use Rattle.dn_headline.specs.Certified.{IsCertified}
use Rattle.dn_headline.specs.Invariant.{Facts, ServerFacts, Invariant, IsJustified, EndOf}
use Rattle.dn_headline.specs.Invariant.EndOf.{certified, given_up, spoiled_by, going_on}
use Rattle.dn_headline.specs.Step.{Grows, RoundsFollow}
use Rattle.dn_links.specs.Link.{RunsOrEnds, ServersCalled, RoundsCalled}
use Rattle.dn_links.proofs.Calling.{linked_after}
use Rattle.dn_links.proofs.Settling.{gone_on}

-- a round with a layout is round 0, or its body is held
layout_is_held : (chain : ChainView) (r : Round) (layout : List ℕ) → IsLayoutAfter chain r.0 layout → (r.0 ≡ 0) ⊎ ((e : Body) × Contains (bodies chain) e × (e.r ≡ r))
layout_is_held chain r layout (at_first z is) = inl z
layout_is_held chain r layout (after_prev b before inside at rest is) = inr (b, inside, round_is b.r r at)

module _ (w : RunView) (f g : Facts) (history : List Step) (plains : List PlainMade) (sums : List SumMade) (lines : List Outcome) (fresh : ServerId → List Statement)
    (grows : Grows w (record { group = w.group; history = history; plains = plains; sums = sums }) lines) (inv : Invariant w f)
    (called : ServersCalled w (record { group = w.group; history = history; plains = plains; sums = sums }) f g lines fresh)
    (rounds : RoundsCalled w (record { group = w.group; history = history; plains = plains; sums = sums }) f g lines fresh called.before called.after) where
  abbrev v : RunView
  v = record { group = w.group; history = history; plains = plains; sums = sums }

  module _ (j : ServerId) (h : IsHonestServer w.group j) where
    opens_once : (r p q : Round) → Contains lines (outcomes.Opened j r p) → Happened v (outcomes.Opened j r q) → p ≡ q
    opens_once r p q line b =
        elim (called.moves j h).round [
          | inl stays ↦ absurd (stays.none_opened r p line)
          | inr opens ↦ elim (grows.new (outcomes.Opened j r q) b) [
            | inl old ↦
                let below = (called.linked j h).opened_below r q old in
                let above = opens.above in
                let round = ap (λ (x : Round). x.0) (opens.only r p line).0 in
                absurd (omega arith)
            | inr other ↦ (opens.only r p line).1 ∙ sym (opens.only r q other).1
          ]
        ]

    end_of : (r : Round) → RunsOrEnds j (called.after j) lines r → EndOf v g j r
    end_of r ends =
        elim ends [
          | inl on ↦ going_on (record {
            last = ap (λ (z : ServerFacts). z.last) (called.facts_after j h) ∙ ap (λ (x : Round). x.0) on.1;
            runs = ap (λ (z : ServerFacts). z.runs) (called.facts_after j h) ∙ on.0;
          })
          | inr rest ↦ elim rest [
            | inl line ↦ certified (inl (grows.told _ line))
            | inr rest ↦ elim rest [
              | inl line ↦ certified (inr (grows.told _ line))
              | inr rest ↦ elim rest [
                | inl line ↦ given_up (grows.told _ line)
                | inr spoils ↦ spoiled_by spoils.0 spoils.1 (grows.told _ spoils.2)
              ]
            ]
          ]
        ]

    prev_certified : (b : Body) → (b.prev.0 ≡ 0) ⊎ ((e : Body) × Contains (bodies (f.server j).chain) e × (e.r ≡ b.prev))
        → (b.prev.0 ≡ 0) ⊎ ((e : Body) × IsCertified w e × (e.r ≡ b.prev))
    prev_certified b at =
        elim at [
          | inl z ↦ inl z
          | inr e ↦ inr (e.0, All-contains (IsCertified w) (bodies (f.server j).chain) e.0 (inv.held_is_put.servers j h).certified e.1, e.2)
        ]

    prev_of : (b : Body) → Contains (called.after j).signed (kinds.Sign b) → (b.prev.0 ≡ 0) ⊎ ((e : Body) × IsCertified w e × (e.r ≡ b.prev))
    prev_of b signed =
        elim (Contains-append_cases (called.before j).signed (fresh j) (kinds.Sign b) (subst (λ (ss : List Statement). Contains ss (kinds.Sign b)) (called.signed j h) signed)) [
          | inl old ↦
              let just : IsJustified w f j b =
              inv.servers.fit j (kinds.Sign b) h (subst (λ (z : ServerFacts). Contains z.signed (kinds.Sign b)) (sym (called.facts_before j h)) old) in
              prev_certified b (layout_is_held (f.server j).chain b.prev just.layout just.after)
          | inr new ↦ elim (rounds.prev_held j b h new) [
            | inl z ↦ inl z
            | inr e ↦ prev_certified b (inr (e.0, subst (λ (z : ServerFacts). Contains (bodies z.chain) e.0) (sym (called.facts_before j h)) e.1, e.2))
          ]
        ]

  pub rounds_follow : RoundsFollow w v f g lines
  rounds_follow = record {
    opened_once = λ j r p q h line b. opens_once j h r p q line b;
    ends = λ j r p h opened why. elim why [
      | inl line ↦ end_of j h r (rounds.opened j r p h line)
      | inr runs ↦
          let last : (called.before j).run.r.0 ≡ r.0 = ap (λ (z : ServerFacts). z.last) (sym (called.facts_before j h)) ∙ runs.last in
          let running = ap (λ (z : ServerFacts). z.runs) (sym (called.facts_before j h)) ∙ runs.runs in
          end_of j h r (subst (RunsOrEnds j (called.after j) lines) (round_is (called.before j).run.r r last) (rounds.ran j h running))
    ];
    gone_on = λ j r h runs.
        let running = ap (λ (z : ServerFacts). z.runs) (sym (called.facts_after j h)) ∙ runs.runs in
        let settled = rounds.settled j h running in
        inr (gone_on v g j (called.after j) (called.facts_after j h) (linked_after w f g history plains sums lines fresh grows inv.held_is_put called j h) (called.disciplined j h) settled r runs);
    spoiled = λ j x r reason h line. rounds.spoiled j x r reason h line;
    prev_before = λ j b h new. prev_of j h b (called.put j (kinds.Sign b) h new);
    certificates = λ j r h cert.
        let holds : Contains lines (outcomes.Certified j r) ⊎ Contains lines (outcomes.Held (members.Server j) r) → Holds (g.server j).chain r.0 =
        λ line. subst (λ (z : ServerFacts). Holds z.chain r.0) (sym (called.facts_after j h)) (rounds.certificates j r h line) in
        elim cert [
          | inl a ↦ elim (grows.new (outcomes.Certified j r) a) [ inl old ↦ inl (inl old) | inr line ↦ inr (holds (inl line)) ]
          | inr a ↦ elim (grows.new (outcomes.Held (members.Server j) r) a) [ inl old ↦ inl (inr old) | inr line ↦ inr (holds (inr line)) ]
        ];
  }
