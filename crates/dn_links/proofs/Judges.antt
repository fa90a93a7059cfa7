-- What the judge tells follows the rules of runs.
use Rattle.std.proofs.Common.{◌≡◌, ℕ, ◌<◌, List, [], ◌∷◌, ◌++◌, refl, sym, subst, ◌∙◌, arith, inl, inr, true}
use Rattle.std.specs.Prelude.{Contains}
use Rattle.std.proofs.lemmas.List.Elements.{All-contains, All-weaker, Contains-append_left, Contains-append_right}
use Rattle.dn_wire.specs.declared.ids.Round.{Round}
use Rattle.dn_wire.specs.declared.ids.SignerId.{SignerId}
use Rattle.dn_wire.specs.declared.ids.SignerId.TheVariants.{Client, Server, Slot}
use Rattle.dn_record_types.specs.declared.body.Body.{Body}
use Rattle.dn_record_types.specs.declared.statement.Statement.{Statement}
use Rattle.dn_bits.specs.Bits.{bit}
use Rattle.dn_layout.proofs.RangeLemmas.{range_within}
use Rattle.dn_roster.specs.Roster.{RosterView}
use Rattle.dn_seal.specs.Said.{SaidView, Unseals, IsSaid, IsUnder}
use Rattle.dn_cert.specs.Certificate.{CertificateView}
use Rattle.dn_cert.specs.Chain.{ChainView, LayoutAfter, bodies}
use Rattle.dn_cert.proofs.Orders.{here, nothing, All-from_contains}
use Rattle.dn_report.specs.declared.event.Event.TheVariants as events
use Rattle.dn_report.specs.declared.outcome.Outcome.{Outcome}
use Rattle.dn_trace.specs.Trial.{Trial}
use Rattle.dn_headline.specs.Group.{clients_of, servers_of}
use Rattle.dn_headline.specs.Log.{Put}
use Rattle.dn_headline.specs.Run.{RunView, log}
use Rattle.dn_headline.specs.Spoken.{IsInFront}
use Rattle.dn_headline.specs.Certified.{IsCertificateOf, IsCertified, IsChainOf}
use Rattle.dn_headline.specs.Certified.IsChainOf.{empty, held, refused, other}
use Rattle.dn_headline.specs.Heard.{IsHeard}
use Rattle.dn_headline.specs.Verdict.{IsVerdictOf}
use Rattle.dn_headline.specs.Step.{VerdictsFollow}
use Rattle.dn_links.specs.Judging.{HasInFront, ComesFrom, IsJudged, JudgeCalled}
use Rattle.dn_headline.proofs.Layouts.{certified_within}
use Rattle.dn_cert.proofs.GrowthLemmas.{held_only}
use Rattle.dn_seal.proofs.SaidLemmas.{said_unseals}

-- ---- the run's chain

-- a body of the chain of some puts: a certificate of it is among them
record IsOfPuts (roster : RosterView) (puts : List Put) (b : Body) : Type 0 where
  put : Put
  there : Contains puts put
  certificate : CertificateView
  is : IsCertificateOf roster put.bytes certificate
  body : certificate.body ≡ b

more_puts : (roster : RosterView) (puts : List Put) (p : Put) (b : Body) → IsOfPuts roster puts b → IsOfPuts roster (puts ++ p ∷ []) b
more_puts roster puts p b h = record {
  put = h.put;
  there = Contains-append_left puts (p ∷ []) h.put h.there;
  certificate = h.certificate;
  is = h.is;
  body = h.body;
}

chain_of_puts : (roster : RosterView) (slots : ℕ) (puts : List Put) (chain : ChainView) → IsChainOf roster slots puts chain
    → (chain.slots ≡ slots) × ((b : Body) → Contains (bodies chain) b → IsOfPuts roster puts b)
chain_of_puts roster slots puts chain empty = (refl, λ b h. absurd (nothing b h))
chain_of_puts roster slots puts chain (held {puts = qs} {chain = ch} p c before is can) =
    let old = chain_of_puts roster slots qs ch before in (
      old.0,
      λ b h. elim (held_only c.body ch.held b h) [
        | inl same ↦ subst (IsOfPuts roster (qs ++ p ∷ [])) same (record {
          put = p;
          there = Contains-append_right qs (p ∷ []) p (here p []);
          certificate = c;
          is = is;
          body = refl;
        })
        | inr was ↦ more_puts roster qs p b (old.1 b was)
      ],
    )
chain_of_puts roster slots puts chain (refused {puts = qs} {chain = ch} p c before is not_so) =
    let old = chain_of_puts roster slots qs ch before in (old.0, λ b h. more_puts roster qs p b (old.1 b h))
chain_of_puts roster slots puts chain (other {puts = qs} {chain = ch} p before none) =
    let old = chain_of_puts roster slots qs ch before in (old.0, λ b h. more_puts roster qs p b (old.1 b h))

-- ---- what is heard

module _ (v : RunView) where
  in_front : (bytes : List ℕ) (said : SaidView) → Unseals v.group.roster said.bytes said.signer said.statement → HasInFront bytes said
      → IsInFront v.group.roster bytes said.signer said.statement
  in_front bytes said unseals h =
      elim h [
        | inl plain ↦ inl (record { envelope = said.bytes; is = plain; unseals = unseals })
        | inr submits ↦ inr (submits.0, record { submission = submits.1; envelope = said.bytes; is = submits.2; unseals = unseals })
      ]

  heard_from : (said : SaidView) (who : SignerId) → said.signer ≡ who → Unseals v.group.roster said.bytes who said.statement → ComesFrom v said who
      → IsHeard v who said.statement
  heard_from said (Server j) e unseals from = record { put = from.0; there = from.1; says = record { envelope = said.bytes; is = from.2; unseals = unseals } }
  heard_from said (Client i) e unseals from = record {
    message = from.message;
    there = from.there;
    server = from.server;
    to = from.to;
    front = subst (λ (z : SignerId). IsInFront v.group.roster from.message.bytes z said.statement) e
        (in_front from.message.bytes said (subst (λ (z : SignerId). Unseals v.group.roster said.bytes z said.statement) (sym e) unseals) from.front);
  }
  heard_from said (Slot k) e unseals from = record {
    message = from.message;
    there = from.there;
    server = from.server;
    to = from.to;
    front = subst (λ (z : SignerId). IsInFront v.group.roster from.message.bytes z said.statement) e
        (in_front from.message.bytes said (subst (λ (z : SignerId). Unseals v.group.roster said.bytes z said.statement) (sym e) unseals) from.front);
  }

  -- a verdict of the judge is one of the run
  pub verdict_of_judge : (r : Round) (k : ℕ) (lines : List Outcome) → IsJudged v r k lines → IsVerdictOf v r k lines
  verdict_of_judge r k lines j =
      let run = chain_of_puts v.group.roster (clients_of v.group) (log v).puts j.chain j.of_run in
      let of = run.1 j.body j.inside in
      let certified : IsCertified v j.body = record { put = of.put; there = of.there; certificate = of.certificate; is = of.is; body = of.body } in
      let within = certified_within v j.body certified in
      let one : bit j.body.out k ≡ true = subst (λ (n : ℕ). bit j.body.out n ≡ true) j.place j.valid.one in
      let place = j.valid.place in
      let range = range_within j.layout j.found.slot.0 place.0 place.1 place.2 in
      let trial : Trial = record { roster = v.group.roster; body = j.body; layout = j.layout; k = k; given = j.given } in
      record {
        trial = trial;
        roster = refl;
        round = j.round;
        place = refl;
        certified = certified;
        layout = record {
          bodies = bodies j.chain;
          certified = All-from_contains (IsCertified v) (bodies j.chain) (λ b h.
              let o = run.1 b h in record { put = o.put; there = o.there; certificate = o.certificate; is = o.is; body = o.body });
          after = subst (λ (n : ℕ). LayoutAfter n (bodies j.chain) j.body.prev.0 j.layout) run.0 j.after;
        };
        full = j.valid.full;
        within = let same = j.place in omega (arith, place.3, place.4, range.2, same);
        held = record {
          one = one;
          servers = j.servers;
          listed = All-weaker (λ l. (l.client.0 < clients_of v.group) × (l.server.0 < servers_of v.group)) (λ l. l.server.0 < servers_of v.group) (λ l h. h.1) j.body.listed within.listed;
        };
        heard = λ who s g.
            let said = g.0 in
            let unseals = said_unseals v.group.roster said (All-contains IsSaid j.given said j.said g.1) (All-contains (IsUnder v.group.roster) j.given said j.under g.1) in
            subst (λ (z : Statement). IsHeard v who z) g.3
            (heard_from said who g.2 (subst (λ (z : SignerId). Unseals v.group.roster said.bytes z said.statement) g.2 unseals)
            (subst (ComesFrom v said) g.2 (j.from said g.1)));
        blamed = j.blamed;
        silent = j.silent;
        verdict = j.verdict;
        told = j.told;
      }

same_round : (r q : Round) (k m : ℕ) → events.Judge r k ≡ events.Judge q m → (r ≡ q) × (k ≡ m)
same_round r q k m e = (cc, cc)

-- what the judge tells follows the rules
pub verdicts_follow : (w v : RunView) → JudgeCalled w v → VerdictsFollow w v
verdicts_follow w v called = record {
  judged = λ s r k there judges. elim (called s there) [
    | inl old ↦ inl old
    | inr new ↦ elim new [
      | inr o ↦ absurd (o.event r k judges)
      | inl j ↦
          let same = same_round j.r r j.k k (sym j.event ∙ judges) in
          inr (elim j.does [
            | inl none ↦ inl none
            | inr judged ↦ inr (subst (λ (q : Round). IsVerdictOf v q k s.outcomes) same.0
                (subst (λ (n : ℕ). IsVerdictOf v j.r n s.outcomes) same.1 (verdict_of_judge v j.r j.k s.outcomes judged)))
          ])
    ]
  ];
  alone = λ s m reason there line. elim (called s there) [
    | inl old ↦ inl old
    | inr new ↦ elim new [ inl j ↦ inr (j.r, j.k, j.event) | inr o ↦ absurd (o.blames m reason line) ]
  ];
}
