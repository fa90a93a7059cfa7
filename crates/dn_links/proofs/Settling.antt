-- A core that runs its round has gone on as far as what it keeps allows.
use Rattle.std.proofs.Common.{◌≡◌, ℕ, ◌<◌, length, refl, sym, ap, subst, ◌∙◌, arith, inl, inr, true}
use Rattle.std.specs.Prelude.{Contains, Option, Some, IsSome, is_some, option_map, ◌==◌}
use Rattle.std.proofs.lemmas.Bool.{and_parts, and_from, eqb-true, eq-eqb}
use Rattle.std.proofs.lemmas.Option.{same_Some}
use Rattle.dn_wire.specs.declared.ids.ServerId.{ServerId}
use Rattle.dn_wire.specs.declared.ids.Round.{Round}
use Rattle.dn_wire.specs.declared.ids.SignerId.{SignerId}
use Rattle.dn_wire.specs.declared.ids.SignerId.TheVariants.{Server}
use Rattle.dn_record_types.specs.declared.statement.Statement.{Statement}
use Rattle.dn_record_types.specs.declared.statement.Statement.TheVariants as kinds
use Rattle.dn_records.specs.Records.{kind_byte}
use Rattle.dn_seal.specs.Said.{SaidView}
use Rattle.dn_cert.proofs.ChainLemmas.{round_is}
use Rattle.dn_cert.proofs.ListLemmas.{Contains-map, Contains-from_map}
use Rattle.dn_server.specs.Justified.{Seat}
use Rattle.dn_server.specs.Server.{ServerView, servers_in, is_server, is_of, kept_of}
use Rattle.dn_server.specs.Keeping.{round_of}
use Rattle.dn_exchange.specs.Disciplined.{Disciplined}
use Rattle.dn_exchange.specs.Settled.{HasSigned as CoreSigned, KeepsAll as CoreKeepsAll, Settled}
use Rattle.dn_trace.proofs.HeardLemmas.{finds, found}
use Rattle.dn_headline.specs.Group.{servers_of}
use Rattle.dn_headline.specs.Run.{RunView}
use Rattle.dn_headline.specs.Delivered.{IsPhaseOf}
use Rattle.dn_headline.specs.Invariant.{Facts, ServerFacts, Kept, Signs, Keeps, KeepsAll, HasSigned, IsInventory, IsCommit, IsReveal, IsSign, HasGoneOn, Runs}
use Rattle.dn_links.specs.Link.{facts_of, IsLinked}
use Rattle.dn_links.proofs.Linking.{by_server}
use Rattle.dn_links.proofs.Listings.{is_listed}

-- ---- statements by kind and round

phase_round : (r : Round) (s : Statement) → IsPhaseOf r s → round_of s ≡ Some r
phase_round r (kinds.Inventory v) h = ap Some h
phase_round r (kinds.Commit q digest) h = ap Some h
phase_round r (kinds.Reveal q sum) h = ap Some h
phase_round r (kinds.Sign b) h = ap Some h
phase_round r _ h = absurd h

inventory_by : (r : Round) (s : Statement) → kind_byte s ≡ 3 → round_of s ≡ Some r → IsInventory r s
inventory_by r (kinds.Inventory v) k h = (v, refl, same_Some v.r r h)
inventory_by r _ k h = absurd (omega (arith, k))

commit_by : (r : Round) (s : Statement) → kind_byte s ≡ 4 → round_of s ≡ Some r → IsCommit r s
commit_by r (kinds.Commit q digest) k h = let round = same_Some q r h in (digest, λ i. kinds.Commit (round i) digest)
commit_by r _ k h = absurd (omega (arith, k))

reveal_by : (r : Round) (s : Statement) → kind_byte s ≡ 5 → round_of s ≡ Some r → IsReveal r s
reveal_by r (kinds.Reveal q sum) k h = let round = same_Some q r h in (sum, λ i. kinds.Reveal (round i) sum)
reveal_by r _ k h = absurd (omega (arith, k))

sign_by : (r : Round) (s : Statement) → kind_byte s ≡ 6 → round_of s ≡ Some r → IsSign r s
sign_by r (kinds.Sign b) k h = (b, refl, same_Some b.r r h)
sign_by r _ k h = absurd (omega (arith, k))

inventory_kind : (r : Round) (s : Statement) → IsInventory r s → (kind_byte s ≡ 3) × (round_of s ≡ Some r)
inventory_kind r s h = (ap kind_byte h.1, ap round_of h.1 ∙ ap Some h.2)

commit_kind : (r : Round) (s : Statement) → IsCommit r s → (kind_byte s ≡ 4) × (round_of s ≡ Some r)
commit_kind r s h = (ap kind_byte h.1, ap round_of h.1)

reveal_kind : (r : Round) (s : Statement) → IsReveal r s → (kind_byte s ≡ 5) × (round_of s ≡ Some r)
reveal_kind r s h = (ap kind_byte h.1, ap round_of h.1)

is_there : (x : ServerId) (who : SignerId) → who ≡ Server x → (is_server x.0 who) ≡ true
is_there x who e = ap (is_server x.0) e ∙ eq-eqb x.0 x.0 refl

some_is : {A : Type 0} (o : Option A) (x : A) → o ≡ Some x → IsSome o
some_is o x e = ap (λ p. is_some p) e

module _ (w : RunView) (f : Facts) (j : ServerId) (c : ServerView) (facts : f.server j ≡ facts_of c) (link : IsLinked w j c) (rules : Disciplined c) (settled : Settled c) where
  core_signs : (s : Statement) → Signs f j s → Contains c.signed s
  core_signs s h = subst (λ (z : ServerFacts). Contains z.signed s) facts h

  run_signs : (s : Statement) → Contains c.signed s → Signs f j s
  run_signs s h = subst (λ (z : ServerFacts). Contains z.signed s) (sym facts) h

  size : servers_in c ≡ servers_of w.group
  size = ap (λ (z : Seat). length z.roster.servers) link.seat

  core_kept : (x : ServerId) (s : Statement) → Keeps f j x s → (said : SaidView) × Contains c.run.kept said × (said.signer ≡ Server x) × (said.statement ≡ s)
  core_kept x s h =
      let said = Contains-from_map (λ (said : SaidView). record { by = said.signer; statement = said.statement }) c.run.kept h.0
      (subst (λ (z : ServerFacts). Contains z.kept h.0) facts h.1) in
      (said.0, said.1, ap (λ (z : Kept). z.by) said.2 ∙ h.2, ap (λ (z : Kept). z.statement) said.2 ∙ h.3)

  -- the first that is kept of a server and kind
  first_kept : (x : ServerId) (kind : ℕ) (said : SaidView) → Contains c.run.kept said → said.signer ≡ Server x → kind_byte said.statement ≡ kind
      → (one : SaidView) × (kept_of c.run.kept kind x.0 ≡ Some one) × (one ≡ said)
  first_kept x kind said there signer k =
      let passes : is_of kind x.0 said ≡ true =
      and_from (is_server x.0 said.signer) (kind_byte said.statement == kind) (is_there x said.signer signer) (eq-eqb (kind_byte said.statement) kind k) in
      let one = finds (is_of kind x.0) c.run.kept there.0 said there.1 (ap (is_of kind x.0) there.2 ∙ passes) in
      let back = found (is_of kind x.0) c.run.kept one.0 one.1 in
      let parts = and_parts (is_server x.0 one.0.signer) (kind_byte one.0.statement == kind) back.1 in
      (one.0, one.1, rules.one_kept one.0 said back.0 there (by_server x.0 one.0.signer parts.0 ∙ sym signer) (eqb-true (kind_byte one.0.statement) kind parts.1 ∙ sym k))

  keeps_all : (kind : ℕ) (Is : Statement → Type 0) → ((s : Statement) → Is s → kind_byte s ≡ kind) → KeepsAll w f j Is → CoreKeepsAll c kind
  keeps_all kind Is is all x lt =
      let server : ServerId = record { 0 = x } in
      let k = all server (subst (λ (n : ℕ). x < n) size lt) in
      let said = core_kept server k.0 k.1 in
      let one = first_kept server kind said.0 said.1 said.2 (ap kind_byte said.3 ∙ is k.0 k.2) in
      some_is (kept_of c.run.kept kind x) one.0 one.1

  signed_kind : (kind : ℕ) (Is : Statement → Type 0) → ((s : Statement) → Is s → (kind_byte s ≡ kind) × (round_of s ≡ Some c.run.r)) → HasSigned f j Is → CoreSigned c kind
  signed_kind kind Is is h = let k = is h.0 h.2 in (h.0, core_signs h.0 h.1, k.0, k.1)

  signed_in_run : (kind : ℕ) (Is : Statement → Type 0) → ((s : Statement) → kind_byte s ≡ kind → round_of s ≡ Some c.run.r → Is s) → CoreSigned c kind → HasSigned f j Is
  signed_in_run kind Is is h = (h.0, run_signs h.0 h.1, is h.0 h.2 h.3)

  gone_on_here : HasGoneOn w f j c.run.r
  gone_on_here =
      let r = c.run.r in record {
        own_kept = λ s h phase.
            let k = rules.own_kept s (core_signs s h) (phase_round r s phase) in
            let number : c.seat.number ≡ j.0 = ap (λ (z : Seat). z.number) link.seat in
            let signer : k.0.signer ≡ Server j = k.2 ∙ (λ t. Server (record { 0 = number t })) in
            let kept : Kept = record { by = k.0.signer; statement = k.0.statement } in (
              kept,
              subst (λ (z : ServerFacts). Contains z.kept kept) (sym facts)
                  (Contains-map (λ (said : SaidView). record { by = said.signer; statement = said.statement }) c.run.kept k.0 k.1),
              signer,
              k.3,
            );
        inventory = λ count closed. signed_in_run 3 (IsInventory r) (inventory_by r) (settled.inventory.1 (link.closed count closed));
        commit = λ signed all.
            let own = signed_kind 3 (IsInventory r) (inventory_kind r) signed in
            let kept = keeps_all 3 (IsInventory r) (λ s h. (inventory_kind r s h).0) all in
            elim (is_listed w c link.kept kept) [
              | inl data_ ↦ inl (signed_in_run 4 (IsCommit r) (commit_by r) (settled.commit.1 (own, kept, data_)))
              | inr none ↦ inr (signed_in_run 6 (IsSign r) (sign_by r) (settled.sign.1 (inr (own, kept, none))))
            ];
        reveal = λ signed all.
            signed_in_run 5 (IsReveal r) (reveal_by r)
            (settled.reveal.1 (signed_kind 4 (IsCommit r) (commit_kind r) signed, keeps_all 4 (IsCommit r) (λ s h. (commit_kind r s h).0) all));
        sign = λ signed all.
            signed_in_run 6 (IsSign r) (sign_by r)
            (settled.sign.1 (inl (signed_kind 5 (IsReveal r) (reveal_kind r) signed, keeps_all 5 (IsReveal r) (λ s h. (reveal_kind r s h).0) all)));
        goes_on = λ b round signed all. settled.certificate b (core_signs (kinds.Sign b) signed) round (λ x lt.
            let server : ServerId = record { 0 = x } in
            let said = core_kept server (kinds.Sign b) (all server (subst (λ (n : ℕ). x < n) size lt)) in
            let one = first_kept server 6 said.0 said.1 said.2 (ap kind_byte said.3) in
            ap (option_map (λ (z : SaidView). z.statement)) one.1 ∙ ap (λ (z : SaidView). Some z.statement) one.2 ∙ ap Some said.3);
      }

  -- a core that is settled has gone on in its round
  pub gone_on : (r : Round) → Runs f j r → HasGoneOn w f j r
  gone_on r runs =
      let last : c.run.r.0 ≡ r.0 = ap (λ (z : ServerFacts). z.last) (sym facts) ∙ runs.last in
      subst (HasGoneOn w f j) (round_is c.run.r r last) gone_on_here
