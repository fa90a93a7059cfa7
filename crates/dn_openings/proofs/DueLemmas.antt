-- What openings alone show.
use Rattle.std.proofs.Common.{◌≡◌, ℕ, ◌<◌, true, false, List, [], ◌∷◌, refl, sym, ap, ◌∙◌, subst, arith, length, inl, inr}
use Rattle.std.specs.Prelude.{Contains, ◌==◌, All}
use Rattle.std.proofs.lemmas.Bool.{false≢true, eq-eqb, eqb-true}
use Rattle.std.proofs.lemmas.List.Elements.{All-contains, All-head, All-weaker, All-filter, All-contains_itself, filter_passes}
use Rattle.dn_cert.proofs.Parts.{filter-keeps}
use Rattle.dn_wire.specs.declared.ids.Member.{Member}
use Rattle.dn_wire.specs.declared.ids.Member.TheVariants as members
use Rattle.dn_wire.specs.declared.ids.SignerId.{SignerId}
use Rattle.dn_record_types.specs.declared.statement.Statement.{Statement}
use Rattle.dn_record_types.specs.declared.statement.Statement.TheVariants as kinds
use Rattle.dn_seal.specs.Dealt.{server, client}
use Rattle.dn_seal.specs.Said.{SaidView}
use Rattle.dn_trace.specs.declared.fault.Fault.{Fault}
use Rattle.dn_trace.specs.declared.fault.Fault.TheVariants as faults
use Rattle.dn_trace.specs.Trial.{Trial, Says, Heard, IsGiven, round_of, servers_of}
use Rattle.dn_trace.specs.Tables.{a_server, a_client}
use Rattle.dn_trace.specs.Challenged.{NamesNone, IsOpened}
use Rattle.dn_trace.specs.Reasons.{Rebuts}
use Rattle.dn_trace.specs.Verdict.{Has, HasLeast, ServerHas, ClientHas, Answers, IsSilent, IsVerdict}
use Rattle.dn_server.specs.declared.places.Place.{Place}
use Rattle.dn_openings.proofs.KeptLemmas.{is_its_pad}
use Rattle.dn_openings.specs.Evidence.{is_opening, openings_of, HasOpened}
use Rattle.dn_openings.specs.Challenging.{IsComplete, IsChallengedMember, AreChallenged, AreDue}

-- all that is given opens the place
abbrev pub AreOpenings : Place → List SaidView → Type 0
AreOpenings place given = All (λ x. is_opening place.r place.k x.statement ≡ true) given

pub openings_open : (kept : List SaidView) (place : Place) → AreOpenings place (openings_of kept place)
openings_open kept place = filter_passes (λ x. is_opening place.r place.k x.statement) kept

module _ (place : Place) (trial : Trial) (only : AreOpenings place trial.given) where
  given_opens : (who : SignerId) (s : Statement) → IsGiven trial who s → is_opening place.r place.k s ≡ true
  given_opens who s g =
      ap (is_opening place.r place.k) (sym g.3) ∙ All-contains (λ x. is_opening place.r place.k x.statement ≡ true) trial.given g.0 only g.1

  pub heard_given : (who : SignerId) (s : Statement) → Heard trial who s → IsGiven trial who s
  heard_given who s h = elim h [
    | inl g ↦ g
    | inr more ↦ absurd (elim more [
      | inl carried ↦ false≢true (given_opens carried.by (kinds.Rebuttal carried.r carried.k carried.server carried.seed carried.envelope) carried.rebuttal)
      | inr entered ↦ false≢true (given_opens entered.by (kinds.Inventory entered.held) entered.inventory)
    ])
  ]

  heard_opens : (who : SignerId) (s t : Statement) → Heard trial who s → s ≡ t → is_opening place.r place.k t ≡ true
  heard_opens who s t h e = sym (ap (is_opening place.r place.k) e) ∙ given_opens who s (heard_given who s h)

  no_rebuttal : (i : ℕ) (s : Statement) (j : ℕ) → Rebuts trial i s j → ⊥
  no_rebuttal i s j r =
      false≢true (heard_opens (client i) s (kinds.Rebuttal (round_of trial) trial.k record { 0 = j } r.seed r.envelope) r.heard r.is)

  no_answers : (i : ℕ) → Answers trial i → ⊥
  no_answers i a = elim a [
    | inl rebuts ↦ no_rebuttal i rebuts.0 rebuts.1 rebuts.2
    | inr concedes ↦ false≢true (heard_opens (client i) (kinds.Concede (round_of trial) trial.k) (kinds.Concede (round_of trial) trial.k) concedes refl)
  ]

  server_blameless : NamesNone trial → (j : ℕ) (fault : Fault) → ServerHas trial j fault → ⊥
  server_blameless named j faults.Twice h = named.twice j h
  server_blameless named j faults.Entry h = named.entry j h
  server_blameless named j faults.Commit h = named.commit j h
  server_blameless named j faults.Shown h = named.shown j h
  server_blameless named j faults.Sum h = named.sum j h
  server_blameless named j faults.Pad h = no_rebuttal h.i h.s j h.rebuts
  server_blameless named j faults.Output h = named.output h.1
  server_blameless named j faults.Double h = h
  server_blameless named j faults.Rebuttal h = h
  server_blameless named j faults.Conceded h = h

  client_blameless : (i : ℕ) (fault : Fault) → ClientHas trial i fault → ⊥
  client_blameless i faults.Twice h = h
  client_blameless i faults.Entry h = h
  client_blameless i faults.Commit h = h
  client_blameless i faults.Shown h = h
  client_blameless i faults.Sum h = h
  client_blameless i faults.Pad h = h
  client_blameless i faults.Output h = h
  client_blameless i faults.Double h =
      let one = h.submits_one in
      false≢true (heard_opens (client i) h.one (kinds.Submission (round_of trial) one.prev one.named one.digest) one.heard one.is)
  client_blameless i faults.Rebuttal h = no_rebuttal i h.s h.j h.rebuts
  client_blameless i faults.Conceded h =
      false≢true (heard_opens (client i) (kinds.Concede (round_of trial) trial.k) (kinds.Concede (round_of trial) trial.k) h.1 refl)

  blameless : NamesNone trial → (member : Member) (fault : Fault) → Has trial member fault → ⊥
  blameless named (members.Client i) fault h = client_blameless i.0 fault h
  blameless named (members.Server j) fault h = server_blameless named j.0 fault h

  names_none : ((member : Member) (fault : Fault) → Has trial member fault → ⊥) → 0 < servers_of trial → NamesNone trial
  names_none none some = record {
    twice = λ j h. none (a_server j) faults.Twice h;
    entry = λ j h. none (a_server j) faults.Entry h;
    commit = λ j h. none (a_server j) faults.Commit h;
    shown = λ j h. none (a_server j) faults.Shown h;
    sum = λ j h. none (a_server j) faults.Sum h;
    output = λ h. none (a_server 0) faults.Output (some, h);
  }

  silent_challenged : IsComplete trial → (member : Member) → IsSilent trial member → IsChallengedMember trial member
  silent_challenged complete (members.Client i) s = s.1
  silent_challenged complete (members.Server j) s = s.1 (complete j.0 s.0)

  -- where nobody is blamed, the silent are those that are to be challenged
  pub silent_due : (silent : List Member) → IsVerdict trial [] silent → IsComplete trial → 0 < servers_of trial → AreDue trial silent
  silent_due silent v complete some =
      let named : NamesNone trial = names_none (λ member fault h. let there = v.all_blamed member fault h in absurd (omega (arith, there.1.1))) some in
      let are : AreChallenged trial silent = record {
        in_order = v.silent_in_order;
        each = All-weaker (IsSilent trial) (IsChallengedMember trial) (silent_challenged complete) silent v.are_silent;
        whole = λ i ch. v.all_silent (a_client i) ((λ j fault h. server_blameless named j fault h), ch, no_answers i);
      } in
      inl (named, are)

  -- where somebody is, nobody is
  pub nobody_due : (blamed : List (Member × Fault)) (silent : List Member) → IsVerdict trial blamed silent → (length blamed == 0) ≡ false → AreDue trial []
  nobody_due [] silent v some = absurd (false≢true (sym some))
  nobody_due (b ∷ bs) silent v some =
      let least = All-head (λ x. HasLeast trial x.0 x.1) b bs v.blames in
      inr ((λ named. blameless named b.0 b.1 least.has), refl)

  pub all_due : (blamed : List (Member × Fault)) (silent : List Member) → IsVerdict trial blamed silent → (length blamed == 0) ≡ true → IsComplete trial
      → 0 < servers_of trial → AreDue trial silent
  all_due [] silent v none complete some = silent_due silent v complete some
  all_due (b ∷ bs) silent v none complete some = let nothing : length (b ∷ bs) ≡ 0 = eqb-true (length (b ∷ bs)) 0 none in absurd (omega arith)

  module _ (kept : List SaidView) (given : trial.given ≡ openings_of kept place) (round : round_of trial ≡ place.r) (at : trial.k ≡ place.k) where
    kept_given : (who : SignerId) (s : Statement) → Says kept who s → is_opening place.r place.k s ≡ true → IsGiven trial who s
    kept_given who s says opens =
        let passes : is_opening place.r place.k says.0.statement ≡ true = ap (is_opening place.r place.k) says.3 ∙ opens in
        let there : Contains (openings_of kept place) says.0 = filter-keeps (λ x. is_opening place.r place.k x.statement) kept says.0 passes says.1 in
        (says.0, subst (λ l. Contains l says.0) (sym given) there, says.2, says.3)

    given_kept : (who : SignerId) (s : Statement) → IsGiven trial who s → Says kept who s
    given_kept who s says =
        let there : Contains (openings_of kept place) says.0 = subst (λ l. Contains l says.0) given says.1 in
        let all : All (Contains kept) (openings_of kept place) =
        All-filter (λ x. is_opening place.r place.k x.statement) (Contains kept) kept (All-contains_itself kept) in
        (says.0, All-contains (Contains kept) (openings_of kept place) says.0 all there, says.2, says.3)

    -- a server has opened by what is kept exactly where it has by what is given
    pub opened_so : (j : ℕ) → HasOpened kept place j → IsOpened trial j
    opened_so j h =
        let shows : IsGiven trial (server j) (kinds.Shown place.r h.s h.shown) =
        kept_given (server j) (kinds.Shown place.r h.s h.shown) h.shows (eq-eqb place.r.0 place.r.0 refl) in
        let signed : IsGiven trial (server j) (kinds.PadBits place.r place.k h.pad) =
        kept_given (server j) (kinds.PadBits place.r place.k h.pad) h.signed (is_its_pad place.r place.k h.pad) in
        record {
          s = h.s;
          shown = h.shown;
          shows = inl (subst (λ r. IsGiven trial (server j) (kinds.Shown r h.s h.shown)) (sym round) shows);
          pad = h.pad;
          signed = inl (subst (λ k. IsGiven trial (server j) (kinds.PadBits (round_of trial) k h.pad)) (sym at)
              (subst (λ r. IsGiven trial (server j) (kinds.PadBits r place.k h.pad)) (sym round) signed));
        }

    pub opened_from : (j : ℕ) → IsOpened trial j → HasOpened kept place j
    opened_from j h =
        let shows : Says kept (server j) (kinds.Shown (round_of trial) h.s h.shown) =
        given_kept (server j) (kinds.Shown (round_of trial) h.s h.shown) (heard_given (server j) (kinds.Shown (round_of trial) h.s h.shown) h.shows) in
        let signed : Says kept (server j) (kinds.PadBits (round_of trial) trial.k h.pad) =
        given_kept (server j) (kinds.PadBits (round_of trial) trial.k h.pad) (heard_given (server j) (kinds.PadBits (round_of trial) trial.k h.pad) h.signed) in
        record {
          pad = h.pad;
          signed = subst (λ k. Says kept (server j) (kinds.PadBits place.r k h.pad)) at
              (subst (λ r. Says kept (server j) (kinds.PadBits r trial.k h.pad)) round signed);
          s = h.s;
          shown = h.shown;
          shows = subst (λ r. Says kept (server j) (kinds.Shown r h.s h.shown)) round shows;
        }
