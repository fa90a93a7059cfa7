-- Looking at several places.
use Rattle.std.proofs.Common.{◌≡◌, ℕ, ◌+◌, ◌<◌, Bool, true, List, [], ◌∷◌, ◌++◌, map, take, length, get_or, refl, sym, ap, ◌∙◌, subst, append_assoc}
use Rattle.std.specs.Prelude.{Contains, filter, IsPermutation, Some, ◌==◌}
use Rattle.std.proofs.lemmas.Bool.{eqb-true, and_parts, false≢true}
use Rattle.std.proofs.lemmas.List.{map-append, take_more}
use Rattle.std.proofs.lemmas.List.Elements.{All-contains, All-filter, All-push, All-contains_itself, filter_passes}
use Rattle.std.proofs.lemmas.List.Sorted.{Contains-permutation, IsPermutation-sym}
use Rattle.dn_cert.proofs.ListLemmas.{Contains-from_map}
use Rattle.dn_cert.proofs.ChainLemmas.{round_is}
use Rattle.dn_wire.specs.declared.ids.Round.{Round}
use Rattle.dn_record_types.specs.declared.statement.Statement.{Statement}
use Rattle.dn_record_types.specs.declared.statement.Statement.TheVariants as kinds
use Rattle.dn_seal.specs.Said.{SaidView, IsUnder}
use Rattle.dn_cert.specs.Certificate.{IsOfRoster}
use Rattle.dn_cert.specs.Chain.{bodies}
use Rattle.dn_server.specs.declared.act.Act.{Act}
use Rattle.dn_server.specs.declared.places.Place.{Place}
use Rattle.dn_server.specs.Server.{ServerView}
use Rattle.dn_openings.specs.Evidence.{is_opening, with_evidence}
use Rattle.dn_openings.specs.Challenging.{CanLook, LooksAt, LooksOn, LooksOnAll, has_looked, waits, finds_fault, finds_nobody, challenges, more, with_looked}
use Rattle.dn_openings.specs.Hearing.{round_opened}
use Rattle.dn_openings.specs.Open.{CanOpen}

looked_on : (v : ServerView) (place q : Place) → CanLook v q → CanLook (with_looked v place) q
looked_on v place q can = record { body = can.body; held = can.held; round = can.round; full = can.full; within = can.within; in_group = can.in_group; under = can.under }

-- what can be looked at can be after the server has looked at a place
pub can_look_on : (v : ServerView) (place : Place) (did : List Act) (after : ServerView) → LooksAt v place did after → (q : Place) → CanLook v q → CanLook after q
can_look_on v place did after (has_looked old nothing same) q can = subst (λ w. CanLook w q) (sym same) can
can_look_on v place did after (waits new some nothing same) q can = subst (λ w. CanLook w q) (sym same) can
can_look_on v place did after (finds_fault trial new all is fault nothing e) q can = subst (λ w. CanLook w q) (sym e) (looked_on v place q can)
can_look_on v place did after (finds_nobody trial new all is named nobody nothing e) q can = subst (λ w. CanLook w q) (sym e) (looked_on v place q can)
can_look_on v place did after (challenges trial first others envelopes new all is named called sent did_is e) q can =
    subst (λ w. CanLook w q) (sym e) (looked_on v place q can)

-- one place more
pub looks_more : (v between after : ServerView) (r : Round) (numbers : List ℕ) (i k : ℕ) (before mid done : List Act) → i < length numbers → get_or numbers i 0 ≡ k
    → LooksOnAll v (map (λ n. record { r = r; k = n }) (take i numbers)) before mid between → LooksOn between record { r = r; k = k } mid done after
    → LooksOnAll v (map (λ n. record { r = r; k = n }) (take (i + 1) numbers)) before done after
looks_more v between after r numbers i k before mid done lt at all one =
    let place : ℕ → Place = λ n. record { r = r; k = n } in
    let places : map place (take (i + 1) numbers) ≡ map place (take i numbers) ++ place k ∷ [] =
    ap (map place) (take_more numbers i 0 lt) ∙ map-append place (take i numbers) (get_or numbers i 0 ∷ [])
    ∙ ap (λ n. map place (take i numbers) ++ place n ∷ []) at in (
      all.0 ++ one.0,
      one.1 ∙ ap (λ l. l ++ one.0) all.1 ∙ append_assoc before all.0 one.0,
      more (place k) (map place (take i numbers)) all.0 one.0 between places all.2 one.2 refl,
    )

-- a place that is opened can be looked at
pub can_look : (v : ServerView) (place : Place) → CanOpen v → Contains v.opened place → CanLook v place
can_look v place can there =
    let open_place = can.places place there in
    record {
      body = open_place.body;
      held = open_place.signed.held;
      round = open_place.signed.round;
      full = open_place.full;
      within = open_place.within;
      in_group = All-contains (IsOfRoster v.seat.roster) (bodies v.chain) open_place.body can.in_group open_place.signed.held;
      under = can.under;
    }

-- also where one statement more is kept
pub can_look_kept : (v : ServerView) (place : Place) (said : SaidView) → IsUnder v.seat.roster said → CanLook v place → CanLook (with_evidence v said) place
can_look_kept v place said under can = record {
  body = can.body;
  held = can.held;
  round = can.round;
  full = can.full;
  within = can.within;
  in_group = can.in_group;
  under = All-push (IsUnder v.seat.roster) v.evidence said can.under under;
}

-- a statement opens places of its round alone
pub opens_its_round : (r q : Round) (k : ℕ) (s : Statement) → round_opened s ≡ Some r → is_opening q k s ≡ true → q ≡ r
opens_its_round r q k (kinds.Submission round prev i d) e h = absurd (false≢true h)
opens_its_round r q k (kinds.Receipt round i d t) e h = absurd (false≢true h)
opens_its_round r q k (kinds.Inventory v) e h = absurd (false≢true h)
opens_its_round r q k (kinds.Commit round d) e h = absurd (false≢true h)
opens_its_round r q k (kinds.Reveal round s) e h = absurd (false≢true h)
opens_its_round r q k (kinds.Sign b) e h = absurd (false≢true h)
opens_its_round r q k (kinds.PadBits round at bits) e h =
    let parts = and_parts (round.0 == q.0) (at == k) h in
    let same : round ≡ r = cc in
    sym (round_is round q (eqb-true round.0 q.0 parts.0)) ∙ same
opens_its_round r q k (kinds.Shown round s xs) e h =
    let same : round ≡ r = cc in
    sym (round_is round q (eqb-true round.0 q.0 h)) ∙ same
opens_its_round r q k (kinds.Accusation round s at) e h = absurd (false≢true h)
opens_its_round r q k (kinds.Rebuttal round at x seed c) e h = absurd (false≢true h)
opens_its_round r q k (kinds.Concede round at) e h = absurd (false≢true h)

-- the places that a statement opens too are places that the server opened, of the statement's round
pub touched_can : (v : ServerView) (r : Round) (s : Statement) (numbers : List ℕ) (k : ℕ) → CanOpen v → round_opened s ≡ Some r
    → IsPermutation (map (λ p. p.k) (filter (λ p. is_opening p.r p.k s) v.opened)) numbers → Contains numbers k
    → CanLook v record { r = r; k = k }
touched_can v r s numbers k can opens are there =
    let test : Place → Bool = λ p. is_opening p.r p.k s in
    let touched : List Place = filter test v.opened in
    let back = Contains-permutation numbers (map (λ p. p.k) touched) k (IsPermutation-sym (map (λ p. p.k) touched) numbers are) there in
    let one = Contains-from_map (λ p. p.k) touched k back in
    let opened : Contains v.opened one.0 = All-contains (Contains v.opened) touched one.0 (All-filter test (Contains v.opened) v.opened (All-contains_itself v.opened)) one.1 in
    let passes : is_opening one.0.r one.0.k s ≡ true = All-contains (λ p. test p ≡ true) touched one.0 (filter_passes test v.opened) one.1 in
    let round : one.0.r ≡ r = opens_its_round r one.0.r one.0.k s opens passes in
    let same : one.0 ≡ record { r = r; k = k } = λ i. record { r = round i; k = one.2 i } in
    subst (CanLook v) same (can_look v one.0 can opened)
