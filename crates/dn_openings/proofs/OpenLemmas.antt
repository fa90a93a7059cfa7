-- What stays while a server opens a place.
use Rattle.std.proofs.Common.{◌≡◌, ℕ, ◌+◌, ◌-◌, ◌<◌, ◌≤◌, Bool, true, false, List, [], ◌∷◌, ◌++◌, length, cond, refl, sym, ap, ◌∙◌, subst, arith, inl, inr, length-append}
use Rattle.dn_bits.specs.Bits.{bit}
use Rattle.std.specs.Prelude.{Result, Ok, Err, IfOk, zero, suc, Contains, All, Some, ◌==◌, ◌||◌}
use Rattle.std.specs.List.{list_any}
use Rattle.std.proofs.lemmas.Bool.{false≢true, cases_Bool, eqb-true}
use Rattle.std.proofs.lemmas.Option.{same_Some}
use Rattle.std.proofs.lemmas.List.Elements.{All-contains, All-push, Contains-append_left, Contains-push}
use Rattle.dn_bits.proofs.BitLemmas.{here, later}
use Rattle.dn_wire.specs.declared.ids.Round.{Round}
use Rattle.dn_lms.specs.Key.{leaf_count}
use Rattle.dn_lms.specs.Signature.{public_key}
use Rattle.dn_roster.specs.Roster.{key_of}
use Rattle.dn_record_types.specs.declared.body.Body.{Body}
use Rattle.dn_record_types.specs.declared.statement.Statement.{Statement}
use Rattle.dn_seal.specs.Said.{SaidView, IsUnder}
use Rattle.dn_cert.specs.Certificate.{IsOfRoster}
use Rattle.dn_cert.specs.Chain.{bodies}
use Rattle.dn_cert.proofs.ChainLemmas.{round_is}
use Rattle.dn_trace.specs.Trial.{Says}
use Rattle.dn_trace.proofs.HeardLemmas.{found}
use Rattle.dn_server.specs.declared.act.Act.{Act}
use Rattle.dn_server.specs.declared.past.Past.{Past}
use Rattle.dn_server.specs.declared.places.Place.{Place}
use Rattle.dn_server.specs.Server.{ServerView, itself, left_of, past_of, said_next}
use Rattle.dn_openings.specs.Challenging.{CanLook}
use Rattle.dn_openings.specs.Accusing.{HasSigned, SignsAndKeeps, is_kept, is_new, Shows, first_of_round, again, has_opened, leaves_due, shown_of, with_opened}
use Rattle.dn_openings.specs.Open.{CanOpen, CanPad, CanShow}

-- where some element passes there is one
pub any_is : {X : Type 0} (p : X → Bool) (xs : List X) → list_any p xs ≡ true → (x : X) × Contains xs x × (p x ≡ true)
any_is p [] h = absurd (false≢true h)
any_is p (x ∷ xs) h = elim (cases_Bool (p x)) [
  | inl has ↦ (x, here x xs, has)
  | inr lacks ↦ let rest = any_is p xs (sym (ap (λ b. b || list_any p xs) lacks) ∙ h) in (rest.0, later x xs rest.0 rest.1, rest.2)
]

-- what a server that has signed a statement and keeps it has more than before
pub record Signed (v : ServerView) (s : Statement) (after : ServerView) : Type 0 where
  pub evidence : List SaidView
  pub is : after ≡ record v { signed = v.signed ++ s ∷ []; evidence = evidence }
  pub kept : (x : SaidView) → Contains v.evidence x → Contains evidence x
  pub under : key_of v.seat.roster (itself v) ≡ Some (public_key v.key) → All (IsUnder v.seat.roster) v.evidence → All (IsUnder v.seat.roster) evidence
  pub said : Says evidence (itself v) s

pub signed_so : (v : ServerView) (s : Statement) (after : ServerView) → SignsAndKeeps v s after → Signed v s after
signed_so v s after (is_kept says same) = record { evidence = v.evidence; is = same; kept = λ x c. c; under = λ member all. all; said = says }
signed_so v s after (is_new new same) = record {
  evidence = v.evidence ++ said_next v s ∷ [];
  is = same;
  kept = λ x c. Contains-append_left v.evidence (said_next v s ∷ []) x c;
  under = λ member all. All-push (IsUnder v.seat.roster) v.evidence (said_next v s) all (refl, member);
  said = (said_next v s, Contains-push v.evidence (said_next v s), refl, refl);
}

module _ (v : ServerView) (can : CanOpen v) (r : Round) (b : Body) (past : Past) (signed : HasSigned v r b past) where
  pub can_pad : CanPad v r
  can_pad = record {
    body = b;
    held = signed.held;
    round = signed.round;
    in_group = All-contains (IsOfRoster v.seat.roster) (bodies v.chain) b can.in_group signed.held;
    seeds = can.seeds;
  }

  there_past : Contains v.pasts past
  there_past = (found (λ p. p.body.r.0 == r.0) v.pasts past signed.kept).0

  shown_before : has_opened v r ≡ true → Says v.evidence (itself v) (shown_of past)
  shown_before has =
      let one = any_is (λ (p : Place). p.r.0 == r.0) v.opened has in
      let place = one.0 in
      let open_place = can.places place one.1 in
      let round : place.r ≡ r = round_is place.r r (eqb-true place.r.0 r.0 one.2) in
      let same : open_place.past ≡ past =
      same_Some open_place.past past (sym open_place.signed.kept ∙ ap (λ (q : Round). past_of v.pasts q.0) round ∙ signed.kept) in
      subst (λ p. Says v.evidence (itself v) (shown_of p)) same open_place.shown

  pub can_show : (s : Statement) (padded : ServerView) → SignsAndKeeps v s padded → (has_opened v r ≡ false → length v.signed + 1 < leaf_count v.key) → CanShow padded r
  can_show s padded signs leaf =
      let more = signed_so v s padded signs in
      let so : CanShow (record v { signed = v.signed ++ s ∷ []; evidence = more.evidence }) r = record {
        past = past;
        kept = signed.kept;
        round = ap (λ (x : Body). x.r) signed.of_body ∙ signed.round;
        fits = can.sizes past there_past;
        leaf = λ lacks. let enough = leaf lacks in omega (arith, length-append v.signed (s ∷ []));
        shown = λ has. let old = shown_before has in (old.0, more.kept old.0 old.1, old.2, old.3);
      } in
      subst (λ w. CanShow w r) (sym more.is) so

  -- the place can be looked at once it is opened
  looks_of : (k : ℕ) → b.thin ≡ false → k < length b.out → (w : ServerView) → w.seat ≡ v.seat → w.chain ≡ v.chain → All (IsUnder v.seat.roster) w.evidence
      → CanLook (with_opened w record { r = r; k = k }) record { r = r; k = k }
  looks_of k full within w seat chain under = record {
    body = b;
    held = subst (λ c. Contains (bodies c) b) (sym chain) signed.held;
    round = signed.round;
    full = full;
    within = within;
    in_group = subst (λ s. IsOfRoster s.roster b) (sym seat) (All-contains (IsOfRoster v.seat.roster) (bodies v.chain) b can.in_group signed.held);
    under = subst (λ s. All (IsUnder s.roster) w.evidence) (sym seat) under;
  }

  pub can_look_opened : (k : ℕ) → b.thin ≡ false → k < length b.out → (s : Statement) (padded shown : ServerView) (did : List Act) → SignsAndKeeps v s padded
      → Shows padded past did shown → CanLook (with_opened shown record { r = r; k = k }) record { r = r; k = k }
  can_look_opened k full within s padded shown did signs (first_of_round lacks also did_is) =
      let more = signed_so v s padded signs in
      let then = signed_so padded (shown_of past) shown also in
      let middle : ServerView = record v { signed = v.signed ++ s ∷ []; evidence = more.evidence } in
      let seat : shown.seat ≡ v.seat = ap (λ (w : ServerView). w.seat) then.is ∙ ap (λ (w : ServerView). w.seat) more.is in
      let chain : shown.chain ≡ v.chain = ap (λ (w : ServerView). w.chain) then.is ∙ ap (λ (w : ServerView). w.chain) more.is in
      let under : All (IsUnder padded.seat.roster) then.evidence =
      then.under (subst (λ (w : ServerView). key_of w.seat.roster (itself w) ≡ Some (public_key w.key)) (sym more.is) can.member)
      (subst (λ (w : ServerView). All (IsUnder w.seat.roster) w.evidence) (sym more.is) (more.under can.member can.under)) in
      let same : shown.evidence ≡ then.evidence = ap (λ (w : ServerView). w.evidence) then.is in
      looks_of k full within shown seat chain
      (subst (λ e. All (IsUnder v.seat.roster) e) (sym same)
      (subst (λ (w : ServerView). All (IsUnder w.seat.roster) then.evidence) more.is under))
  can_look_opened k full within s padded shown did signs (again said has there by is did_is same) =
      let more = signed_so v s padded signs in
      let seat : shown.seat ≡ v.seat = ap (λ (w : ServerView). w.seat) same ∙ ap (λ (w : ServerView). w.seat) more.is in
      let chain : shown.chain ≡ v.chain = ap (λ (w : ServerView). w.chain) same ∙ ap (λ (w : ServerView). w.chain) more.is in
      let evidence : shown.evidence ≡ more.evidence = ap (λ (w : ServerView). w.evidence) same ∙ ap (λ (w : ServerView). w.evidence) more.is in
      looks_of k full within shown seat chain (subst (λ e. All (IsUnder v.seat.roster) e) (sym evidence) (more.under can.member can.under))

-- the leaves that are due are there
pub leaves_first : (v : ServerView) (r : Round) → leaves_due v r ≤ left_of v - v.aside → length v.signed < leaf_count v.key
leaves_first v r enough = elim (cases_Bool (has_opened v r)) [
  | inl has ↦ let due : leaves_due v r ≡ 1 = ap (λ t. cond t 1 2) has in omega arith
  | inr lacks ↦ let due : leaves_due v r ≡ 2 = ap (λ t. cond t 1 2) lacks in omega arith
]

pub leaves_second : (v : ServerView) (r : Round) → leaves_due v r ≤ left_of v - v.aside → has_opened v r ≡ false → length v.signed + 1 < leaf_count v.key
leaves_second v r enough lacks = let due : leaves_due v r ≡ 2 = ap (λ t. cond t 1 2) lacks in omega arith

pub ok_both : {X E : Type 0} (P Q : X → Type 0) (r : Result X E) → IfOk r P → IfOk r Q → IfOk r (λ x. P x × Q x)
ok_both P Q (Ok x) p q = (p, q)
ok_both P Q (Err e) p q = tt

-- a place with a 1 is within
pub one_within : (bits : List Bool) (k : ℕ) → bit bits k ≡ true → k < length bits
one_within [] k h = absurd (false≢true h)
one_within (x ∷ xs) zero h = omega arith
one_within (x ∷ xs) (suc k) h = let rest = one_within xs k h in omega arith
