-- A server that isn't bent stays honest where it takes submissions, opens rounds, and hears of openings.
use Rattle.std.proofs.Common.{◌≡◌, ◌≢◌, ℕ, ◌<◌, ◌≤◌, Bool, true, false, List, [], ◌∷◌, ◌++◌, length, Some, None, refl, sym, ap, subst, ◌∙◌, arith, inl, inr}
use Rattle.std.specs.Prelude.{Option, Contains, ◌⊎◌, slice_get, slice_set}
use Rattle.std.proofs.lemmas.Bool.{cases_lt}
use Rattle.std.proofs.lemmas.List.{length-set, get_or-set_same, get_or-set_other}
use Rattle.std.proofs.lemmas.List.Elements.{Contains-append_left, Contains-push, Contains-push_cases}
use Rattle.std.proofs.lemmas.Option.{slice_get_within, slice_get-get_or}
use Rattle.dn_wire.specs.declared.ids.ClientId.{ClientId}
use Rattle.dn_wire.specs.declared.ids.Round.{Round}
use Rattle.dn_record_types.specs.declared.statement.Statement.{Statement}
use Rattle.dn_record_types.specs.declared.statement.Statement.TheVariants as kinds
use Rattle.dn_record_types.specs.declared.statement.WordTold.{WordTold}
use Rattle.dn_records.specs.Records.{kind_byte}
use Rattle.dn_layout.specs.Layout.{bits_of}
use Rattle.dn_seal.specs.Said.{SaidView, IsSaid, IsUnder}
use Rattle.dn_cert.specs.Chain.{IsLayoutAfter}
use Rattle.dn_window.specs.Window.{has_of, with_submission}
use Rattle.dn_server.specs.declared.answer.Answer.{Answer}
use Rattle.dn_server.specs.declared.claims.Claim.{Claim}
use Rattle.dn_server.specs.declared.past.Past.{Past}
use Rattle.dn_server.specs.declared.run.Stage.TheVariants as stages
use Rattle.dn_server.specs.Keeping.{round_of}
use Rattle.dn_server.specs.Server.{ServerView}
use Rattle.dn_openings.specs.Discipline.{KeepsOpenings}
use Rattle.dn_openings.specs.Hearing.{HearsEvidence}
use Rattle.dn_openings.proofs.DisciplineLemmas.{hears_keep}
use Rattle.dn_exchange.specs.Disciplined.{IsPastAs, HasSaidNone}
use Rattle.dn_exchange.specs.Honest.{IsHonest, IsTrue}
use Rattle.dn_exchange.specs.Invariant.{IsSound}
use Rattle.dn_exchange.specs.Listening.{Hears, not_by_server, of_round, of_evidence}
use Rattle.dn_exchange.specs.Opening.{Opens, IsOld, fresh_run, expected_by}
use Rattle.dn_exchange.specs.Opening.Opens.{is_old, is_running, is_spent, opens}
use Rattle.dn_exchange.specs.Submitting.{Submitted, IsSubmitted, IsFitting, Submits, TakesSubmission, word_for, receipt_of}
use Rattle.dn_exchange.specs.Submitting.Submits.{is_refused, repeats, finds_no_leaf, is_claimed}
use Rattle.dn_exchange.proofs.ClaimSound.{claim, after_claim, claim_there, claim_within, none_before, inventory_same, window_closed}
use Rattle.dn_exchange.proofs.EvidenceSound.{IsOpening, Grown, hears_grown}
use Rattle.dn_exchange.proofs.FirstSound.{none_claimed}
use Rattle.dn_exchange.proofs.HonestCalls.{hears_round_true}
use Rattle.dn_exchange.proofs.HonestSigned.{Adds, adds_true}

-- ---- submissions

module _ (v : ServerView) (said : SaidView) (cipher : List Bool) (t : Submitted) (is : IsSubmitted said cipher t) (at : IsSaid said) (under : IsUnder v.seat.roster said)
    (fits : IsFitting v.run t) (s : IsSound v) (new : has_of v.run.window t.client.0 ≡ false) (h : IsTrue v) where
  abbrev mine : Claim
  mine = claim v said cipher t is at under fits s new

  abbrev receipt : Statement
  receipt = receipt_of v t

  none : (x : Claim) → slice_get v.run.claims t.client.0 ≡ Some (Some x) → ⊥
  none = none_before v said cipher t is at under fits s new

  within : t.client.0 < length v.run.claims
  within = let lt = claim_within v said cipher t is at under fits s new in omega (arith, lt, s.claims)

  abbrev claims : List (Option Claim)
  claims = slice_set v.run.claims t.client.0 (Some mine)

  -- the client's claim is there, and the others are as they were
  here : slice_get claims t.client.0 ≡ Some (Some mine)
  here =
      let nothing : Option Claim = None in
      let inside : t.client.0 < length claims = omega (arith, within, length-set v.run.claims t.client.0 (Some mine)) in
      slice_get-get_or claims t.client.0 nothing inside ∙ ap Some (get_or-set_same v.run.claims t.client.0 (Some mine) nothing within)

  others : (i : ℕ) (x : Claim) → slice_get v.run.claims i ≡ Some (Some x) → slice_get claims i ≡ Some (Some x)
  others i x e =
      let nothing : Option Claim = None in
      let lt = slice_get_within v.run.claims i (Some x) e in
      let inside : i < length claims = omega (arith, lt, length-set v.run.claims t.client.0 (Some mine)) in
      let other : i ≢ t.client.0 = λ same. none x (subst (λ n. slice_get v.run.claims n ≡ Some (Some x)) same e) in
      slice_get-get_or claims i nothing inside ∙ ap Some (get_or-set_other v.run.claims t.client.0 i (Some mine) nothing other)
      ∙ sym (slice_get-get_or v.run.claims i nothing lt) ∙ e

  round : t.r ≡ v.run.r
  round = fits.round

  cases : (x : Statement) → Contains (v.signed ++ receipt ∷ []) x → Contains v.signed x ⊎ (receipt ≡ x)
  cases x c = Contains-push_cases v.signed receipt x c

  -- no receipt of this round was signed for the client before
  no_other : (r : Round) (i : ClientId) (d : List ℕ) (w : WordTold) → Contains v.signed (kinds.Receipt r i d w) → r ≡ t.r → i ≡ t.client → ⊥
  no_other r i d w c same_r same_i =
      let old : Contains v.signed (kinds.Receipt v.run.r i d w) = subst (λ (q : Round). Contains v.signed (kinds.Receipt q i d w)) (same_r ∙ round) c in
      let had = h.honest.receipts i d w old in
      none had.0 (subst (λ (k : ClientId). slice_get v.run.claims k.0 ≡ Some (Some had.0)) same_i had.1)

  receipt_is : (r : Round) (i : ClientId) (d : List ℕ) (w : WordTold) → receipt ≡ kinds.Receipt r i d w
      → (t.r ≡ r) × (t.client ≡ i) × (t.digest ≡ d) × (word_for v.run.window.closed ≡ w)
  receipt_is r i d w e = ((cc), (cc), (cc), (cc))

  collecting : v.run.stage ≢ stages.Collecting → v.run.window.closed ≡ true
  collecting isnt = by v.run.window.closed refl
    where
      by : (b : Bool) → v.run.window.closed ≡ b → b ≡ true
      by true e = refl
      by false e = absurd (isnt (s.is_open e).1)

  adds : Adds v (v.signed ++ receipt ∷ []) (with_submission v.run.window t.client.0) claims v.opened v.evidence v.challenged
  adds = record {
    stay = λ x c. Contains-append_left v.signed (receipt ∷ []) x c;
    come = λ x c. elim (cases x c) [ inl was ↦ inl was | inr same ↦ inr (sym (ap round_of same)) ];
    inventory = λ isnt. inventory_same v said cipher t is at under fits s new (collecting isnt);
    included = λ x c w. record { client = w.client; claim = w.claim; claimed = others w.client.0 w.claim w.claimed; told = w.told; is = w.is; cipher = w.cipher };
    of_kinds = λ x c. elim (cases x c) [ inl was ↦ h.honest.of_kinds x was | inr same ↦ subst (λ (y : Statement). (2 ≤ kind_byte y) × (kind_byte y ≤ 8)) same (omega arith, omega arith) ];
    receipt_rounds = λ r i d w c.
        elim (cases (kinds.Receipt r i d w) c) [
          | inl was ↦ h.honest.receipt_rounds r i d w was
          | inr same ↦
              let parts = receipt_is r i d w same in
              let low = fits.started in
              let equal : t.r.0 ≡ v.run.r.0 = ap (λ (q : Round). q.0) round in
              subst (λ (q : Round). (1 ≤ q.0) × (q.0 ≤ v.run.r.0)) parts.0 (omega arith, omega arith)
        ];
    one_receipt = λ r i d e w x a b.
        elim (cases (kinds.Receipt r i d w) a) [
          | inl was_a ↦ elim (cases (kinds.Receipt r i e x) b) [
            | inl was_b ↦ h.honest.one_receipt r i d e w x was_a was_b
            | inr new_b ↦ let parts = receipt_is r i e x new_b in absurd (no_other r i d w was_a (sym parts.0) (sym parts.1))
          ]
          | inr new_a ↦ elim (cases (kinds.Receipt r i e x) b) [
            | inl was_b ↦ let parts = receipt_is r i d w new_a in absurd (no_other r i e x was_b (sym parts.0) (sym parts.1))
            | inr new_b ↦ sym new_a ∙ new_b
          ]
        ];
    receipts = λ i d w c.
        elim (cases (kinds.Receipt v.run.r i d w) c) [
          | inl was ↦ let had = h.honest.receipts i d w was in (had.0, others i.0 had.0 had.1, had.2, had.3)
          | inr same ↦
              let parts = receipt_is v.run.r i d w same in
              (mine, subst (λ (k : ClientId). slice_get claims k.0 ≡ Some (Some mine)) parts.1 here, parts.2, parts.3)
        ];
    claimed = λ i x e.
        elim (claim_there v.run.claims t.client.0 mine i.0 x e) [
          | inl same ↦
              let client : t.client ≡ i = λ k. record { 0 = sym same.0 k } in
              subst (λ (c : Claim). Contains (v.signed ++ receipt ∷ []) (kinds.Receipt v.run.r i c.digest c.told)) (sym same.1)
              (subst (λ (q : Round). Contains (v.signed ++ receipt ∷ []) (kinds.Receipt q i t.digest (word_for v.run.window.closed))) round
              (subst (λ (k : ClientId). Contains (v.signed ++ receipt ∷ []) (kinds.Receipt t.r k t.digest (word_for v.run.window.closed))) client (Contains-push v.signed receipt)))
          | inr was ↦ Contains-append_left v.signed (receipt ∷ []) (kinds.Receipt v.run.r i x.digest x.told) (h.honest.claims i x was)
        ];
    openings = record {
      pads = λ r k bits c.
          elim (cases (kinds.PadBits r k bits) c) [
            | inl was ↦
                let x = h.honest.openings.pads r k bits was in
                record {
                  body = x.body;
                  past = x.past;
                  signed = record { held = x.signed.held; round = x.signed.round; kept = x.signed.kept; of_body = x.signed.of_body };
                  full = x.full;
                  within = x.within;
                  true_bits = x.true_bits;
                }
            | inr same ↦ absurd (let clash = same in cc)
          ];
      shown = λ r y own c.
          elim (cases (kinds.Shown r y own) c) [
            | inl was ↦
                let x = h.honest.openings.shown r y own was in
                record {
                  body = x.body;
                  past = x.past;
                  signed = record { held = x.signed.held; round = x.signed.round; kept = x.signed.kept; of_body = x.signed.of_body };
                  full = x.full;
                  are = x.are;
                }
            | inr same ↦ absurd (let clash = same in cc)
          ];
    };
    listed = λ runs stage. window_closed v.run.window t.client.0 ∙ h.honest.listed runs stage;
  }

  claim_true : IsTrue (after_claim v said cipher t is at under fits s new)
  claim_true = adds_true v (v.signed ++ receipt ∷ []) (with_submission v.run.window t.client.0) claims v.opened v.evidence v.challenged h adds

pub takes_true : (v : ServerView) (said : SaidView) (cipher : List Bool) (a : Answer) (w : ServerView) → IsSaid said → IsUnder v.seat.roster said → IsSound v → IsTrue v
    → TakesSubmission v said cipher a w → IsTrue w
takes_true v said cipher a w at under s h (t, is, does) = by does
  where
    by : Submits v t a w → IsTrue w
    by (is_refused r f) = subst IsTrue (sym f) h
    by (repeats fits has e f) = subst IsTrue (sym f) h
    by (finds_no_leaf fits has l e f) = subst IsTrue (sym f) h
    by (is_claimed fits has l e f) = subst IsTrue (sym f) (claim_true v said cipher t is at under fits s has h)

-- ---- openings

opening_of_none : (t : Statement) → IsOpening t → round_of t ≡ None
opening_of_none (kinds.Submission r prev i d) o = refl
opening_of_none (kinds.Receipt r i d w) o = refl
opening_of_none (kinds.Inventory i) o = absurd (omega (arith, o.0))
opening_of_none (kinds.Commit r d) o = absurd (omega (arith, o.0))
opening_of_none (kinds.Reveal r s) o = absurd (omega (arith, o.0))
opening_of_none (kinds.Sign b) o = absurd (omega (arith, o.0))
opening_of_none (kinds.PadBits r k bits) o = refl
opening_of_none (kinds.Shown r s own) o = refl
opening_of_none (kinds.Accusation r s k) o = refl
opening_of_none (kinds.Rebuttal r k x seed e) o = refl
opening_of_none (kinds.Concede r k) o = refl

pub evidence_true : (v : ServerView) (said : SaidView) (a : Answer) (w : ServerView) → HearsEvidence v said a w → IsTrue v → IsTrue w
evidence_true v said a w hears h =
    let grown = hears_grown v said a w hears in
    let g : Grown v w grown.0 = grown.1 in
    let old : (r : Round) (i : ClientId) (d : List ℕ) (x : WordTold) → Contains g.signed (kinds.Receipt r i d x) → Contains v.signed (kinds.Receipt r i d x) =
    λ r i d x c. elim (g.come (kinds.Receipt r i d x) c) [ inl was ↦ was | inr o ↦ absurd (omega (arith, o.0)) ] in
    let openings = subst KeepsOpenings g.is (hears_keep v said a w hears h.honest.openings) in
    subst IsTrue (sym g.is)
    (adds_true v g.signed v.run.window v.run.claims g.opened g.evidence g.challenged h (record {
      stay = g.stay;
      come = λ t c. elim (g.come t c) [ inl was ↦ inl was | inr o ↦ inr (opening_of_none t o) ];
      inventory = λ isnt. refl;
      included = λ s c x. record { client = x.client; claim = x.claim; claimed = x.claimed; told = x.told; is = x.is; cipher = x.cipher };
      of_kinds = λ t c. elim (g.come t c) [ inl was ↦ h.honest.of_kinds t was | inr o ↦ (omega (arith, o.0), o.1) ];
      receipt_rounds = λ r i d x c. h.honest.receipt_rounds r i d x (old r i d x c);
      one_receipt = λ r i d e x y a b. h.honest.one_receipt r i d e x y (old r i d x a) (old r i e y b);
      receipts = λ i d x c. h.honest.receipts i d x (old v.run.r i d x c);
      claimed = λ i x e. g.stay (kinds.Receipt v.run.r i x.digest x.told) (h.honest.claims i x e);
      openings = openings;
      listed = h.honest.listed;
    }))

pub listens_true : (v : ServerView) (y : SaidView) (a : Answer) (w : ServerView) → IsSound v → v.bent ≡ false → IsTrue v → IsSaid y → IsUnder v.seat.roster y → Hears v y a w → IsTrue w
listens_true v y a w s straight h said under (not_by_server r round other e same) = subst IsTrue (sym same) h
listens_true v y a w s straight h said under (of_round j r by round hears) = hears_round_true v j r y a w s straight h said under round by hears
listens_true v y a w s straight h said under (of_evidence round hears) = evidence_true v y a w hears h

-- ---- opening a round

module _ (v : ServerView) (r prev : Round) (layout : List ℕ) (new : ¬ IsOld v r) (after : IsLayoutAfter v.chain prev.0 layout) (h : IsTrue v) where
  abbrev fresh : ServerView
  fresh = record v { aside = 4; run = fresh_run (length v.seat.roster.clients) (expected_by v.seat) r prev (bits_of layout) }

  later : v.run.r.0 < r.0
  later = elim (cases_lt v.run.r.0 r.0) [ inl lt ↦ lt | inr ge ↦ absurd (new (inl ge)) ]

  -- nothing that was signed is of the round
  of_before : (t : Statement) (q : Round) → Contains v.signed t → round_of t ≡ Some q → q ≡ r → ⊥
  of_before t q c round same = let below = h.honest.rounds t q c round in let equal : q.0 ≡ r.0 = ap (λ (x : Round). x.0) same in let lt = later in omega arith

  nothing_said : (kind : ℕ) → HasSaidNone fresh kind
  nothing_said kind t c round e = of_before t r c round refl

  past_on : (thin : Bool) (past : Past) → IsPastAs thin v past → IsPastAs thin fresh past
  past_on true past x = x
  past_on false past x = record { layout = x.layout; after = x.after; long = x.long; rows = x.rows; value = x.value; digest = x.digest }

  fresh_honest : IsHonest fresh
  fresh_honest = record {
    chain = h.honest.chain;
    straight = h.honest.straight;
    of_kinds = h.honest.of_kinds;
    rounds = λ t q c round. let was = h.honest.rounds t q c round in let lt = later in (was.0, omega arith);
    receipt_rounds = λ q i d w c. let was = h.honest.receipt_rounds q i d w c in let lt = later in (was.0, omega arith);
    one_each = h.honest.one_each;
    one_receipt = h.honest.one_receipt;
    receipts = λ i d w c. absurd (let was = h.honest.receipt_rounds r i d w c in let lt = later in omega arith);
    claims = λ i x e. absurd (none_claimed (length v.seat.roster.clients) i.0 x e);
    reveals = h.honest.reveals;
    course = λ low. (layout, after, refl);
    said = (nothing_said 3, nothing_said 4, nothing_said 5, nothing_said 6);
    signs = λ b c round. absurd (of_before (kinds.Sign b) b.r c refl round);
    pasts = h.honest.pasts;
    past_are = λ past there. let x = h.honest.past_are past there in (x.0, past_on past.body.thin past x.1);
    openings = record {
      pads = λ q k bits c.
          let x = h.honest.openings.pads q k bits c in
          record {
            body = x.body;
            past = x.past;
            signed = record { held = x.signed.held; round = x.signed.round; kept = x.signed.kept; of_body = x.signed.of_body };
            full = x.full;
            within = x.within;
            true_bits = x.true_bits;
          };
      shown = λ q y own c.
          let x = h.honest.openings.shown q y own c in
          record {
            body = x.body;
            past = x.past;
            signed = record { held = x.signed.held; round = x.signed.round; kept = x.signed.kept; of_body = x.signed.of_body };
            full = x.full;
            are = x.are;
          };
    };
    one_kept = λ a b c d who kind. absurd (omega (arith, c.1));
    fitting = λ on j d y other commit reveal. absurd (let clash = commit in cc);
    listed = λ on stage. refl;
    set_aside = λ on. omega arith;
  }

pub opens_true : (v : ServerView) (r : Round) (a : Answer) (w : ServerView) → IsTrue v → Opens v r a w → IsTrue w
opens_true v r a w h (is_old o e same) = subst IsTrue (sym same) h
opens_true v r a w h (is_running n o e same) = subst IsTrue (sym same) h
opens_true v r a w h (is_spent n o l e same) = subst IsTrue (sym same) h
opens_true v r a w h (opens prev layout n o l latest after e same) = subst IsTrue (sym same) (record { honest = fresh_honest v r prev layout n after h; gone = λ runs. tt })
