-- A server that takes a submission stays sound.
use Rattle.std.proofs.Common.{◌≡◌, ◌≢◌, ℕ, ◌<◌, Bool, true, false, List, [], ◌∷◌, length, get_or, Some, None, cond, refl, sym, ap, subst, ◌∙◌, arith, inl, inr}
use Rattle.std.specs.Prelude.{Option, slice_get, slice_set, ◌⊎◌}
use Rattle.std.specs.List.{filter_map, cons_option}
use Rattle.std.proofs.lemmas.Bool.Decides.{eqb_tells}
use Rattle.std.proofs.lemmas.List.{length_push, length-set, get_or-set_same, get_or-set_other}
use Rattle.std.proofs.lemmas.Option.{slice_get_within, slice_get-get_or, slice_get_past}
use Rattle.std.proofs.lemmas.Bool.{cases_lt}
use Rattle.dn_wire.specs.declared.ids.Round.{Round}
use Rattle.dn_wire.specs.declared.ids.SignerId.TheVariants as signers
use Rattle.dn_bits.specs.Bits.{below, bytes_of}
use Rattle.dn_hash.specs.Digests.{cipher_digest_of}
use Rattle.dn_window.specs.Window.{WindowState, clients_of, has_of, with_submission, with_included}
use Rattle.dn_record_types.specs.declared.inventory.Entry.{Entry}
use Rattle.dn_record_types.specs.declared.envelope.Envelope.{Envelope}
use Rattle.dn_record_types.specs.declared.inventory.Inventory.{Inventory}
use Rattle.dn_record_types.specs.declared.statement.Statement.TheVariants as kinds
use Rattle.dn_record_types.specs.declared.statement.WordTold.TheVariants as words
use Rattle.dn_roster.specs.Roster.{key_of}
use Rattle.dn_seal.specs.Said.{SaidView, IsSaid, IsUnder, Signs}
use Rattle.dn_seal.specs.Signer.{envelope}
use Rattle.dn_cert.specs.Signed.{EntryVerifies}
use Rattle.dn_server.specs.declared.answer.Answer.{Answer}
use Rattle.dn_server.specs.declared.claims.Claim.{Claim}
use Rattle.dn_server.specs.declared.run.Stage.{Stage}
use Rattle.dn_server.specs.Server.{ServerView, left_of, with_signed}
use Rattle.dn_exchange.specs.Closing.{entry_for, entry_from, entry_at, entries_of, inventory_of}
use Rattle.dn_exchange.specs.Submitting.{Submitted, IsSubmitted, IsFitting, Submits, TakesSubmission, word_for, with_claim, receipt_of}
use Rattle.dn_exchange.specs.Submitting.Submits.{is_refused, repeats, finds_no_leaf, is_claimed}
use Rattle.dn_exchange.specs.Invariant.{IsSound, IsRunning, IsAtStage, IsClaim, Standing, standing_of, claimed_entry}

-- ---- the window

module _ (w : WindowState) (i : ℕ) where
  after : Bool → Bool → WindowState
  after has closed = cond has w (cond closed (record w { submitted = slice_set w.submitted i true }) (with_included w i))

  pub window_clients : clients_of (with_submission w i) ≡ clients_of w
  unfolding after
  window_clients = by (has_of w i) w.closed
    where
      by : (has closed : Bool) → clients_of (after has closed) ≡ clients_of w
      by true closed = refl
      by false true = length-set w.submitted i true
      by false false = length-set w.submitted i true

  pub window_closed : (with_submission w i).closed ≡ w.closed
  unfolding after
  window_closed = by (has_of w i) w.closed
    where
      by : (has closed : Bool) → (after has closed).closed ≡ w.closed
      by true closed = refl
      by false true = refl
      by false false = refl

  -- a client that submitted has, and so has the one that submits
  pub window_has : (k : ℕ) → i < clients_of w → has_of w k ≡ true → has_of (with_submission w i) k ≡ true
  unfolding after
  window_has k lt h = by (has_of w i) w.closed
    where
      set_has : get_or (slice_set w.submitted i true) k false ≡ true
      set_has = elim (eqb_tells k i) [
        | inl same ↦ ap (λ n. get_or (slice_set w.submitted i true) n false) same.1 ∙ get_or-set_same w.submitted i true false lt
        | inr other ↦ get_or-set_other w.submitted i k true false other.1 ∙ h
      ]

      by : (has closed : Bool) → has_of (after has closed) k ≡ true
      by true closed = h
      by false true = set_has
      by false false = set_has

  pub window_has_new : i < clients_of w → has_of (with_submission w i) i ≡ true
  unfolding after
  window_has_new lt = by (has_of w i) w.closed refl
    where
      by : (has closed : Bool) → has_of w i ≡ has → has_of (after has closed) i ≡ true
      by true closed e = e
      by false true e = get_or-set_same w.submitted i true false lt
      by false false e = get_or-set_same w.submitted i true false lt

-- ---- the claims

some_is : (a b : Option Claim) → Some a ≡ Some b → a ≡ b
some_is a b e = cc

claim_is : (a b : Claim) → Some a ≡ Some b → a ≡ b
claim_is a b e = cc

module _ (claims : List (Option Claim)) (k : ℕ) (c : Claim) where
  abbrev set_claims : List (Option Claim)
  set_claims = slice_set claims k (Some c)

  pub claim_there : (i : ℕ) (x : Claim) → slice_get set_claims i ≡ Some (Some x) → ((i ≡ k) × (x ≡ c)) ⊎ (slice_get claims i ≡ Some (Some x))
  claim_there i x e =
      let none : Option Claim = None in
      let within = slice_get_within set_claims i (Some x) e in
      let inside : i < length claims = omega (arith, within, length-set claims k (Some c)) in
      let is = some_is (get_or set_claims i none) (Some x) (sym (slice_get-get_or set_claims i none within) ∙ e) in
      elim (eqb_tells i k) [
        | inl same ↦
            let there : k < length claims = omega (arith, inside, same.1) in
            inl (same.1, sym (claim_is c x (sym (get_or-set_same claims k (Some c) none there) ∙ ap (λ n. get_or set_claims n none) (sym same.1) ∙ is)))
        | inr other ↦ inr (slice_get-get_or claims i none inside ∙ ap Some (sym (get_or-set_other claims k i (Some c) none other.1) ∙ is))
      ]

filter_map_same : (f g : ℕ → Option Entry) → ((i : ℕ) → f i ≡ g i) → (xs : List ℕ) → filter_map f xs ≡ filter_map g xs
filter_map_same f g e [] = refl
filter_map_same f g e (x ∷ xs) = λ i. cons_option (e x i) (filter_map_same f g e xs i)

-- a claim that isn't told Included, where there was none, adds no entry
module _ (claims : List (Option Claim)) (k : ℕ) (c : Claim) (late : c.told ≡ words.Late) (new : (x : Claim) → slice_get claims k ≡ Some (Some x) → ⊥) where
  abbrev next : List (Option Claim)
  next = slice_set claims k (Some c)

  other_place : (i : ℕ) → i ≢ k → slice_get next i ≡ slice_get claims i
  other_place i ne = elim (cases_lt i (length claims)) [
    | inl lt ↦
        let none : Option Claim = None in
        let within : i < length next = omega (arith, lt, length-set claims k (Some c)) in
        slice_get-get_or next i none within ∙ ap Some (get_or-set_other claims k i (Some c) none ne) ∙ sym (slice_get-get_or claims i none lt)
    | inr ge ↦ slice_get_past next i (omega (arith, ge, length-set claims k (Some c))) ∙ sym (slice_get_past claims i ge)
  ]

  no_entry : (o : Option (Option Claim)) → slice_get claims k ≡ o → entry_from k o ≡ None
  no_entry None e = refl
  no_entry (Some None) e = refl
  no_entry (Some (Some x)) e = absurd (new x e)

  own_place : entry_at next k ≡ entry_at claims k
  own_place = elim (cases_lt k (length claims)) [
    | inl lt ↦
        let none : Option Claim = None in
        let within : k < length next = omega (arith, lt, length-set claims k (Some c)) in
        ap (entry_from k) (slice_get-get_or next k none within ∙ ap Some (get_or-set_same claims k (Some c) none lt))
        ∙ ap (λ t. entry_for k t c) late ∙ sym (no_entry (slice_get claims k) refl)
    | inr ge ↦ ap (entry_from k) (slice_get_past next k (omega (arith, ge, length-set claims k (Some c))) ∙ sym (slice_get_past claims k ge))
  ]

  entry_same : (i : ℕ) → entry_at next i ≡ entry_at claims i
  entry_same i = elim (eqb_tells i k) [
    | inl same ↦ subst (λ n. entry_at next n ≡ entry_at claims n) (sym same.1) own_place
    | inr other ↦ ap (entry_from i) (other_place i other.1)
  ]

  pub entries_same : entries_of next ≡ entries_of claims
  entries_same =
      ap (λ n. filter_map (entry_at next) (below n)) (length-set claims k (Some c)) ∙ filter_map_same (entry_at next) (entry_at claims) entry_same (below (length claims))

-- ---- the submission

module _ (v : ServerView) (said : SaidView) (cipher : List Bool) (t : Submitted) (is : IsSubmitted said cipher t) (at : IsSaid said) (under : IsUnder v.seat.roster said)
    (fits : IsFitting v.run t) (s : IsSound v) (new : has_of v.run.window t.client.0 ≡ false) where
  abbrev pub claim : Claim
  claim = record { told = word_for v.run.window.closed; digest = t.digest; signature = t.signature; cipher = t.cipher }

  key : key_of v.seat.roster (signers.Client t.client) ≡ Some said.key
  key = ap (key_of v.seat.roster) (sym (is.who ∙ fits.by_client)) ∙ under.1

  pub claim_within : t.client.0 < length v.seat.roster.clients
  claim_within = slice_get_within v.seat.roster.clients t.client.0 said.key key

  claim_verifies : EntryVerifies v.seat.roster v.run.r v.run.prev (claimed_entry t.client.0 claim)
  claim_verifies = (
    said.key,
    key,
    subst (λ (d : List ℕ). Signs d said.key (envelope (signers.Client t.client) (kinds.Submission v.run.r v.run.prev t.client t.digest) t.signature)) under.0
        (subst (λ (x : Envelope). Signs said.digest said.key x)
        (λ i. envelope ((is.who ∙ fits.by_client) i) ((is.statement ∙ (λ j. kinds.Submission (fits.round j) (fits.prev j) t.client t.digest)) i) (is.signature i)) at.verifies),
  )

  abbrev pub after_claim : ServerView
  after_claim = record (with_signed v (receipt_of v t)) { run = with_claim v.run t }

  pub none_before : (x : Claim) → slice_get v.run.claims t.client.0 ≡ Some (Some x) → ⊥
  none_before x e = apart (sym new ∙ s.claimed t.client.0 x e)
    where
      apart : false ≡ true → ⊥
      apart h = cc

  -- a window that is closed tells Late
  pub inventory_same : v.run.window.closed ≡ true → inventory_of (with_claim v.run t) ≡ inventory_of v.run
  inventory_same e = λ i. record { r = v.run.r; prev = v.run.prev; entries = entries_same v.run.claims t.client.0 claim (ap word_for e) none_before i }

  abbrev standing_with : Inventory → Standing
  standing_with inventory = record (standing_of v) { inventory = inventory }

  runs_on : IsRunning (standing_of v) → IsRunning (standing_of after_claim)
  runs_on h = elim (bool_is v.run.window.closed) [
    | inl shut ↦ subst (λ (x : Inventory). IsRunning (standing_with x)) (sym (inventory_same shut)) h
    | inr isnt ↦ record { course = h.course; kept = h.kept; inventories = h.inventories; strings = h.strings; stage = subst (λ (x : Stage). IsAtStage x (standing_of after_claim)) (sym (s.is_open isnt).1) tt }
  ]
    where
      bool_is : (b : Bool) → (b ≡ true) ⊎ (b ≡ false)
      bool_is true = inl refl
      bool_is false = inr refl

  pub claimed_sound : v.aside < left_of v → IsSound after_claim
  claimed_sound lt = record {
    seated = record { roster = s.seated.roster; number = s.seated.number; seeds = s.seated.seeds };
    member = s.member;
    is_key = s.is_key;
    workers = s.workers;
    slots = s.slots;
    in_group = s.in_group;
    window = window_clients v.run.window t.client.0 ∙ s.window;
    claims = length-set v.run.claims t.client.0 (Some claim) ∙ s.claims;
    are_claims = λ i x e.
        elim (claim_there v.run.claims t.client.0 claim i x e) [
          | inl here ↦ subst (λ (y : Claim). IsClaim v.seat v.run.r v.run.prev v.run.bits i y) (sym here.1) (subst (λ n. IsClaim v.seat v.run.r v.run.prev v.run.bits n claim) (sym here.0) mine)
          | inr there ↦ s.are_claims i x there
        ];
    claimed = λ i x e.
        elim (claim_there v.run.claims t.client.0 claim i x e) [
          | inl here ↦ subst (λ n. has_of (with_submission v.run.window t.client.0) n ≡ true) (sym here.0) (window_has_new v.run.window t.client.0 within)
          | inr there ↦ window_has v.run.window t.client.0 i within (s.claimed i x there)
        ];
    is_open = λ e. s.is_open (sym (window_closed v.run.window t.client.0) ∙ e);
    round = s.round;
    aside = λ b. omega (arith, lt, s.aside b, length_push v.signed (receipt_of v t));
    some_aside = λ b e. s.some_aside b (sym (window_closed v.run.window t.client.0) ∙ e);
    running = λ e. runs_on (s.running e);
  }
    where
      mine : IsClaim v.seat v.run.r v.run.prev v.run.bits t.client.0 claim
      mine = record {
        within = claim_within;
        long = fits.long;
        digest = fits.digest ∙ ap (λ (r : Round). cipher_digest_of r.0 t.client.0 (bytes_of t.cipher)) fits.round;
        verifies = claim_verifies;
      }

      within : t.client.0 < clients_of v.run.window
      within = omega (arith, claim_within, s.window)

pub takes_sound : (v : ServerView) (said : SaidView) (cipher : List Bool) (a : Answer) (w : ServerView) → IsSaid said → IsUnder v.seat.roster said → IsSound v
    → TakesSubmission v said cipher a w → IsSound w
takes_sound v said cipher a w at under s (t, is, does) = by does
  where
    by : Submits v t a w → IsSound w
    by (is_refused r f) = subst IsSound (sym f) s
    by (repeats fits has e f) = subst IsSound (sym f) s
    by (finds_no_leaf fits has l e f) = subst IsSound (sym f) s
    by (is_claimed fits has l e f) = subst IsSound (sym f) (claimed_sound v said cipher t is at under fits s has l)
