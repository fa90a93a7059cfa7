-- A server takes a submission: its client gets a claim and a receipt.
use Rattle.std.proofs.Common.{◌≡◌, ◌≢◌, ℕ, ◌<◌, ◌≤◌, List, [], ◌∷◌, ◌++◌, length, refl, sym, ap, subst, ◌∙◌, inl, inr, Bool, true, false, cond, arith}
use Rattle.std.specs.Prelude.{Contains, ◌⊎◌, Option, Some, None, slice_get, slice_set}
use Rattle.std.proofs.lemmas.Bool.{cases_eq, cases_lt}
use Rattle.std.proofs.lemmas.Option.{same_Some, slice_get_within, slice_get-get_or, slice_get_past}
use Rattle.std.proofs.lemmas.List.{length-set, get_or-set_other}
use Rattle.std.proofs.lemmas.List.Elements.{Contains-append_left, Contains-append_right}
use Rattle.dn_wire.specs.declared.ids.ClientId.{ClientId}
use Rattle.dn_wire.specs.declared.ids.ServerId.{ServerId}
use Rattle.dn_wire.specs.declared.ids.Round.{Round}
use Rattle.dn_wire.specs.declared.ids.Member.{Member}
use Rattle.dn_wire.specs.declared.ids.SignerId.TheVariants.{Client, Server}
use Rattle.dn_told.specs.declared.told.WindowTold.{WindowTold}
use Rattle.dn_told.specs.declared.told.WindowTold.TheVariants as tolds
use Rattle.dn_lms.specs.Key.{Key, IsKey, leaf_count}
use Rattle.dn_record_types.specs.declared.body.Body.{Body}
use Rattle.dn_record_types.specs.declared.payload.Payload.TheVariants as payloads
use Rattle.dn_record_types.specs.declared.statement.Statement.{Statement}
use Rattle.dn_record_types.specs.declared.statement.Statement.TheVariants as kinds
use Rattle.dn_record_types.specs.declared.statement.WordTold.{WordTold}
use Rattle.dn_record_types.specs.declared.statement.WordTold.TheVariants as words
use Rattle.dn_records.specs.Records.{payload_bytes}
use Rattle.dn_roster.specs.Roster.{RosterView}
use Rattle.dn_seal.specs.Dealt.{server}
use Rattle.dn_seal.specs.Signer.{CanSign, sealed_bytes}
use Rattle.dn_cert.specs.Certificate.{CertificateView}
use Rattle.dn_cert.proofs.Orders.{here, later, nothing, first_or_later}
use Rattle.dn_window.specs.Window.{WindowState, has_of, with_submission, with_included}
use Rattle.dn_server.specs.declared.act.Act.{Act}
use Rattle.dn_server.specs.declared.act.Act.TheVariants as acts
use Rattle.dn_server.specs.declared.act.SpoilReason.{SpoilReason}
use Rattle.dn_server.specs.declared.claims.Claim.{Claim}
use Rattle.dn_server.specs.Justified.{Seat}
use Rattle.dn_server.specs.Server.{ServerView, itself, left_of, client_member, post_next, sealed_next, with_signed}
use Rattle.dn_openings.specs.Accusing.{shown_of}
use Rattle.dn_exchange.specs.Disciplined.{Disciplined}
use Rattle.dn_exchange.specs.Submitting.{Submitted, IsFitting, word_for, told_for, receipt_of, with_claim}
use Rattle.dn_headline.specs.Run.{RunView}
use Rattle.dn_headline.specs.Spoken.{WasSubmitted, IsInFront}
use Rattle.dn_headline.specs.Invariant.{seat_of, word_of}
use Rattle.dn_links.specs.Link.{IsOfRecord}
use Rattle.dn_steps.specs.Tied.{IsServerTied}
use Rattle.dn_steps.proofs.Idle.{clash}
use Rattle.dn_steps.proofs.Places.{only, no_more}
use Rattle.dn_steps.proofs.Members.{set_is, set_other}
use Rattle.dn_steps.proofs.OwnPuts.{plain_goes}
use Rattle.dn_steps.proofs.Carrying.{AreCarried}
use Rattle.dn_steps.proofs.Carrying.AreCarried.{nothing_is, posts, tells}
use Rattle.dn_steps.proofs.InRound.{ActsInRound, PostsIt}
use Rattle.dn_steps.proofs.Sealing.{IsSealedOf, says_so, front_so}
use Rattle.dn_steps.proofs.Closing.{CallInRound}

-- ---- lists and words

get_other : {A : Type 0} (xs : List (Option A)) (i k : ℕ) (d : A) → k ≢ i → slice_get (slice_set xs i (Some d)) k ≡ slice_get xs k
get_other {A} xs i k d other =
    let none : Option A = None in
    let long = length-set xs i (Some d) in
    elim (cases_lt k (length xs)) [
      | inl within ↦ slice_get-get_or (slice_set xs i (Some d)) k none (omega (arith, long, within)) ∙ ap Some (get_or-set_other xs i k (Some d) none other)
          ∙ sym (slice_get-get_or xs k none within)
      | inr past ↦ slice_get_past (slice_set xs i (Some d)) k (omega (arith, long, past)) ∙ sym (slice_get_past xs k past)
    ]

words_agree : (t : Bool) → word_of (word_for t) ≡ told_for t
words_agree true = refl
words_agree false = refl

word_back : (word other : WordTold) → word_of word ≡ word_of other → word ≡ other
word_back words.Included words.Included e = refl
word_back words.Late words.Late e = refl
word_back words.Included words.Late e = absurd cc
word_back words.Late words.Included e = absurd cc

closed_same : (a b : Bool) (window : WindowState) (i : ℕ)
    → (cond a window (cond b (record window { submitted = slice_set window.submitted i true }) (with_included window i))).closed ≡ window.closed
closed_same true b window i = refl
closed_same false true window i = refl
closed_same false false window i = refl

same_id : (i k : ClientId) → i.0 ≡ k.0 → i ≡ k
same_id i k e = let make : ℕ → ClientId = λ n. record { 0 = n } in ap make e

module _ (w : RunView) (j : ServerId) (c : ServerView) (tied : IsServerTied w j c) (s : Submitted) (fits : IsFitting c.run s) (free : has_of c.run.window s.client.0 ≡ false)
    (room : c.aside < left_of c) (submitted : WasSubmitted w (Client s.client) (kinds.Submission s.r s.prev s.client s.digest) s.cipher)
    (disciplined : Disciplined (record (with_signed c (receipt_of c s)) { run = with_claim c.run s })) where
  abbrev d : ServerView
  d = record (with_signed c (receipt_of c s)) { run = with_claim c.run s }

  abbrev receipt : Statement
  receipt = receipt_of c s

  abbrev told_act : Act
  told_act = acts.Told s.client s.r (told_for c.run.window.closed)

  abbrev post : Act
  post = post_next c (client_member s.client.0 ∷ []) receipt

  abbrev did : List Act
  did = told_act ∷ post ∷ []

  abbrev claim_now : Claim
  claim_now = record { told = word_for c.run.window.closed; digest = s.digest; signature = s.signature; cipher = s.cipher }

  two : (a : Act) → Contains did a → (told_act ≡ a) ⊎ (post ≡ a)
  two a h = elim (first_or_later told_act (post ∷ []) a h) [ inl e ↦ inl e | inr behind ↦ inr (only post a behind) ]

  seat_is : c.seat ≡ seat_of w.group j
  seat_is = tied.linked.seat

  itself_is : itself c ≡ Server j
  itself_is = ap (λ (z : Seat). server z.number) seat_is

  signed_now : Contains d.signed receipt
  signed_now = Contains-append_right c.signed (receipt ∷ []) receipt (here receipt [])

  sealed : IsSealedOf w.group.roster j c.key receipt (payload_bytes (payloads.Plain (sealed_next c receipt)))
  sealed = record {
    can = subst (λ (who : _). CanSign who receipt) itself_is (disciplined.fits receipt signed_now);
    leaf = length c.signed;
    low = let free_leaf = room in omega arith;
    spelled = λ i. payload_bytes (payloads.Plain (sealed_bytes (seat_is i).roster (itself_is i) c.key (length c.signed) receipt));
  }

  told_same : (i : ClientId) (q : Round) (t : WindowTold) → told_act ≡ acts.Told i q t → (s.client ≡ i) × (s.r ≡ q) × (told_for c.run.window.closed ≡ t)
  told_same i q t e = (cc, cc, cc)

  post_same : (to : List Member) (bytes : List ℕ) → post ≡ acts.Post to bytes → payload_bytes (payloads.Plain (sealed_next c receipt)) ≡ bytes
  post_same to bytes e = cc

  told_in : (i : ClientId) (q : Round) (t : WindowTold) → Contains did (acts.Told i q t) → (s.client ≡ i) × (s.r ≡ q) × (told_for c.run.window.closed ≡ t)
  told_in i q t h = elim (two (acts.Told i q t) h) [ inl e ↦ told_same i q t e | inr e ↦ absurd cc ]

  -- the claim of the submission's client is told now
  told_now : (i : ClientId) (claim : Claim) → i.0 ≡ s.client.0 → claim ≡ claim_now
      → Contains did (acts.Told i c.run.r (word_of claim.told)) × WasSubmitted w (Client i) (kinds.Submission c.run.r c.run.prev i claim.digest) claim.cipher
  told_now i claim same is =
      let me : s.client ≡ i = sym (same_id i s.client same) in
      subst (λ (z : Claim). Contains did (acts.Told i c.run.r (word_of z.told)) × WasSubmitted w (Client i) (kinds.Submission c.run.r c.run.prev i z.digest) z.cipher) (sym is) (
        subst (λ (k : ClientId). Contains did (acts.Told k c.run.r (word_of (word_for c.run.window.closed)))) me
            (subst (λ (q : Round). Contains did (acts.Told s.client q (word_of (word_for c.run.window.closed)))) fits.round
            (subst (λ (t : WindowTold). Contains did (acts.Told s.client s.r t)) (sym (words_agree c.run.window.closed)) (here told_act (post ∷ [])))),
        subst (λ (k : ClientId). WasSubmitted w (Client k) (kinds.Submission c.run.r c.run.prev k s.digest) s.cipher) me
            (subst (λ (q : Round). WasSubmitted w (Client s.client) (kinds.Submission q c.run.prev s.client s.digest) s.cipher) fits.round
            (subst (λ (p : Round). WasSubmitted w (Client s.client) (kinds.Submission s.r p s.client s.digest) s.cipher) fits.prev submitted)),
      )

  claim_cases : (i : ClientId) (claim : Claim) → slice_get d.run.claims i.0 ≡ Some (Some claim) → (slice_get c.run.claims i.0 ≡ Some (Some claim))
      ⊎ (Contains did (acts.Told i c.run.r (word_of claim.told)) × WasSubmitted w (Client i) (kinds.Submission c.run.r c.run.prev i claim.digest) claim.cipher)
  claim_cases i claim h =
      elim (cases_eq i.0 s.client.0) [
        | inl same ↦
            let inside = slice_get_within d.run.claims i.0 (Some claim) h in
            let long = length-set c.run.claims s.client.0 (Some claim_now) in
            let is = set_is c.run.claims s.client.0 i.0 claim_now (Some claim) (omega (arith, inside, long, same)) same h in
            inr (told_now i claim same (same_Some claim claim_now is))
        | inr other ↦ inl (set_other c.run.claims s.client.0 i.0 claim_now (Some claim) other h)
      ]

  claim_stays : (i : ClientId) (claim : Claim) → slice_get c.run.claims i.0 ≡ Some (Some claim) → slice_get d.run.claims i.0 ≡ Some (Some claim)
  claim_stays i claim h =
      elim (cases_eq i.0 s.client.0) [
        | inl same ↦ absurd (clash (has_of c.run.window s.client.0) (subst (λ (n : ℕ). has_of c.run.window n ≡ true) same (tied.disciplined.claimed i claim h)) free)
        | inr other ↦ get_other c.run.claims s.client.0 i.0 claim_now other ∙ h
      ]

  claim_told : (i : ClientId) (word : WordTold) → Contains did (acts.Told i c.run.r (word_of word)) → (claim : Claim) × (slice_get d.run.claims i.0 ≡ Some (Some claim)) × (claim.told ≡ word)
  claim_told i word h =
      let is = told_in i c.run.r (word_of word) h in
      let same : word_for c.run.window.closed ≡ word = word_back (word_for c.run.window.closed) word (words_agree c.run.window.closed ∙ is.2) in
      let has = disciplined.receipts s.client s.digest (word_for c.run.window.closed)
      (subst (λ (q : Round). Contains d.signed (kinds.Receipt q s.client s.digest (word_for c.run.window.closed))) fits.round signed_now) in
      (has.0, subst (λ (k : ClientId). slice_get d.run.claims k.0 ≡ Some (Some has.0)) is.0 has.1, has.3 ∙ same)

  not_signed : (b : Body) → receipt ≡ kinds.Sign b → ⊥
  not_signed b e = absurd cc

  posts_it : PostsIt w j did receipt
  posts_it = record {
    to = client_member s.client.0 ∷ [];
    bytes = payload_bytes (payloads.Plain (sealed_next c receipt));
    posted = later told_act (post ∷ []) post (here post []);
    says = says_so w.group.roster j c.key tied.key tied.disciplined.is_key receipt (payload_bytes (payloads.Plain (sealed_next c receipt))) sealed;
    others = λ r k phase hk ne. absurd phase;
  }

  pub claimed_so : CallInRound w j c (acts.Told s.client s.r (told_for c.run.window.closed) ∷ post_next c (client_member s.client.0 ∷ []) (receipt_of c s) ∷ [])
      (record (with_signed c (receipt_of c s)) { run = with_claim c.run s })
  claimed_so = record {
    fresh = receipt ∷ [];
    does = record {
      seat = refl;
      key = refl;
      r = refl;
      prev = refl;
      stays_closed = λ h. closed_same (has_of c.run.window s.client.0) c.run.window.closed c.run.window s.client.0 ∙ h;
      keeps = λ z h. h;
      kept = λ z h. inl h;
      none_opened = λ q p h. elim (two (acts.Opened q p) h) [ inl e ↦ absurd cc | inr e ↦ absurd cc ];
      closes = λ q count h. absurd (elim (two (acts.Closed q count) h) [ inl e ↦ absurd cc | inr e ↦ absurd cc ]);
      told = λ i q t h. sym (told_in i q t h).1 ∙ fits.round;
      claims = claim_cases;
      claimed = claim_stays;
      told_claimed = claim_told;
      signed = refl;
      of_record = λ t h. subst (λ (z : Statement). IsOfRecord d z) (only receipt t h) fits.round;
      posted = λ t h. subst (PostsIt w j did) (only receipt t h) posts_it;
      fronts = λ to bytes h who t front. elim (two (acts.Post to bytes) h) [
        | inl e ↦ absurd cc
        | inr e ↦
            let is = front_so w.group.roster j c.key tied.key tied.disciplined.is_key receipt (payload_bytes (payloads.Plain (sealed_next c receipt))) sealed who t
            (subst (λ (b : List ℕ). IsInFront w.group.roster b who t) (sym (post_same to bytes e)) front) in
            (is.0, subst (Contains d.signed) (sym is.1) signed_now)
      ];
      prev_held = λ b h. absurd (not_signed b (only receipt (kinds.Sign b) h));
      grows = record { slots = refl; held = λ b h. h };
      one_each = λ one. one;
      new_held = λ b h. inl h;
      certified = λ e h. absurd (elim (two (acts.Certified e) h) [ inl x ↦ absurd cc | inr x ↦ absurd cc ]);
      none_held = λ q h. elim (two (acts.Held q) h) [ inl e ↦ absurd cc | inr e ↦ absurd cc ];
      runs_on = λ on. on;
      ran = λ on. inl on;
      spoiled = λ x reason kept came h. absurd (elim (two (acts.Spoiled x reason kept came) h) [ inl e ↦ absurd cc | inr e ↦ absurd cc ]);
      openings = λ h. record {
        evidence = h.evidence;
        opened = λ place at. let past = h.opened place at in (past.0, past.1, Contains-append_left c.signed (receipt ∷ []) (shown_of past.0) past.2);
      };
    };
    carried = tells told_act (post ∷ []) tt
        (posts (client_member s.client.0 ∷ []) (payload_bytes (payloads.Plain (sealed_next c receipt))) []
        (plain_goes w.group.roster (sealed_next c receipt) (client_member s.client.0 ∷ [])) nothing_is);
  }

-- a submission that the server has already: nothing is claimed, and that is told
pub repeated_so : (w : RunView) (j : ServerId) (c : ServerView) (i : ClientId) (r : Round) → r ≡ c.run.r → CallInRound w j c (acts.Told i r tolds.Repeat ∷ []) c
repeated_so w j c i r same = record {
  fresh = [];
  does = record {
    seat = refl;
    key = refl;
    r = refl;
    prev = refl;
    stays_closed = λ h. h;
    keeps = λ z h. h;
    kept = λ z h. inl h;
    none_opened = λ q p h. let e = is_it (acts.Opened q p) h in absurd cc;
    closes = λ q count h. let e = is_it (acts.Closed q count) h in absurd cc;
    told = λ k q t h. sym (round_of_told k q t (is_it (acts.Told k q t) h)) ∙ same;
    claims = λ k claim h. inl h;
    claimed = λ k claim h. h;
    told_claimed = λ k word h. absurd (not_word k c.run.r word (is_it (acts.Told k c.run.r (word_of word)) h));
    signed = no_more c.signed;
    of_record = λ t h. absurd (nothing t h);
    posted = λ t h. absurd (nothing t h);
    fronts = λ to bytes h. let e = is_it (acts.Post to bytes) h in absurd cc;
    prev_held = λ b h. absurd (nothing _ h);
    grows = record { slots = refl; held = λ b h. h };
    one_each = λ one. one;
    new_held = λ b h. inl h;
    certified = λ e h. let x = is_it (acts.Certified e) h in absurd cc;
    none_held = λ q h. let e = is_it (acts.Held q) h in absurd cc;
    runs_on = λ on. on;
    ran = λ on. inl on;
    spoiled = λ x reason kept came h. let e = is_it (acts.Spoiled x reason kept came) h in absurd cc;
    openings = λ h. h;
  };
  carried = tells (acts.Told i r tolds.Repeat) [] tt nothing_is;
} where
  is_it : (a : Act) → Contains (acts.Told i r tolds.Repeat ∷ []) a → acts.Told i r tolds.Repeat ≡ a
  is_it a h = only (acts.Told i r tolds.Repeat) a h

  round_of_told : (k : ClientId) (q : Round) (t : WindowTold) → acts.Told i r tolds.Repeat ≡ acts.Told k q t → r ≡ q
  round_of_told k q t e = cc

  not_word : (k : ClientId) (q : Round) (word : WordTold) → acts.Told i r tolds.Repeat ≡ acts.Told k q (word_of word) → ⊥
  not_word k q words.Included e = absurd cc
  not_word k q words.Late e = absurd cc
