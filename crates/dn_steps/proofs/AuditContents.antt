-- What a payload shows, by what it opens to.
use Rattle.std.proofs.Common.{◌≡◌, ◌≢◌, ℕ, Bool, true, false, List, [], ◌∷◌, ◌++◌, map, Result, Ok, Err, refl, sym, ap, subst, ◌∙◌, inl, inr}
use Rattle.std.specs.Prelude.{Contains, ◌⊎◌, ◌↔◌, Option, Some, None}
use Rattle.std.proofs.lemmas.List.Elements.{Contains-append_left, Contains-append_right, Contains-append_cases}
use Rattle.dn_wire.specs.declared.ids.SignerId.{SignerId}
use Rattle.dn_wire.specs.declared.ids.SignerId.TheVariants.{Client, Server, Slot}
use Rattle.dn_record_types.specs.declared.payload.Payload.{Payload}
use Rattle.dn_record_types.specs.declared.payload.Payload.TheVariants as payloads
use Rattle.dn_record_types.specs.declared.shown.ShownCipher.{ShownCipher}
use Rattle.dn_record_types.specs.declared.statement.Statement.{Statement}
use Rattle.dn_record_types.specs.declared.statement.Statement.TheVariants as kinds
use Rattle.dn_records.specs.Records.{payload_bytes, payload_of, statement_bytes, IsPayload}
use Rattle.dn_record_types.proofs.RecordLaws.{payload_once, payload_again}
use Rattle.dn_roster.specs.Roster.{RosterView, digest_of, signed_bytes_of}
use Rattle.dn_seal.specs.Said.{SaidView, Unseals}
use Rattle.dn_seal.proofs.SaidLemmas.{said_unseals, unsealed_once}
use Rattle.dn_cert.proofs.ListLemmas.{Contains-map, Contains-from_map}
use Rattle.dn_cert.proofs.Orders.{here, nothing}
use Rattle.dn_seal.specs.declared.challenge.Challenge.{Challenge}
use Rattle.dn_cert.specs.Certificate.{CertificateView}
use Rattle.dn_cert.specs.Opening.{IsOpened, IsOpenedEnvelope, IsUnopenedPayload, IsClosed, IsSubmission as IsOfSubmission}
use Rattle.dn_cert.specs.declared.opened.Opened.{Opened}
use Rattle.dn_cert.specs.declared.opened.Opened.TheVariants as opened
use Rattle.dn_cert.specs.declared.payload_fault.PayloadFault.{PayloadFault}
use Rattle.dn_cert.specs.declared.payload_fault.PayloadFault.TheVariants as faults
use Rattle.dn_payloads.specs.declared.content.Content.{Content}
use Rattle.dn_payloads.specs.declared.content.Content.TheVariants as contents
use Rattle.dn_payloads.specs.Payloads.{IsContent}
use Rattle.dn_audit.specs.Strings.{Hashed}
use Rattle.dn_audit.specs.Auditor.{AuditorView, RunStrings, NotesSigned, hashed_seed, hashed_cipher, hashed_sum, with_shown}
use Rattle.dn_state.specs.Putting.{front_of, with_cipher, with_shown_in, NotesOwn}
use Rattle.dn_headline.specs.Spoken.{Says, Submits, IsSubmission, IsInFront}
use Rattle.dn_auditing.specs.Shows.{ShowsSeed, ShowsCipher, ShowsSum, AddsShown}
use Rattle.dn_auditing.specs.Shows.ShowsCipher.{submitted, shown as shows_cipher}
use Rattle.dn_auditing.specs.Shows.ShowsSum.{revealed, shown as shows_sum}
use Rattle.dn_auditing.specs.Known.{NotesFront}
use Rattle.dn_steps.proofs.Places.{no_more, only}
use Rattle.dn_steps.proofs.Unopened.{unopened_says, unopened_submits}

submission_here : (s : Statement) → IsOfSubmission s → IsSubmission s
submission_here (kinds.Submission r prev i d) is = tt
submission_here (kinds.Receipt r i d t) is = absurd is
submission_here (kinds.Inventory v) is = absurd is
submission_here (kinds.Commit r d) is = absurd is
submission_here (kinds.Reveal r s) is = absurd is
submission_here (kinds.Sign b) is = absurd is
submission_here (kinds.PadBits r k bs) is = absurd is
submission_here (kinds.Shown r s xs) is = absurd is
submission_here (kinds.Accusation r s k) is = absurd is
submission_here (kinds.Rebuttal r k j seed e) is = absurd is
submission_here (kinds.Concede r k) is = absurd is

module _ (roster : RosterView) (bytes : List ℕ) where
  -- ---- what is said in a payload that opens

  same_payload : (p q : Payload) → IsPayload p → IsPayload q → bytes ≡ payload_bytes p → bytes ≡ payload_bytes q → p ≡ q
  same_payload p q fits other_fits is other_is = payload_once p q fits other_fits (sym is ∙ other_is)

  same_plain : (d e : List ℕ) → payloads.Plain d ≡ payloads.Plain e → d ≡ e
  same_plain d e h = cc

  same_submission : (c x : List Bool) (d e : List ℕ) → payloads.Submission c d ≡ payloads.Submission x e → (c ≡ x) × (d ≡ e)
  same_submission c x d e h = (cc, cc)

  pub said_plain : (said : SaidView) → IsContent roster bytes (contents.Opened (opened.Plain said)) → Says roster bytes said.signer said.statement
  said_plain said h = by h.0 h.1 h.2 h.3
    where
      by : (p : Payload) → IsPayload p → bytes ≡ payload_bytes p → IsOpened roster p (opened.Plain said) → Says roster bytes said.signer said.statement
      by (payloads.Plain e) fits is o = record {
        envelope = e;
        is = record { fits = fits; spelled = is };
        unseals = subst (λ (b : List ℕ). Unseals roster b said.signer said.statement) o.2 (said_unseals roster said o.0 o.1);
      }
      by (payloads.Submission c e) fits is o = absurd o
      by (payloads.Certificate b s) fits is o = absurd o
      by (payloads.Challenge r k es) fits is o = absurd o

  pub said_submission : (cipher : List Bool) (said : SaidView) → IsContent roster bytes (contents.Opened (opened.Submission cipher said))
      → Submits roster bytes said.signer said.statement cipher
  said_submission cipher said h = by h.0 h.1 h.2 h.3
    where
      by : (p : Payload) → IsPayload p → bytes ≡ payload_bytes p → IsOpened roster p (opened.Submission cipher said) → Submits roster bytes said.signer said.statement cipher
      by (payloads.Submission c e) fits is o =
          subst (λ (x : List Bool). Submits roster bytes said.signer said.statement x) (sym o.0) (record {
            submission = submission_here said.statement o.2;
            envelope = e;
            is = record { fits = fits; spelled = is };
            unseals = subst (λ (b : List ℕ). Unseals roster b said.signer said.statement) o.1.2 (said_unseals roster said o.1.0 o.1.1);
          })
      by (payloads.Plain e) fits is o = absurd o
      by (payloads.Certificate b s) fits is o = absurd o
      by (payloads.Challenge r k es) fits is o = absurd o

  says_once : (i j : SignerId) (s t : Statement) → Says roster bytes i s → Says roster bytes j t → (i ≡ j) × (s ≡ t)
  says_once i j s t a b =
      let same = same_plain a.envelope b.envelope (same_payload (payloads.Plain a.envelope) (payloads.Plain b.envelope) a.is.fits b.is.fits a.is.spelled b.is.spelled) in
      unsealed_once roster b.envelope i j s t (subst (λ (e : List ℕ). Unseals roster e i s) same a.unseals) b.unseals

  submits_once : (i j : SignerId) (s t : Statement) (c d : List Bool) → Submits roster bytes i s c → Submits roster bytes j t d → (i ≡ j) × (s ≡ t) × (c ≡ d)
  submits_once i j s t c d a b =
      let same = same_submission c d a.envelope b.envelope
      (same_payload (payloads.Submission c a.envelope) (payloads.Submission d b.envelope) a.is.fits b.is.fits a.is.spelled b.is.spelled) in
      let one = unsealed_once roster b.envelope i j s t (subst (λ (e : List ℕ). Unseals roster e i s) same.1 a.unseals) b.unseals in
      (one.0, one.1, same.0)

  not_both : (i j : SignerId) (s t : Statement) (c : List Bool) → Says roster bytes i s → Submits roster bytes j t c → ⊥
  not_both i j s t c a b =
      let same = same_payload (payloads.Plain a.envelope) (payloads.Submission c b.envelope) a.is.fits b.is.fits a.is.spelled b.is.spelled in absurd cc

  -- ---- a payload in which nothing is said

  abbrev IsSilent : Type 0
  IsSilent = ((who : SignerId) (s : Statement) → Says roster bytes who s → ⊥) × ((who : SignerId) (s : Statement) (c : List Bool) → Submits roster bytes who s c → ⊥)

  silent_certificate : (p : Payload) (o : Opened) → IsPayload p → bytes ≡ payload_bytes p → ((e : List ℕ) → p ≡ payloads.Plain e → ⊥)
      → ((c : List Bool) (e : List ℕ) → p ≡ payloads.Submission c e → ⊥) → IsSilent
  silent_certificate p o fits is no_plain no_submission = (
    λ who s a. no_plain a.envelope (same_payload p (payloads.Plain a.envelope) fits a.is.fits is a.is.spelled),
    λ who s c b. no_submission c b.envelope (same_payload p (payloads.Submission c b.envelope) fits b.is.fits is b.is.spelled),
  )

  opens_silent : (p : Payload) (o : Opened) → IsPayload p → bytes ≡ payload_bytes p → IsOpened roster p o
      → ((said : SaidView) → o ≡ opened.Plain said → ⊥) → ((c : List Bool) (said : SaidView) → o ≡ opened.Submission c said → ⊥) → IsSilent
  opens_silent (payloads.Plain e) (opened.Plain said) fits is h a b = absurd (a said refl)
  opens_silent (payloads.Plain e) (opened.Submission c said) fits is h a b = absurd h
  opens_silent (payloads.Plain e) (opened.Certificate c) fits is h a b = absurd h
  opens_silent (payloads.Plain e) (opened.Challenge c) fits is h a b = absurd h
  opens_silent (payloads.Submission x e) (opened.Submission c said) fits is h a b = absurd (b c said refl)
  opens_silent (payloads.Submission x e) (opened.Plain said) fits is h a b = absurd h
  opens_silent (payloads.Submission x e) (opened.Certificate c) fits is h a b = absurd h
  opens_silent (payloads.Submission x e) (opened.Challenge c) fits is h a b = absurd h
  opens_silent (payloads.Certificate body signatures) o fits is h a b =
      silent_certificate (payloads.Certificate body signatures) o fits is (λ e same. absurd cc) (λ c e same. absurd cc)
  opens_silent (payloads.Challenge r k es) o fits is h a b = silent_certificate (payloads.Challenge r k es) o fits is (λ e same. absurd cc) (λ c e same. absurd cc)

  unopened_silent : (fault : PayloadFault) → fault ≢ faults.NoMemory → IsUnopenedPayload roster bytes fault → IsSilent
  unopened_silent fault other h = ((λ who s a. unopened_says roster bytes who s fault other h a), (λ who s c b. unopened_submits roster bytes who s c fault other h b))

  certificate_silent : (c : CertificateView) → IsContent roster bytes (contents.Opened (opened.Certificate c)) → IsSilent
  certificate_silent c h = opens_silent h.0 (opened.Certificate c) h.1 h.2 h.3 (λ said e. absurd cc) (λ x said e. absurd cc)

  challenge_silent : (c : Challenge) → IsContent roster bytes (contents.Opened (opened.Challenge c)) → IsSilent
  challenge_silent c h = opens_silent h.0 (opened.Challenge c) h.1 h.2 h.3 (λ said e. absurd cc) (λ x said e. absurd cc)

  -- ---- what stands in front

  module _ (own : Bool) (old new : AuditorView) where
    -- nothing
    silent_front : IsSilent → new ≡ old → NotesFront roster own bytes old new
    silent_front silent same = subst (NotesFront roster own bytes old) (sym same) (record {
      signed = λ x. (
        λ h. inl h,
        λ h. elim h [
          | inl before ↦ before
          | inr front ↦ absurd (elim front.3 [ inl says ↦ silent.0 front.1 front.2 says | inr submits ↦ silent.1 front.1 front.2 submits.0 submits.1 ])
        ],
      );
      are_theirs = refl;
      tells = λ x h. h;
    })

    -- what others put isn't noted
    others_front : own ≡ false → new ≡ old → NotesFront roster own bytes old new
    others_front unowned same = subst (NotesFront roster own bytes old) (sym same) (record {
      signed = λ x. (λ h. inl h, λ h. elim h [ inl before ↦ before | inr front ↦ absurd (let clash = sym front.0 ∙ unowned in cc) ]);
      are_theirs = refl;
      tells = λ x h. h;
    })

    -- one statement
    one_front : own ≡ true → (who : SignerId) (s : Statement) → IsInFront roster bytes who s
        → ((by : SignerId) (t : Statement) → IsInFront roster bytes by t → (by ≡ who) × (t ≡ s)) → NotesSigned old new (signed_bytes_of (digest_of roster) who (statement_bytes s))
        → NotesFront roster own bytes old new
    one_front owned who s front one notes = record {
      signed = λ x. (
        λ h. elim ((notes.signed x).0 h) [ inl before ↦ inl before | inr is ↦ inr (owned, who, s, front, is) ],
        λ h. (notes.signed x).1 (elim h [
          | inl before ↦ inl before
          | inr other ↦ let same = one other.1 other.2 other.3 in
              inr (other.4 ∙ ap (λ (w : SignerId). signed_bytes_of (digest_of roster) w (statement_bytes other.2)) same.0
              ∙ ap (λ (t : Statement). signed_bytes_of (digest_of roster) who (statement_bytes t)) same.1)
        ]),
      );
      are_theirs = notes.are_theirs;
      tells = notes.tells;
    }

  plain_once : (who by : SignerId) (s t : Statement) → Says roster bytes who s → IsInFront roster bytes by t → (by ≡ who) × (t ≡ s)
  plain_once who by s t says front =
      elim front [ inl other ↦ says_once by who t s other says | inr submits ↦ absurd (not_both who by s t submits.0 says submits.1) ]

  submission_once : (who by : SignerId) (s t : Statement) (c : List Bool) → Submits roster bytes who s c → IsInFront roster bytes by t → (by ≡ who) × (t ≡ s)
  submission_once who by s t c submits front =
      elim front [
        | inl says ↦ absurd (not_both by who t s c says submits)
        | inr other ↦ let one = submits_once by who t s other.0 c other.1 submits in (one.0, one.1)
      ]

  silent_notes : (own : Bool) (old new : AuditorView) → IsSilent → NotesOwn roster own None old new → NotesFront roster own bytes old new
  silent_notes true old new silent h = silent_front true old new silent h
  silent_notes false old new silent h = silent_front false old new silent h

  -- what is noted by the rules of a world is what stands in front
  pub front_noted : (own : Bool) (content : Content) (old new : AuditorView) → IsContent roster bytes content → NotesOwn roster own (front_of content) old new
      → NotesFront roster own bytes old new
  front_noted true (contents.Opened (opened.Plain said)) old new is notes =
      let says = said_plain said is in
      one_front true old new refl said.signer said.statement (inl says) (λ by t front. plain_once said.signer by said.statement t says front) notes
  front_noted true (contents.Opened (opened.Submission cipher said)) old new is notes =
      let submits = said_submission cipher said is in
      one_front true old new refl said.signer said.statement (inr (cipher, submits)) (λ by t front. submission_once said.signer by said.statement t cipher submits front) notes
  front_noted false (contents.Opened (opened.Plain said)) old new is same = others_front false old new refl same
  front_noted false (contents.Opened (opened.Submission cipher said)) old new is same = others_front false old new refl same
  front_noted own (contents.Opened (opened.Certificate c)) old new is notes = silent_notes own old new (certificate_silent c is) notes
  front_noted own (contents.Opened (opened.Challenge c)) old new is notes = silent_notes own old new (challenge_silent c is) notes
  front_noted own contents.Form old new is notes = silent_notes own old new (unopened_silent faults.Form (λ e. absurd cc) is) notes
  front_noted own contents.Stranger old new is notes = silent_notes own old new (unopened_silent faults.Stranger (λ e. absurd cc) is) notes
  front_noted own contents.Signature old new is notes = silent_notes own old new (unopened_silent faults.Signature (λ e. absurd cc) is) notes

-- ---- the strings that a statement shows

seeds_of : SignerId → Statement → List Hashed
seeds_of (Client i) (kinds.Rebuttal r k j seed e) = hashed_seed i.0 j.0 seed ∷ []
seeds_of _ _ = []

ciphers_of : SignerId → Statement → List Hashed
ciphers_of (Server j) (kinds.Shown r s shown) = map (λ (c : ShownCipher). hashed_cipher r.0 c.client.0 c.cipher) shown
ciphers_of _ _ = []

sums_of : SignerId → Statement → List Hashed
sums_of (Server j) (kinds.Reveal r s) = hashed_sum r.0 j.0 s ∷ []
sums_of (Server j) (kinds.Shown r s shown) = hashed_sum r.0 j.0 s ∷ []
sums_of _ _ = []

module _ (x : RunStrings) where
  more_seeds : (who : SignerId) (s : Statement) → (with_shown x who s).seeds ≡ x.seeds ++ seeds_of who s
  unfolding seeds_of
  more_seeds (Client i) (kinds.Rebuttal r k j seed e) = refl
  more_seeds (Server j) (kinds.Reveal r s) = no_more x.seeds
  more_seeds (Server j) (kinds.Shown r s shown) = no_more x.seeds
  more_seeds _ _ = no_more x.seeds

  more_ciphers : (who : SignerId) (s : Statement) → (with_shown x who s).ciphers ≡ x.ciphers ++ ciphers_of who s
  unfolding ciphers_of
  more_ciphers (Client i) (kinds.Rebuttal r k j seed e) = no_more x.ciphers
  more_ciphers (Server j) (kinds.Reveal r s) = no_more x.ciphers
  more_ciphers (Server j) (kinds.Shown r s shown) = refl
  more_ciphers _ _ = no_more x.ciphers

  more_sums : (who : SignerId) (s : Statement) → (with_shown x who s).sums ≡ x.sums ++ sums_of who s
  unfolding sums_of
  more_sums (Client i) (kinds.Rebuttal r k j seed e) = no_more x.sums
  more_sums (Server j) (kinds.Reveal r s) = refl
  more_sums (Server j) (kinds.Shown r s shown) = refl
  more_sums _ _ = no_more x.sums

-- what is added behind, one by one
added : (P : Hashed → Type 0) (xs more all : List Hashed) (y : Hashed) → all ≡ xs ++ more → Contains more y ↔ P y → Contains all y ↔ (Contains xs y ⊎ P y)
added P xs more all y is f = (
  λ h. elim (Contains-append_cases xs more y (subst (λ l. Contains l y) is h)) [ inl before ↦ inl before | inr now ↦ inr (f.0 now) ],
  λ h. subst (λ l. Contains l y) (sym is) (elim h [ inl before ↦ Contains-append_left xs more y before | inr now ↦ Contains-append_right xs more y (f.1 now) ]),
)

-- nothing is added
unadded : (P : Hashed → Type 0) (xs all : List Hashed) (y : Hashed) → all ≡ xs → (P y → ⊥) → Contains all y ↔ (Contains xs y ⊎ P y)
unadded P xs all y is none = (
  λ h. inl (subst (λ l. Contains l y) is h),
  λ h. elim h [ inl before ↦ subst (λ l. Contains l y) (sym is) before | inr now ↦ absurd (none now) ],
)

one_of : (x y : Hashed) → y ≡ x → Contains (x ∷ []) y
one_of x y is = subst (Contains (x ∷ [])) (sym is) (here x [])

module _ (roster : RosterView) (bytes : List ℕ) where
  -- a payload in which nothing is said shows nothing
  silent_shows : IsSilent roster bytes → AddsShown roster bytes (λ x. x)
  silent_shows silent = record {
    seeds = λ x y. unadded (ShowsSeed roster bytes) x.seeds x.seeds y refl (λ h. silent.0 (Client h.client) (kinds.Rebuttal h.r h.k h.server h.seed h.envelope) h.says);
    ciphers = λ x y. unadded (ShowsCipher roster bytes) x.ciphers x.ciphers y refl (λ h. no_cipher y h);
    sums = λ x y. unadded (ShowsSum roster bytes) x.sums x.sums y refl (λ h. no_sum y h);
  }
    where
      no_cipher : (y : Hashed) → ShowsCipher roster bytes y → ⊥
      no_cipher y (submitted who r prev i digest cipher put is) = silent.1 who (kinds.Submission r prev i digest) cipher put
      no_cipher y (shows_cipher j r sum ciphers c says among is) = silent.0 (Server j) (kinds.Shown r sum ciphers) says

      no_sum : (y : Hashed) → ShowsSum roster bytes y → ⊥
      no_sum y (revealed j r sum says is) = silent.0 (Server j) (kinds.Reveal r sum) says
      no_sum y (shows_sum j r sum ciphers says is) = silent.0 (Server j) (kinds.Shown r sum ciphers) says

  -- ---- a plain payload

  module _ (who : SignerId) (s : Statement) (says : Says roster bytes who s) (y : Hashed) where
    seed_shown : (by : SignerId) (t : Statement) → Says roster bytes by t → Contains (seeds_of by t) y → ShowsSeed roster bytes y
    unfolding seeds_of
    seed_shown (Client i) (kinds.Rebuttal r k j seed e) said h =
        record { client = i; server = j; r = r; k = k; seed = seed; envelope = e; says = said; is = sym (only (hashed_seed i.0 j.0 seed) y h) }
    seed_shown _ _ said h = absurd (nothing y h)

    seed_there : ShowsSeed roster bytes y → Contains (seeds_of who s) y
    unfolding seeds_of
    seed_there h =
        let t : Statement = kinds.Rebuttal h.r h.k h.server h.seed h.envelope in
        let same = says_once roster bytes (Client h.client) who t s h.says says in
        subst (λ (z : Statement). Contains (seeds_of who z) y) same.1
        (subst (λ (w : SignerId). Contains (seeds_of w t) y) same.0 (one_of (hashed_seed h.client.0 h.server.0 h.seed) y h.is))

    cipher_shown : (by : SignerId) (t : Statement) → Says roster bytes by t → Contains (ciphers_of by t) y → ShowsCipher roster bytes y
    unfolding ciphers_of
    cipher_shown (Server j) (kinds.Shown r sum shown) said h =
        let from = Contains-from_map (λ (c : ShownCipher). hashed_cipher r.0 c.client.0 c.cipher) shown y h in
        shows_cipher j r sum shown from.0 said from.1 (sym from.2)
    cipher_shown _ _ said h = absurd (nothing y h)

    cipher_there : ShowsCipher roster bytes y → Contains (ciphers_of who s) y
    unfolding ciphers_of
    cipher_there (submitted by r prev i digest cipher put is) = absurd (not_both roster bytes who by s (kinds.Submission r prev i digest) cipher says put)
    cipher_there (shows_cipher j r sum ciphers c said among is) =
        let t : Statement = kinds.Shown r sum ciphers in
        let same = says_once roster bytes (Server j) who t s said says in
        let hash : ShownCipher → Hashed = λ z. hashed_cipher r.0 z.client.0 z.cipher in
        subst (λ (z : Statement). Contains (ciphers_of who z) y) same.1
        (subst (λ (w : SignerId). Contains (ciphers_of w t) y) same.0 (subst (Contains (map hash ciphers)) (sym is) (Contains-map hash ciphers c among)))

    sum_shown : (by : SignerId) (t : Statement) → Says roster bytes by t → Contains (sums_of by t) y → ShowsSum roster bytes y
    unfolding sums_of
    sum_shown (Server j) (kinds.Reveal r sum) said h = revealed j r sum said (sym (only (hashed_sum r.0 j.0 sum) y h))
    sum_shown (Server j) (kinds.Shown r sum shown) said h = shows_sum j r sum shown said (sym (only (hashed_sum r.0 j.0 sum) y h))
    sum_shown _ _ said h = absurd (nothing y h)

    sum_there : ShowsSum roster bytes y → Contains (sums_of who s) y
    unfolding sums_of
    sum_there (revealed j r sum said is) =
        let t : Statement = kinds.Reveal r sum in
        let same = says_once roster bytes (Server j) who t s said says in
        subst (λ (z : Statement). Contains (sums_of who z) y) same.1 (subst (λ (w : SignerId). Contains (sums_of w t) y) same.0 (one_of (hashed_sum r.0 j.0 sum) y is))
    sum_there (shows_sum j r sum ciphers said is) =
        let t : Statement = kinds.Shown r sum ciphers in
        let same = says_once roster bytes (Server j) who t s said says in
        subst (λ (z : Statement). Contains (sums_of who z) y) same.1 (subst (λ (w : SignerId). Contains (sums_of w t) y) same.0 (one_of (hashed_sum r.0 j.0 sum) y is))

  plain_shows : (who : SignerId) (s : Statement) → Says roster bytes who s → AddsShown roster bytes (λ x. with_shown x who s)
  plain_shows who s says = record {
    seeds = λ x y. added (ShowsSeed roster bytes) x.seeds (seeds_of who s) (with_shown x who s).seeds y (more_seeds x who s)
        (seed_shown who s says y who s says, seed_there who s says y);
    ciphers = λ x y. added (ShowsCipher roster bytes) x.ciphers (ciphers_of who s) (with_shown x who s).ciphers y (more_ciphers x who s)
        (cipher_shown who s says y who s says, cipher_there who s says y);
    sums = λ x y. added (ShowsSum roster bytes) x.sums (sums_of who s) (with_shown x who s).sums y (more_sums x who s)
        (sum_shown who s says y who s says, sum_there who s says y);
  }

  -- ---- a submission payload

  module _ (who : SignerId) (s : Statement) (cipher : List Bool) (submits : Submits roster bytes who s cipher) where
    no_seed : (y : Hashed) → ShowsSeed roster bytes y → ⊥
    no_seed y h = not_both roster bytes (Client h.client) who (kinds.Rebuttal h.r h.k h.server h.seed h.envelope) s cipher h.says submits

    no_sum_there : (y : Hashed) → ShowsSum roster bytes y → ⊥
    no_sum_there y (revealed j r sum says is) = not_both roster bytes (Server j) who (kinds.Reveal r sum) s cipher says submits
    no_sum_there y (shows_sum j r sum ciphers says is) = not_both roster bytes (Server j) who (kinds.Shown r sum ciphers) s cipher says submits

  -- the ciphertext that comes with a submission
  submission_shows : (who : SignerId) (s : Statement) (cipher : List Bool) → Submits roster bytes who s cipher → AddsShown roster bytes (with_cipher s cipher)
  submission_shows who (kinds.Submission r prev i digest) cipher submits =
      let t : Statement = kinds.Submission r prev i digest in
      let hash = hashed_cipher r.0 i.0 cipher in
      record {
        seeds = λ x y. unadded (ShowsSeed roster bytes) x.seeds x.seeds y refl (no_seed who t cipher submits y);
        ciphers = λ x y. added (ShowsCipher roster bytes) x.ciphers (hash ∷ []) (x.ciphers ++ hash ∷ []) y refl (
          λ h. submitted who r prev i digest cipher submits (sym (only hash y h)),
          λ h. shown_there y h,
        );
        sums = λ x y. unadded (ShowsSum roster bytes) x.sums x.sums y refl (no_sum_there who t cipher submits y);
      }
    where
      shown_there : (y : Hashed) → ShowsCipher roster bytes y → Contains (hashed_cipher r.0 i.0 cipher ∷ []) y
      shown_there y (submitted by q before k d c put is) =
          let same = submits_once roster bytes by who (kinds.Submission q before k d) (kinds.Submission r prev i digest) c cipher put submits in
          one_of (hashed_cipher r.0 i.0 cipher) y (is ∙ hash_is q k c same.1 same.2)
        where
          hash_is : (o : _) (l : _) (z : List Bool) → kinds.Submission o before l d ≡ kinds.Submission r prev i digest → z ≡ cipher → hashed_cipher o.0 l.0 z ≡ hashed_cipher r.0 i.0 cipher
          hash_is o l z same_statement same_cipher =
              let round : o ≡ r = cc in let client : l ≡ i = cc in λ t. hashed_cipher (round t).0 (client t).0 (same_cipher t)
      shown_there y (shows_cipher j q sum ciphers c says among is) =
          absurd (not_both roster bytes (Server j) who (kinds.Shown q sum ciphers) (kinds.Submission r prev i digest) cipher says submits)
  submission_shows who (kinds.Receipt r i d t) cipher submits = absurd submits.submission
  submission_shows who (kinds.Inventory v) cipher submits = absurd submits.submission
  submission_shows who (kinds.Commit r d) cipher submits = absurd submits.submission
  submission_shows who (kinds.Reveal r s) cipher submits = absurd submits.submission
  submission_shows who (kinds.Sign b) cipher submits = absurd submits.submission
  submission_shows who (kinds.PadBits r k bs) cipher submits = absurd submits.submission
  submission_shows who (kinds.Shown r s xs) cipher submits = absurd submits.submission
  submission_shows who (kinds.Accusation r s k) cipher submits = absurd submits.submission
  submission_shows who (kinds.Rebuttal r k j seed e) cipher submits = absurd submits.submission
  submission_shows who (kinds.Concede r k) cipher submits = absurd submits.submission

  -- what a world adds to the strings is what a payload shows
  pub content_shows : (content : Content) → IsContent roster bytes content → AddsShown roster bytes (with_shown_in content)
  content_shows (contents.Opened (opened.Plain said)) is = plain_shows said.signer said.statement (said_plain roster bytes said is)
  content_shows (contents.Opened (opened.Submission cipher said)) is = submission_shows said.signer said.statement cipher (said_submission roster bytes cipher said is)
  content_shows (contents.Opened (opened.Certificate c)) is = silent_shows (certificate_silent roster bytes c is)
  content_shows (contents.Opened (opened.Challenge c)) is = silent_shows (challenge_silent roster bytes c is)
  content_shows contents.Form is = silent_shows (unopened_silent roster bytes faults.Form (λ e. absurd cc) is)
  content_shows contents.Stranger is = silent_shows (unopened_silent roster bytes faults.Stranger (λ e. absurd cc) is)
  content_shows contents.Signature is = silent_shows (unopened_silent roster bytes faults.Signature (λ e. absurd cc) is)
