-- What stands in front of payloads, put by put: a finite list.
use Rattle.std.proofs.Common.{◌≡◌, ℕ, ◌+◌, ◌<◌, List, [], ◌∷◌, ◌++◌, length, refl, sym, ap, subst, ◌∙◌, inl, inr, Bool}
use Rattle.std.specs.Prelude.{Contains, ◌⊎◌, Result, Ok, Err, Option, Some, None}
use Rattle.std.proofs.lemmas.Option.{same_Some}
use Rattle.std.proofs.lemmas.List.{get_or-append-add}
use Rattle.std.proofs.lemmas.List.Elements.{Contains-append_left, Contains-append_right, Contains-append_cases}
use Rattle.dn_wire.specs.declared.ids.SignerId.{SignerId}
use Rattle.dn_record_types.specs.declared.envelope.Envelope.{Envelope}
use Rattle.dn_record_types.specs.declared.statement.Statement.{Statement}
use Rattle.dn_record_types.specs.declared.fault.RecordFault.{RecordFault}
use Rattle.dn_record_types.specs.declared.payload.Payload.{Payload}
use Rattle.dn_record_types.specs.declared.payload.Payload.TheVariants as payloads
use Rattle.dn_record_types.specs.Exact.{IsBytes}
use Rattle.dn_records.specs.Records.{payload_bytes, payload_of, envelope_of}
use Rattle.dn_record_types.proofs.RecordLaws.{payload_found, payload_again, payload_once, envelope_found, envelope_again, envelope_once}
use Rattle.dn_roster.specs.Roster.{RosterView, digest_of, key_of}
use Rattle.dn_seal.specs.Signer.{envelope}
use Rattle.dn_seal.specs.Said.{Signs, Unseals}
use Rattle.dn_cert.proofs.Orders.{here, later, nothing, first_or_later}
use Rattle.dn_headline.specs.Log.{Put}
use Rattle.dn_headline.specs.Spoken.{IsPayloadOf}
use Rattle.dn_headline.proofs.Deciding.{Decided, decide_verifies}

-- ---- lists of lists

pub gather : {A B : Type 0} → (A → List B) → List A → List B
gather f [] = []
gather f (x ∷ xs) = f x ++ gather f xs

pub gathered : {A B : Type 0} (f : A → List B) (xs : List A) (x : A) (y : B) → Contains xs x → Contains (f x) y → Contains (gather f xs) y
unfolding gather
gathered f [] x y h g = absurd (nothing x h)
gathered {A} {B} f (z ∷ xs) x y h g =
    elim (first_or_later z xs x h) [
      | inl is ↦ Contains-append_left (f z) (gather f xs) y (subst (λ (a : A). Contains (f a) y) (sym is) g)
      | inr behind ↦ Contains-append_right (f z) (gather f xs) y (gathered f xs x y behind g)
    ]

pub gathered_from : {A B : Type 0} (f : A → List B) (xs : List A) (y : B) → Contains (gather f xs) y → (x : A) × Contains xs x × Contains (f x) y
unfolding gather
gathered_from f [] y h = absurd (nothing y h)
gathered_from f (z ∷ xs) y h =
    elim (Contains-append_cases (f z) (gather f xs) y h) [
      | inl first ↦ (z, here z xs, first)
      | inr behind ↦ let x = gathered_from f xs y behind in (x.0, later z xs x.0 x.1, x.2)
    ]

-- ---- envelopes

-- a statement with its signer; and the ciphertext of the submission payload in front of which it stands, or none in a plain payload
pub record Front : Type 0 where
  pub who : SignerId
  pub statement : Statement
  pub cipher : Option (List Bool)

-- the envelope is in front of a payload with these bytes, which is of this form
pub record IsFront (roster : RosterView) (bytes : List ℕ) (f : Front) : Type 0 where
  pub envelope : List ℕ
  pub payload : Payload
  pub form : ((payload ≡ payloads.Plain envelope) × (f.cipher ≡ None)) ⊎ ((c : List Bool) × (payload ≡ payloads.Submission c envelope) × (f.cipher ≡ Some c))
  pub is : IsPayloadOf bytes payload
  pub unseals : Unseals roster envelope f.who f.statement

bytes_behind : (xs ys : List ℕ) → IsBytes (xs ++ ys) → IsBytes ys
bytes_behind xs ys h i = subst (λ (n : ℕ). n < 256) (get_or-append-add xs ys i 0) (h (length xs + i))

err_is_not : (fault : RecordFault) (y : Envelope) → ◌≡◌ {A = Result Envelope RecordFault} (Err fault) (Ok y) → ⊥
err_is_not fault y e = absurd cc

ok_is : (x y : Envelope) → ◌≡◌ {A = Result Envelope RecordFault} (Ok x) (Ok y) → x ≡ y
ok_is x y e = cc

none_is_not : (k : List ℕ) → ◌≡◌ {A = Option (List ℕ)} None (Some k) → ⊥
none_is_not k e = absurd cc

module _ (roster : RosterView) (bytes : List ℕ) (are : IsBytes bytes) where
  abbrev Opens : Type 0
  Opens = (who : SignerId) × (s : Statement) × Unseals roster bytes who s

  reads_so : (who : SignerId) (s : Statement) (u : Unseals roster bytes who s) → envelope_of bytes ≡ Ok (envelope who s u.signature)
  reads_so who s u = ap envelope_of u.spelled ∙ envelope_again (envelope who s u.signature) u.fits

  of_key : (e : Envelope) → envelope_of bytes ≡ Ok e → (o : Option (List ℕ)) → key_of roster e.signer ≡ o → Decided Opens
  of_key e at None known = inr (λ h.
      let u = h.2 in
      let same = ok_is e (envelope h.0 h.1 u.signature) (sym at ∙ reads_so h.0 h.1 u) in
      none_is_not u.key (sym known ∙ ap (λ (x : Envelope). key_of roster x.signer) same ∙ u.known))
  of_key e at (Some key) known =
      let found = envelope_found bytes are e at in
      elim (decide_verifies key _ _) [
        | inl verifies ↦ inl (
          e.signer,
          e.statement,
          record { signature = e.signature; key = key; fits = found.0; spelled = found.1; known = known; verifies = verifies },
        )
        | inr not_so ↦ inr (λ h.
            let u = h.2 in
            let same = ok_is e (envelope h.0 h.1 u.signature) (sym at ∙ reads_so h.0 h.1 u) in
            let key_is : u.key ≡ key = same_Some u.key key (sym u.known ∙ ap (λ (x : Envelope). key_of roster x.signer) (sym same) ∙ known) in
            not_so (subst (λ (x : Envelope). Signs (digest_of roster) key x) (sym same)
            (subst (λ (k : List ℕ). Signs (digest_of roster) k (envelope h.0 h.1 u.signature)) key_is u.verifies)))
      ]

  of_result : (o : Result Envelope RecordFault) → envelope_of bytes ≡ o → Decided Opens
  of_result (Ok e) at = of_key e at (key_of roster e.signer) refl
  of_result (Err fault) at = inr (λ h. err_is_not fault (envelope h.0 h.1 h.2.signature) (sym at ∙ reads_so h.0 h.1 h.2))

  pub decide_opens : Decided ((who : SignerId) × (s : Statement) × Unseals roster bytes who s)
  decide_opens = of_result (envelope_of bytes) refl

pub opens_once : (roster : RosterView) (bytes : List ℕ) (who by : SignerId) (s t : Statement) → Unseals roster bytes who s → Unseals roster bytes by t → (who ≡ by) × (s ≡ t)
opens_once roster bytes who by s t u v =
    let same = envelope_once (envelope who s u.signature) (envelope by t v.signature) u.fits v.fits (sym u.spelled ∙ v.spelled) in
    (ap (λ (x : Envelope). x.signer) same, ap (λ (x : Envelope). x.statement) same)

-- ---- what stands in front of a payload

-- these are all fronts of the bytes
pub record AreFronts (roster : RosterView) (bytes : List ℕ) (fs : List Front) : Type 0 where
  pub each : (f : Front) → Contains fs f → IsFront roster bytes f
  pub all : (f : Front) → IsFront roster bytes f → Contains fs f

module _ (roster : RosterView) (bytes : List ℕ) (are : IsBytes bytes) where
  abbrev Found : Type 0
  Found = (fs : List Front) × AreFronts roster bytes fs

  none_found : ((f : Front) → IsFront roster bytes f → ⊥) → Found
  none_found refutes = ([], record { each = λ f h. absurd (nothing f h); all = λ f h. absurd (refutes f h) })

  same_payload : (x y : Payload) → IsPayloadOf bytes x → IsPayloadOf bytes y → x ≡ y
  same_payload x y a b = payload_once x y a.fits b.fits (sym a.spelled ∙ b.spelled)

  plain_envelope : (e d : List ℕ) → payloads.Plain e ≡ payloads.Plain d → e ≡ d
  plain_envelope e d is = cc

  submission_parts : (c x : List Bool) (e d : List ℕ) → payloads.Submission c e ≡ payloads.Submission x d → (c ≡ x) × (e ≡ d)
  submission_parts c x e d is = (cc, cc)

  apart : (c : List Bool) (e d : List ℕ) → payloads.Submission c e ≡ payloads.Plain d → ⊥
  apart c e d is = absurd cc

  in_plain : (e : List ℕ) → IsBytes e → IsPayloadOf bytes (payloads.Plain e) → Found
  in_plain e its is =
      elim (decide_opens roster e its) [
        | inl o ↦ (
          record { who = o.0; statement = o.1; cipher = None } ∷ [],
          record {
            each = λ f h. subst (IsFront roster bytes) (only f (record { who = o.0; statement = o.1; cipher = None }) h)
                (record { envelope = e; payload = payloads.Plain e; form = inl (refl, refl); is = is; unseals = o.2 });
            all = λ f h. elim h.form [
              | inl plain ↦
                  let same = plain_envelope h.envelope e (sym plain.0 ∙ same_payload h.payload (payloads.Plain e) h.is is) in
                  let one = opens_once roster e o.0 f.who o.1 f.statement o.2 (subst (λ (x : List ℕ). Unseals roster x f.who f.statement) same h.unseals) in
                  let none = plain.1 in
                  subst (Contains (record { who = o.0; statement = o.1; cipher = None } ∷ [])) (λ t. record { who = one.0 t; statement = one.1 t; cipher = sym none t })
                  (here (record { who = o.0; statement = o.1; cipher = None }) [])
              | inr submits ↦ absurd (apart submits.0 h.envelope e (sym submits.1 ∙ same_payload h.payload (payloads.Plain e) h.is is))
            ];
          },
        )
        | inr refutes ↦ none_found (λ f h. elim h.form [
          | inl plain ↦
              let same = plain_envelope h.envelope e (sym plain.0 ∙ same_payload h.payload (payloads.Plain e) h.is is) in
              refutes (f.who, f.statement, subst (λ (x : List ℕ). Unseals roster x f.who f.statement) same h.unseals)
          | inr submits ↦ apart submits.0 h.envelope e (sym submits.1 ∙ same_payload h.payload (payloads.Plain e) h.is is)
        ])
      ]
    where
      only : (f x : Front) → Contains (x ∷ []) f → x ≡ f
      only f x h = elim (first_or_later x [] f h) [ inl e ↦ e | inr none ↦ absurd (nothing f none) ]

  in_submission : (c : List Bool) (e : List ℕ) → IsBytes e → IsPayloadOf bytes (payloads.Submission c e) → Found
  in_submission c e its is =
      elim (decide_opens roster e its) [
        | inl o ↦ (
          record { who = o.0; statement = o.1; cipher = Some c } ∷ [],
          record {
            each = λ f h. subst (IsFront roster bytes) (only f (record { who = o.0; statement = o.1; cipher = Some c }) h)
                (record { envelope = e; payload = payloads.Submission c e; form = inr (c, refl, refl); is = is; unseals = o.2 });
            all = λ f h. elim h.form [
              | inr submits ↦
                  let parts = submission_parts submits.0 c h.envelope e (sym submits.1 ∙ same_payload h.payload (payloads.Submission c e) h.is is) in
                  let one = opens_once roster e o.0 f.who o.1 f.statement o.2 (subst (λ (x : List ℕ). Unseals roster x f.who f.statement) parts.1 h.unseals) in
                  let some : Some c ≡ f.cipher = sym (submits.2 ∙ ap Some parts.0) in
                  subst (Contains (record { who = o.0; statement = o.1; cipher = Some c } ∷ [])) (λ t. record { who = one.0 t; statement = one.1 t; cipher = some t })
                  (here (record { who = o.0; statement = o.1; cipher = Some c }) [])
              | inl plain ↦ absurd (apart c e h.envelope (same_payload (payloads.Submission c e) h.payload is h.is ∙ plain.0))
            ];
          },
        )
        | inr refutes ↦ none_found (λ f h. elim h.form [
          | inr submits ↦
              let parts = submission_parts submits.0 c h.envelope e (sym submits.1 ∙ same_payload h.payload (payloads.Submission c e) h.is is) in
              refutes (f.who, f.statement, subst (λ (x : List ℕ). Unseals roster x f.who f.statement) parts.1 h.unseals)
          | inl plain ↦ apart c e h.envelope (same_payload (payloads.Submission c e) h.payload is h.is ∙ plain.0)
        ])
      ]
    where
      only : (f x : Front) → Contains (x ∷ []) f → x ≡ f
      only f x h = elim (first_or_later x [] f h) [ inl e ↦ e | inr none ↦ absurd (nothing f none) ]

  -- another payload has none
  in_other : (x : Payload) → IsPayloadOf bytes x → ((e : List ℕ) → x ≡ payloads.Plain e → ⊥) → ((c : List Bool) (e : List ℕ) → x ≡ payloads.Submission c e → ⊥) → Found
  in_other x is no_plain no_submission = none_found (λ f h. elim h.form [
    | inl plain ↦ no_plain h.envelope (same_payload x h.payload is h.is ∙ plain.0)
    | inr submits ↦ no_submission submits.0 h.envelope (same_payload x h.payload is h.is ∙ submits.1)
  ])

  in_payload : (x : Payload) → IsPayloadOf bytes x → Found
  unfolding payload_bytes
  in_payload (payloads.Plain e) is = in_plain e (bytes_behind (2 ∷ []) e (subst IsBytes is.spelled are)) is
  in_payload (payloads.Submission c e) is = in_submission c e (bytes_behind (1 ∷ _) e (subst IsBytes is.spelled are)) is
  in_payload (payloads.Certificate b signatures) is = in_other (payloads.Certificate b signatures) is never also where
    never : (e : List ℕ) → payloads.Certificate b signatures ≡ payloads.Plain e → ⊥
    never e is = absurd cc

    also : (c : List Bool) (e : List ℕ) → payloads.Certificate b signatures ≡ payloads.Submission c e → ⊥
    also c e is = absurd cc
  in_payload (payloads.Challenge r k envelopes) is = in_other (payloads.Challenge r k envelopes) is never also where
    never : (e : List ℕ) → payloads.Challenge r k envelopes ≡ payloads.Plain e → ⊥
    never e is = absurd cc

    also : (c : List Bool) (e : List ℕ) → payloads.Challenge r k envelopes ≡ payloads.Submission c e → ⊥
    also c e is = absurd cc

  in_result : (o : Result Payload RecordFault) → payload_of bytes ≡ o → Found
  in_result (Ok x) e = let found = payload_found bytes are x e in in_payload x (record { fits = found.0; spelled = found.1 })
  in_result (Err fault) e = none_found (λ f h. refused fault h.payload (sym e ∙ ap payload_of h.is.spelled ∙ payload_again h.payload h.is.fits)) where
    refused : (fault : RecordFault) (y : Payload) → ◌≡◌ {A = Result Payload RecordFault} (Err fault) (Ok y) → ⊥
    refused fault y e = absurd cc

  pub fronts_of : (fs : List Front) × AreFronts roster bytes fs
  fronts_of = in_result (payload_of bytes) refl

-- ---- of all puts

-- these are all fronts of what was put
pub record ArePutFronts (roster : RosterView) (puts : List Put) (fs : List Front) : Type 0 where
  pub each : (f : Front) → Contains fs f → (p : Put) × Contains puts p × IsFront roster p.bytes f
  pub all : (f : Front) (p : Put) → Contains puts p → IsFront roster p.bytes f → Contains fs f

pub fronts_of_puts : (roster : RosterView) (puts : List Put) → ((p : Put) → Contains puts p → IsBytes p.bytes) → (fs : List Front) × ArePutFronts roster puts fs
fronts_of_puts roster [] are = ([], record { each = λ f h. absurd (nothing f h); all = λ f p h is. absurd (nothing p h) })
fronts_of_puts roster (p ∷ ps) are =
    let first = fronts_of roster p.bytes (are p (here p ps)) in
    let rest = fronts_of_puts roster ps (λ q h. are q (later p ps q h)) in (
      first.0 ++ rest.0,
      record {
        each = λ f h. elim (Contains-append_cases first.0 rest.0 f h) [
          | inl a ↦ (p, here p ps, first.1.each f a)
          | inr a ↦ let q = rest.1.each f a in (q.0, later p ps q.0 q.1, q.2)
        ];
        all = λ f q h is. elim (first_or_later p ps q h) [
          | inl same ↦ Contains-append_left first.0 rest.0 f (first.1.all f (subst (λ (x : Put). IsFront roster x.bytes f) (sym same) is))
          | inr behind ↦ Contains-append_right first.0 rest.0 f (rest.1.all f q behind is)
        ];
      },
    )
