-- The signatures of all payloads of a run are finitely many.
use Rattle.std.proofs.Common.{◌≡◌, ℕ, zero, suc, ◌+◌, ◌<◌, ◌≤◌, List, [], ◌∷◌, ◌++◌, map, length, length-append, refl, sym, ap, subst, ◌∙◌, arith, inl, inr, Bool}
use Rattle.std.specs.Prelude.{Contains, ◌⊎◌, Result, Ok, Err, Option, Some, None, slice_get}
use Rattle.std.specs.List.{flat_map}
use Rattle.std.proofs.lemmas.Bool.{cases_lt}
use Rattle.std.proofs.lemmas.Option.{same_Some, slice_get_within}
use Rattle.std.proofs.lemmas.List.{get_or_append_left, get_or_past, get_or-append-add}
use Rattle.dn_wire.specs.declared.ids.Round.{Round}
use Rattle.dn_wire.specs.declared.ids.ServerId.{ServerId}
use Rattle.dn_wire.specs.declared.ids.SignerId.{SignerId}
use Rattle.dn_wire.specs.declared.ids.SignerId.TheVariants as signers
use Rattle.dn_bits.specs.Bits.{below}
use Rattle.dn_record_types.specs.declared.body.Body.{Body}
use Rattle.dn_record_types.specs.declared.envelope.Envelope.{Envelope}
use Rattle.dn_record_types.specs.declared.inventory.Entry.{Entry}
use Rattle.dn_record_types.specs.declared.inventory.Inventory.{Inventory}
use Rattle.dn_record_types.specs.declared.fault.RecordFault.{RecordFault}
use Rattle.dn_record_types.specs.declared.payload.Payload.{Payload}
use Rattle.dn_record_types.specs.declared.payload.Payload.TheVariants as payloads
use Rattle.dn_record_types.specs.declared.statement.Statement.{Statement}
use Rattle.dn_record_types.specs.declared.statement.Statement.TheVariants as kinds
use Rattle.dn_records.specs.Fields as fields
use Rattle.dn_record_types.specs.Exact.{IsBytes}
use Rattle.dn_records.specs.Records.{payload_bytes, payload_of, statement_bytes, envelope_bytes, envelope_of}
use Rattle.dn_record_types.proofs.RecordLaws.{payload_found, payload_again, payload_once, envelope_found, envelope_again, envelope_once}
use Rattle.dn_roster.specs.Roster.{RosterView, key_of, digest_of}
use Rattle.dn_seal.specs.Signer.{envelope, heading}
use Rattle.dn_seal.specs.Said.{Signs, Unseals}
use Rattle.dn_seal.proofs.EnvelopeLemmas.{envelope_parts, length-heading}
use Rattle.dn_cert.specs.Signed.{EntryVerifies}
use Rattle.dn_cert.specs.Certificate.{IsSignedAt}
use Rattle.dn_cert.proofs.Orders.{here, nothing, first_or_later}
use Rattle.dn_cert.proofs.ListLemmas.{Contains-map, Contains-from_map}
use Rattle.dn_headline.specs.Log.{Put}
use Rattle.dn_headline.specs.Run.{RunView, log}
use Rattle.dn_headline.specs.Signatures.{IsEnvelopeOf, SealedIn, SignedIn, HasSignature}
use Rattle.dn_headline.specs.Signatures.SealedIn.{itself, entry, carried}
use Rattle.dn_headline.specs.Signatures.SignedIn.{submission, plain, certificate, challenge}
use Rattle.dn_headline.specs.Audit.{SignatureAt, WasSignedIn, AreSignatures}
use Rattle.dn_headline.proofs.Deciding.{Decided, decide_verifies}
use Rattle.dn_headline.proofs.Finite.{Finite, mapped_so, none_so, either_so, so_as, one_so, over_so}
use Rattle.dn_headline.proofs.Listing.{contains_place}
use Rattle.dn_headline.proofs.Output.{below_within}
use Rattle.dn_headline.proofs.RunStrings.{below_has}
use Rattle.dn_headline.proofs.Reading.{decide_opens, opens_once}

-- ---- parts of bytes

behind_bytes : (xs ys : List ℕ) → IsBytes (xs ++ ys) → IsBytes ys
behind_bytes xs ys h i = subst (λ (n : ℕ). n < 256) (get_or-append-add xs ys i 0) (h (length xs + i))

front_bytes : (xs ys : List ℕ) → IsBytes (xs ++ ys) → IsBytes xs
front_bytes xs ys h i =
    elim (cases_lt i (length xs)) [
      | inl lt ↦ subst (λ (n : ℕ). n < 256) (get_or_append_left xs ys 0 i lt) (h i)
      | inr ge ↦ let past = get_or_past xs i 0 ge in omega (arith, past)
    ]

-- a part of bytes: these are bytes, and no more of them
record IsPart (part whole : List ℕ) : Type 0 where
  bytes : IsBytes whole → IsBytes part
  short : length part ≤ length whole

behind_part : (xs ys zs : List ℕ) → IsPart zs ys → IsPart zs (xs ++ ys)
behind_part xs ys zs h = record {
  bytes = λ are. h.bytes (behind_bytes xs ys are);
  short = let all = length-append xs ys in let s = h.short in omega arith;
}

front_part : (xs ys zs : List ℕ) → IsPart zs xs → IsPart zs (xs ++ ys)
front_part xs ys zs h = record {
  bytes = λ are. h.bytes (front_bytes xs ys are);
  short = let all = length-append xs ys in let s = h.short in omega arith;
}

whole_part : (xs : List ℕ) → IsPart xs xs
whole_part xs = record { bytes = λ are. are; short = omega arith }

-- the envelope in a rebuttal is a part of the rebuttal
rebuttal_part : (r : Round) (k : ℕ) (j : ServerId) (seed e : List ℕ) → IsPart e (statement_bytes (kinds.Rebuttal r k j seed e))
unfolding statement_bytes
rebuttal_part r k j seed e =
    behind_part (10 ∷ []) _ e (behind_part (fields.round.spell r) _ e (behind_part (fields.word.spell k) _ e (behind_part (fields.server_field.spell j) _ e (behind_part seed _ e
    (behind_part ((fields.up_to 65535).spell (length e)) e e (whole_part e))))))

each_part : (f : List ℕ → List ℕ) (xs : List (List ℕ)) (x : List ℕ) → ((y : List ℕ) → IsPart y (f y)) → Contains xs x → IsPart x (flat_map f xs)
each_part f [] x each h = absurd (nothing x h)
each_part f (y ∷ ys) x each h =
    elim (first_or_later y ys x h) [
      | inl is ↦ front_part (f y) (flat_map f ys) x (subst (λ (z : List ℕ). IsPart z (f y)) is (each y))
      | inr behind ↦ behind_part (f y) (flat_map f ys) x (each_part f ys x each behind)
    ]

challenge_part : (r : Round) (k : ℕ) (es : List (List ℕ)) (e : List ℕ) → Contains es e → IsPart e (payload_bytes (payloads.Challenge r k es))
unfolding payload_bytes
challenge_part r k es e there =
    behind_part (4 ∷ []) _ e (behind_part (fields.round.spell r) _ e (behind_part (fields.word.spell k) _ e (behind_part ((fields.up_to 16).spell (length es)) _ e
    (each_part (λ (y : List ℕ). fields.word.spell (length y) ++ y) es e (λ y. behind_part (fields.word.spell (length y)) y y (whole_part y)) there))))

-- ---- envelopes

pub record Seal : Type 0 where
  pub who : SignerId
  pub statement : Statement

abbrev IsSealIn : RosterView → List ℕ → Seal → Type 0
IsSealIn roster bytes y = SealedIn roster bytes y.who y.statement

abbrev pub EntryOf : Type 0
EntryOf = Inventory × Entry

entries_in : Statement → List EntryOf
entries_in (kinds.Inventory v) = map (λ (x : Entry). (v, x)) v.entries
entries_in _ = []

entries_from : (s : Statement) (y : EntryOf) → Contains (entries_in s) y → (s ≡ kinds.Inventory y.0) × Contains y.0.entries y.1
unfolding entries_in
entries_from (kinds.Inventory v) y h =
    let x = Contains-from_map (λ (x : Entry). (v, x)) v.entries y h in
    subst (λ (z : EntryOf). (kinds.Inventory v ≡ kinds.Inventory z.0) × Contains z.0.entries z.1) x.2 (refl, x.1)
entries_from _ y h = absurd (nothing y h)

carried_in : Statement → List (List ℕ)
carried_in (kinds.Rebuttal r k j seed e) = e ∷ []
carried_in _ = []

abbrev Carries : Statement → List ℕ → Type 0
Carries s e = (r : Round) × (k : ℕ) × (j : ServerId) × (seed : List ℕ) × (s ≡ kinds.Rebuttal r k j seed e)

carried_from : (s : Statement) (e : List ℕ) → Contains (carried_in s) e → Carries s e
unfolding carried_in
carried_from (kinds.Rebuttal r k j seed x) e h =
    elim (first_or_later x [] e h) [ inl is ↦ (r, k, j, seed, ap (kinds.Rebuttal r k j seed) is) | inr none ↦ absurd (nothing e none) ]
carried_from _ e h = absurd (nothing e h)

decide_entry : (roster : RosterView) (r prev : Round) (x : Entry) → Decided (EntryVerifies roster r prev x)
decide_entry roster r prev x = of (key_of roster (signers.Client x.client)) refl where
  none_is_not : (k : List ℕ) → ◌≡◌ {A = Option (List ℕ)} None (Some k) → ⊥
  none_is_not k e = absurd cc

  of : (o : Option (List ℕ)) → key_of roster (signers.Client x.client) ≡ o → Decided (EntryVerifies roster r prev x)
  of None at = inr (λ h. none_is_not h.0 (sym at ∙ h.1))
  of (Some key) at =
      elim (decide_verifies key _ _) [
        | inl so ↦ inl (key, at, so)
        | inr refutes ↦ inr (λ h. refutes (subst (λ (k : List ℕ). Signs (digest_of roster) k (envelope (signers.Client x.client) (kinds.Submission r prev x.client x.digest) x.signature))
            (same_Some h.0 key (sym h.1 ∙ at)) h.2))
      ]

module _ (roster : RosterView) where
  opens_so : (bytes : List ℕ) → IsBytes bytes → Finite (λ (y : Seal). Unseals roster bytes y.who y.statement)
  opens_so bytes are =
      elim (decide_opens roster bytes are) [
        | inr refutes ↦ none_so (λ (y : Seal). Unseals roster bytes y.who y.statement) (λ y h. refutes (y.who, y.statement, h))
        | inl o ↦
            let x : Seal = record { who = o.0; statement = o.1 } in (
              x ∷ [],
              λ y. (
                λ h. let one = opens_once roster bytes o.0 y.who o.1 y.statement o.2 h in
                    subst (Contains (x ∷ [])) (λ t. record { who = one.0 t; statement = one.1 t }) (here x []),
                λ h. elim (first_or_later x [] y h) [
                  | inl is ↦ subst (λ (z : Seal). Unseals roster bytes z.who z.statement) is o.2
                  | inr none ↦ absurd (nothing y none)
                ],
              ),
            )
      ]

  err_is_not : (fault : RecordFault) (y : Envelope) → ◌≡◌ {A = Result Envelope RecordFault} (Err fault) (Ok y) → ⊥
  err_is_not fault y e = absurd cc

  abbrev EntrySeal : EntryOf → Seal
  EntrySeal y = record { who = signers.Client y.1.client; statement = kinds.Submission y.0.r y.0.prev y.1.client y.1.digest }

  abbrev PartsOfSeal : List ℕ → Envelope → Seal → Type 0
  PartsOfSeal bytes e y =
      Unseals roster bytes y.who y.statement
      ⊎ (((x : EntryOf) × Contains (entries_in e.statement) x × (EntryVerifies roster x.0.r x.0.prev x.1 × (EntrySeal x ≡ y)))
      ⊎ ((d : List ℕ) × Contains (carried_in e.statement) d × IsSealIn roster d y))

  no_seal : (bytes : List ℕ) → ((e : Envelope) → IsEnvelopeOf bytes e → ⊥) → (who : SignerId) (s : Statement) → SealedIn roster bytes who s → ⊥
  no_seal bytes never who s (itself u) = never (envelope who s u.signature) (record { fits = u.fits; spelled = u.spelled })
  no_seal bytes never who s (entry e v x is eq there verifies) = never e is
  no_seal bytes never who s (carried e r k server seed d is eq sealed) = never e is

  parts_of : (bytes : List ℕ) (e : Envelope) → IsEnvelopeOf bytes e → (who : SignerId) (s : Statement) → SealedIn roster bytes who s
      → PartsOfSeal bytes e (record { who = who; statement = s })
  unfolding entries_in carried_in
  parts_of bytes e at who s (itself u) = inl u
  parts_of bytes e at who s (entry d v x is eq there verifies) =
      let same : e.statement ≡ kinds.Inventory v = ap (λ (z : Envelope). z.statement) (envelope_once e d at.fits is.fits (sym at.spelled ∙ is.spelled)) ∙ eq in
      inr (inl ((v, x), subst (λ (z : Statement). Contains (entries_in z) (v, x)) (sym same) (Contains-map (λ (x : Entry). (v, x)) v.entries x there), (verifies, refl)))
  parts_of bytes e at who s (carried d r k server seed x is eq sealed) =
      let same : e.statement ≡ kinds.Rebuttal r k server seed x = ap (λ (z : Envelope). z.statement) (envelope_once e d at.fits is.fits (sym at.spelled ∙ is.spelled)) ∙ eq in
      inr (inr (x, subst (λ (z : Statement). Contains (carried_in z) x) (sym same) (here x []), sealed))

  seal_from : (bytes : List ℕ) (e : Envelope) → IsEnvelopeOf bytes e → (y : Seal) → PartsOfSeal bytes e y → IsSealIn roster bytes y
  seal_from bytes e at y h =
      elim h [
        | inl u ↦ itself u
        | inr rest ↦ elim rest [
          | inl x ↦
              let of = entries_from e.statement x.0 x.1 in
              subst (IsSealIn roster bytes) x.2.1 (entry e x.0.0 x.0.1 at of.0 of.1 x.2.0)
          | inr d ↦ let of = carried_from e.statement d.0 d.1 in carried e of.0 of.1 of.2 of.3 d.0 at of.4 d.2
        ]
      ]

  carried_part : (e : Envelope) (d : List ℕ) → Contains (carried_in e.statement) d → (bytes : List ℕ) → bytes ≡ envelope_bytes e → IsBytes bytes → IsBytes d × (length d < length bytes)
  carried_part e d h bytes spelled are =
      let of = carried_from e.statement d h in
      let parts = spelled ∙ envelope_parts e.signer e.statement e.signature in
      let inside : IsPart d (statement_bytes e.statement) = subst (λ (z : Statement). IsPart d (statement_bytes z)) (sym of.4) (rebuttal_part of.0 of.1 of.2 of.3 d) in
      let long = ap length parts in
      let all = length-append (heading e.signer (length (statement_bytes e.statement))) (statement_bytes e.statement ++ e.signature) in
      let both = length-append (statement_bytes e.statement) e.signature in
      let head = length-heading e.signer (length (statement_bytes e.statement)) in
      let short = inside.short in (
        inside.bytes (front_bytes (statement_bytes e.statement) e.signature
            (behind_bytes (heading e.signer (length (statement_bytes e.statement))) (statement_bytes e.statement ++ e.signature) (subst IsBytes parts are))),
        omega arith,
      )

  seals_by : (bytes : List ℕ) → IsBytes bytes → ((d : List ℕ) → IsBytes d → length d < length bytes → Finite (IsSealIn roster d)) → Finite (IsSealIn roster bytes)
  seals_by bytes are inner = of (envelope_of bytes) refl where
    of : (o : Result Envelope RecordFault) → envelope_of bytes ≡ o → Finite (IsSealIn roster bytes)
    of (Err fault) at = none_so (IsSealIn roster bytes) (λ y h. no_seal bytes (λ e is. err_is_not fault e (sym at ∙ ap envelope_of is.spelled ∙ envelope_again e is.fits)) y.who y.statement h)
    of (Ok e) at =
        let found = envelope_found bytes are e at in
        let is : IsEnvelopeOf bytes e = record { fits = found.0; spelled = found.1 } in
        so_as (PartsOfSeal bytes e) (IsSealIn roster bytes) (λ y h. seal_from bytes e is y h) (λ y h. parts_of bytes e is y.who y.statement h)
        (either_so (λ (y : Seal). Unseals roster bytes y.who y.statement) _ (opens_so bytes are) (either_so _ _
        (over_so (λ (x : EntryOf) (y : Seal). EntryVerifies roster x.0.r x.0.prev x.1 × (EntrySeal x ≡ y)) (entries_in e.statement)
        (λ x there. one_so (EntryVerifies roster x.0.r x.0.prev x.1) (EntrySeal x) (decide_entry roster x.0.r x.0.prev x.1)))
        (over_so (λ (d : List ℕ) (y : Seal). IsSealIn roster d y) (carried_in e.statement)
        (λ d there. let part = carried_part e d there bytes found.1 are in inner d part.0 part.1))))

  seals : (fuel : ℕ) (bytes : List ℕ) → IsBytes bytes → length bytes < fuel → Finite (IsSealIn roster bytes)
  seals zero bytes are lt = absurd (omega arith)
  seals (suc fuel) bytes are lt = seals_by bytes are (λ d its less. seals fuel d its (omega arith))

  seals_of : (bytes : List ℕ) → IsBytes bytes → Finite (IsSealIn roster bytes)
  seals_of bytes are = seals (suc (length bytes)) bytes are (omega arith)

  -- ---- payloads

  abbrev sign_seal : Body → ℕ → Seal
  sign_seal b j = record { who = signers.Server (record { 0 = j }); statement = kinds.Sign b }

  IsSignedBy : Payload → Seal → Type 0
  IsSignedBy (payloads.Submission c e) y = IsSealIn roster e y
  IsSignedBy (payloads.Plain e) y = IsSealIn roster e y
  IsSignedBy (payloads.Certificate b signatures) y =
      (j : ℕ) × Contains (below (length roster.servers)) j × (IsSignedAt (digest_of roster) roster.servers b signatures j × (sign_seal b j ≡ y))
  IsSignedBy (payloads.Challenge r k es) y = (e : List ℕ) × Contains es e × IsSealIn roster e y

  signed_by : (p : Payload) (who : SignerId) (s : Statement) → SignedIn roster p who s → IsSignedBy p (record { who = who; statement = s })
  unfolding IsSignedBy
  signed_by p who s (submission c e h) = h
  signed_by p who s (plain e h) = h
  signed_by p who s (certificate b signatures j lt h) = (j.0, below_has (length roster.servers) j.0 lt, (h, refl))
  signed_by p who s (challenge r k es e there h) = (e, there, h)

  signed_from : (p : Payload) (y : Seal) → IsSignedBy p y → SignedIn roster p y.who y.statement
  unfolding IsSignedBy
  signed_from (payloads.Submission c e) y h = submission c e h
  signed_from (payloads.Plain e) y h = plain e h
  signed_from (payloads.Certificate b signatures) y h =
      subst (λ (z : Seal). SignedIn roster (payloads.Certificate b signatures) z.who z.statement) h.2.1
      (certificate b signatures (record { 0 = h.0 }) (below_within (length roster.servers) h.0 h.1) h.2.0)
  signed_from (payloads.Challenge r k es) y h = challenge r k es h.0 h.1 h.2

  plain_bytes : (e : List ℕ) → IsBytes (payload_bytes (payloads.Plain e)) → IsBytes e
  unfolding payload_bytes
  plain_bytes e are = behind_bytes (2 ∷ []) e are

  submission_bytes : (c : List Bool) (e : List ℕ) → IsBytes (payload_bytes (payloads.Submission c e)) → IsBytes e
  unfolding payload_bytes
  submission_bytes c e are = behind_bytes (1 ∷ fields.bits.spell c) e are

  payload_seals : (p : Payload) → IsBytes (payload_bytes p) → Finite (IsSignedBy p)
  unfolding IsSignedBy
  payload_seals (payloads.Submission c e) are = seals_of e (submission_bytes c e are)
  payload_seals (payloads.Plain e) are = seals_of e (plain_bytes e are)
  payload_seals (payloads.Certificate b signatures) are =
      over_so (λ (j : ℕ) (y : Seal). IsSignedAt (digest_of roster) roster.servers b signatures j × (sign_seal b j ≡ y)) (below (length roster.servers))
      (λ j there. one_so (IsSignedAt (digest_of roster) roster.servers b signatures j) (sign_seal b j) (decide_verifies _ _ _))
  payload_seals (payloads.Challenge r k es) are =
      over_so (λ (e : List ℕ) (y : Seal). IsSealIn roster e y) es (λ e there. let part = challenge_part r k es e there in seals_of e (part.bytes are))

  abbrev HasSeal : List ℕ → Seal → Type 0
  HasSeal bytes y = HasSignature roster bytes y.who y.statement

  no_payload : (fault : RecordFault) (y : Payload) → ◌≡◌ {A = Result Payload RecordFault} (Err fault) (Ok y) → ⊥
  no_payload fault y e = absurd cc

  bytes_seals : (bytes : List ℕ) → IsBytes bytes → Finite (HasSeal bytes)
  bytes_seals bytes are = of (payload_of bytes) refl where
    of : (o : Result Payload RecordFault) → payload_of bytes ≡ o → Finite (HasSeal bytes)
    of (Err fault) at = none_so (HasSeal bytes) (λ y h. no_payload fault h.payload (sym at ∙ ap payload_of h.is.spelled ∙ payload_again h.payload h.is.fits))
    of (Ok p) at =
        let found = payload_found bytes are p at in
        so_as (IsSignedBy p) (HasSeal bytes) (λ y h. record { payload = p; is = record { fits = found.0; spelled = found.1 }; signed = signed_from p y h })
        (λ y h.
        let same : h.payload ≡ p = payload_once h.payload p h.is.fits found.0 (sym h.is.spelled ∙ found.1) in
        subst (λ (z : Payload). IsSignedBy z y) same (signed_by h.payload y.who y.statement h.signed))
        (payload_seals p (subst IsBytes found.1 are))

-- ---- of all puts

module _ (w : RunView) (are : (p : Put) → Contains (log w).puts p → IsBytes p.bytes) where
  abbrev SealAt : ℕ → Seal → Type 0
  SealAt n y = (put : Put) × (slice_get (log w).puts n ≡ Some put) × HasSignature w.group.roster put.bytes y.who y.statement

  none_is_not : (p : Put) → ◌≡◌ {A = Option Put} None (Some p) → ⊥
  none_is_not p e = absurd cc

  seals_at : (n : ℕ) (o : Option Put) → slice_get (log w).puts n ≡ o → Finite (SealAt n)
  seals_at n None at = none_so (SealAt n) (λ y h. none_is_not h.0 (sym at ∙ h.1))
  seals_at n (Some put) at =
      so_as (HasSeal w.group.roster put.bytes) (SealAt n) (λ y h. (put, at, h))
      (λ y h. subst (λ (p : Put). HasSignature w.group.roster p.bytes y.who y.statement) (same_Some h.0 put (sym h.1 ∙ at)) h.2)
      (bytes_seals w.group.roster put.bytes (are put (contains_place (log w).puts n put at)))

  abbrev at_place : ℕ → Seal → SignatureAt
  at_place n y = record { n = n; who = y.who; statement = y.statement }

  signatures_at : (n : ℕ) → Finite (λ (x : SignatureAt). (y : Seal) × SealAt n y × (at_place n y ≡ x))
  signatures_at n = mapped_so (SealAt n) (at_place n) (seals_at n (slice_get (log w).puts n) refl)

  pub signatures_are : (xs : List SignatureAt) × AreSignatures w xs
  signatures_are =
      let size = length (log w).puts in
      so_as (λ (x : SignatureAt). (n : ℕ) × Contains (below size) n × ((y : Seal) × SealAt n y × (at_place n y ≡ x))) (WasSignedIn w)
      (λ x h. subst (WasSignedIn w) h.2.2 (record { put = h.2.1.0; there = h.2.1.1; has = h.2.1.2 }))
      (λ x h. (
        x.n,
        below_has size x.n (slice_get_within (log w).puts x.n h.put h.there),
        (record { who = x.who; statement = x.statement }, (h.put, h.there, h.has), refl),
      ))
      (over_so (λ (n : ℕ) (x : SignatureAt). (y : Seal) × SealAt n y × (at_place n y ≡ x)) (below size) (λ n there. signatures_at n))
