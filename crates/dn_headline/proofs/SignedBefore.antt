-- Whether a key had signed a statement by then can be decided; and so can the audit's first word.
use Rattle.std.proofs.Common.{◌≡◌, ℕ, suc, ◌<◌, List, refl, sym, ap, subst, ◌∙◌, arith, inl, inr, Bool, true, false}
use Rattle.std.specs.Prelude.{Contains, ◌⊎◌, All, Option, Some, None, slice_get}
use Rattle.std.proofs.lemmas.Option.{same_Some}
use Rattle.std.proofs.lemmas.List.Elements.{All-contains}
use Rattle.dn_wire.specs.declared.ids.ClientId.{ClientId}
use Rattle.dn_wire.specs.declared.ids.Member.{Member}
use Rattle.dn_wire.specs.declared.ids.Member.TheVariants as members
use Rattle.dn_wire.specs.declared.ids.SignerId.{SignerId}
use Rattle.dn_wire.specs.declared.ids.SignerId.TheVariants as signers
use Rattle.dn_record_types.specs.declared.payload.Payload.TheVariants as payloads
use Rattle.dn_record_types.specs.declared.statement.Statement.{Statement}
use Rattle.dn_record_types.specs.declared.statement.Statement.TheVariants as kinds
use Rattle.dn_record_types.specs.Exact.{IsBytes}
use Rattle.dn_roster.specs.Roster.{RosterView}
use Rattle.dn_seal.specs.Said.{Unseals}
use Rattle.dn_headline.specs.Group.{GroupView, IsKeyOf, IsHonestKey, is_corrupt}
use Rattle.dn_headline.specs.Log.{Put}
use Rattle.dn_headline.specs.Run.{RunView, log}
use Rattle.dn_headline.specs.Spoken.{IsPayloadOf, Says, Submits, IsSubmission, IsInFront, HadSigned}
use Rattle.dn_headline.specs.Clean.{Clean, SignaturesAreTheirs}
use Rattle.dn_headline.specs.Audit.{SignatureAt, AreTheirs}
use Rattle.dn_headline.proofs.Deciding.{Decided, decided_both, decided_as, decide_bool, every_or_one}
use Rattle.dn_headline.proofs.Listing.{contains_place}
use Rattle.dn_headline.proofs.Reading.{Front, IsFront, fronts_of}
use Rattle.dn_headline.proofs.Behinds.{one_or_none, decide_digests, decide_honest, decide_some, decided_if, theirs_exactly}
use Rattle.dn_headline.proofs.Same.{same_statement, same_signer, same_member}
use Rattle.dn_headline.proofs.SignatureList.{signatures_are}

decide_key : (g : GroupView) (who : SignerId) (m : Member) → Decided (IsKeyOf g who m)
decide_key g (signers.Client i) m = same_member (members.Client i) m
decide_key g (signers.Server j) m = same_member (members.Server j) m
decide_key g (signers.Slot s) m = of (slice_get g.owners s.0) refl where
  none_is_not : (i : ClientId) → ◌≡◌ {A = Option ClientId} None (Some i) → ⊥
  none_is_not i e = absurd cc

  of : (o : Option ClientId) → slice_get g.owners s.0 ≡ o → Decided (IsKeyOf g (signers.Slot s) m)
  of None at = inr (λ h. none_is_not h.0 (sym at ∙ h.1))
  of (Some i) at =
      elim (same_member (members.Client i) m) [
        | inl e ↦ inl (i, at, e)
        | inr ne ↦ inr (λ h. ne (ap members.Client (sym (same_Some h.0 i (sym h.1 ∙ at))) ∙ h.2))
      ]

-- whose key it is, where it is somebody's
decide_honest_key : (g : GroupView) (who : SignerId) → Decided (IsHonestKey g who)
decide_honest_key g (signers.Client i) =
    decided_as (λ h. (members.Client i, refl, h)) (λ k. subst (λ (m : Member). is_corrupt g m ≡ false) (sym k.1) k.2) (decide_bool (is_corrupt g (members.Client i)) false)
decide_honest_key g (signers.Server j) =
    decided_as (λ h. (members.Server j, refl, h)) (λ k. subst (λ (m : Member). is_corrupt g m ≡ false) (sym k.1) k.2) (decide_bool (is_corrupt g (members.Server j)) false)
decide_honest_key g (signers.Slot s) = of (slice_get g.owners s.0) refl where
  none_is_not : (i : ClientId) → ◌≡◌ {A = Option ClientId} None (Some i) → ⊥
  none_is_not i e = absurd cc

  of : (o : Option ClientId) → slice_get g.owners s.0 ≡ o → Decided (IsHonestKey g (signers.Slot s))
  of None at = inr (λ h. none_is_not h.1.0 (sym at ∙ h.1.1))
  of (Some i) at =
      decided_as (λ h. (members.Client i, (i, at, refl), h))
      (λ k. subst (λ (m : Member). is_corrupt g m ≡ false) (sym (ap members.Client (same_Some i k.1.0 (sym at ∙ k.1.1)) ∙ k.1.2)) k.2)
      (decide_bool (is_corrupt g (members.Client i)) false)

decide_submission : (s : Statement) → Decided (IsSubmission s)
decide_submission (kinds.Submission r prev i digest) = inl tt
decide_submission _ = inr (λ h. h)

module _ (roster : RosterView) (bytes : List ℕ) (are : IsBytes bytes) (who : SignerId) (s : Statement) where
  abbrev IsIt : Front → Type 0
  IsIt f = (f.who ≡ who) × (f.statement ≡ s)

  -- a front with this signer and statement, in a plain payload or one of a submission
  from_front : (f : Front) → IsFront roster bytes f → IsIt f → Says roster bytes who s ⊎ (IsSubmission s → (c : List Bool) × Submits roster bytes who s c)
  from_front f is it =
      let who_is = it.0 in
      let statement_is = it.1 in
      let unseals = subst (λ (z : SignerId). Unseals roster is.envelope z s) who_is (subst (λ (z : Statement). Unseals roster is.envelope f.who z) statement_is is.unseals) in
      elim is.form [
        | inl plain ↦ inl (record { envelope = is.envelope; is = subst (IsPayloadOf bytes) plain.0 is.is; unseals = unseals })
        | inr submits ↦ inr (λ so. (submits.0, record { submission = so; envelope = is.envelope; is = subst (IsPayloadOf bytes) submits.1 is.is; unseals = unseals }))
      ]

  abbrev plain_front : Front
  plain_front = record { who = who; statement = s; cipher = None }

  says_front : Says roster bytes who s → IsFront roster bytes plain_front
  says_front h = record { envelope = h.envelope; payload = payloads.Plain h.envelope; form = inl (refl, refl); is = h.is; unseals = h.unseals }

  submits_front : (c : List Bool) → Submits roster bytes who s c → IsFront roster bytes (record { who = who; statement = s; cipher = Some c })
  submits_front c h = record { envelope = h.envelope; payload = payloads.Submission c h.envelope; form = inr (c, refl, refl); is = h.is; unseals = h.unseals }

  pub decide_front : Decided (IsInFront roster bytes who s)
  decide_front =
      let fs = fronts_of roster bytes are in
      elim (one_or_none IsIt fs.0 (λ f. decided_both (same_signer f.who who) (same_statement f.statement s))) [
        | inr none ↦ inr (λ h. elim h [
          | inl says ↦ none plain_front (fs.1.all plain_front (says_front says)) (refl, refl)
          | inr submits ↦
              let f : Front = record { who = who; statement = s; cipher = Some submits.0 } in
              none f (fs.1.all f (submits_front submits.0 submits.1)) (refl, refl)
        ])
        | inl f ↦ elim (from_front f.0 (fs.1.each f.0 f.1) f.2) [
          | inl says ↦ inl (inl says)
          | inr submits ↦ elim (decide_submission s) [
            | inl so ↦ inl (inr (submits so))
            | inr not_so ↦ elim (one_or_none (λ (g : Front). IsIt g × (g.cipher ≡ None)) fs.0 (λ g. decided_both (decided_both (same_signer g.who who) (same_statement g.statement s)) (is_plain g.cipher))) [
              | inl g ↦ inl (inl (says_from g.0 (fs.1.each g.0 g.1) g.2.0 g.2.1))
              | inr none ↦ inr (λ h. elim h [
                | inl says ↦ none plain_front (fs.1.all plain_front (says_front says)) ((refl, refl), refl)
                | inr x ↦ not_so x.1.submission
              ])
            ]
          ]
        ]
      ]
    where
      none_is_not : (c : List Bool) → ◌≡◌ {A = Option (List Bool)} None (Some c) → ⊥
      none_is_not c e = absurd cc

      is_plain : (o : Option (List Bool)) → Decided (o ≡ None)
      is_plain None = inl refl
      is_plain (Some c) = inr (λ e. none_is_not c (sym e))

      says_from : (g : Front) → IsFront roster bytes g → IsIt g → g.cipher ≡ None → Says roster bytes who s
      says_from g is it plain =
          let who_is = it.0 in
          let statement_is = it.1 in
          elim is.form [
            | inl p ↦ record {
              envelope = is.envelope;
              is = subst (IsPayloadOf bytes) p.0 is.is;
              unseals = subst (λ (z : SignerId). Unseals roster is.envelope z s) who_is (subst (λ (z : Statement). Unseals roster is.envelope g.who z) statement_is is.unseals);
            }
            | inr submits ↦ absurd (none_is_not submits.0 (sym plain ∙ submits.2))
          ]

-- ---- by then

module _ (w : RunView) (are : (p : Put) → Contains (log w).puts p → IsBytes p.bytes) where
  abbrev HadAt : SignerId → Statement → ℕ → Type 0
  HadAt who s at = (put : Put) × (slice_get (log w).puts at ≡ Some put) × ((put.own ≡ true) × (IsKeyOf w.group who put.by × IsInFront w.group.roster put.bytes who s))

  none_is_not : (p : Put) → ◌≡◌ {A = Option Put} None (Some p) → ⊥
  none_is_not p e = absurd cc

  decide_at : (who : SignerId) (s : Statement) (at : ℕ) (o : Option Put) → slice_get (log w).puts at ≡ o → Decided (HadAt who s at)
  decide_at who s at None is = inr (λ h. none_is_not h.0 (sym is ∙ h.1))
  decide_at who s at (Some put) is =
      decided_as (λ h. (put, is, h))
      (λ h. subst (λ (p : Put). (p.own ≡ true) × (IsKeyOf w.group who p.by × IsInFront w.group.roster p.bytes who s)) (same_Some h.0 put (sym h.1 ∙ is)) h.2)
      (decided_both (decide_bool put.own true) (decided_both (decide_key w.group who put.by)
      (decide_front w.group.roster put.bytes (are put (contains_place (log w).puts at put is)) who s)))

  decide_had : (n : ℕ) (who : SignerId) (s : Statement) → Decided (HadSigned w n who s)
  decide_had n who s =
      decided_as (λ (h : (at : ℕ) × (at < suc n) × HadAt who s at). let lt = h.1 in
      record { at = h.0; by_then = omega arith; put = h.2.0; there = h.2.1; own = h.2.2.0; key = h.2.2.1.0; front = h.2.2.1.1 })
      (λ h. let le = h.by_then in (h.at, omega arith, (h.put, h.there, (h.own, (h.key, h.front)))))
      (decide_some (HadAt who s) (suc n) (λ at. decide_at who s at (slice_get (log w).puts at) refl))

  decide_theirs : (xs : List SignatureAt) → Decided (AreTheirs w xs)
  decide_theirs xs =
      elim (every_or_one (λ (x : SignatureAt). IsHonestKey w.group x.who → HadSigned w x.n x.who x.statement) xs
      (λ x. decided_if (decide_honest_key w.group x.who) (decide_had x.n x.who x.statement))) [
        | inl so ↦ inl so
        | inr one ↦ inr (λ h. one.2 (h one.0 one.1))
      ]

  signatures_decided : Decided (SignaturesAreTheirs w)
  signatures_decided =
      let xs = signatures_are w are in
      let exactly = theirs_exactly w xs.0 xs.1 in
      decided_as exactly.0 exactly.1 (decide_theirs xs.0)

pub decide_lists_theirs : (w : RunView) → All (λ p. IsBytes p.bytes) (log w).puts → (xs : List SignatureAt) → Decided (AreTheirs w xs)
decide_lists_theirs w are = decide_theirs w (λ p h. All-contains (λ (q : Put). IsBytes q.bytes) (log w).puts p are h)

pub decide_signatures : (w : RunView) → All (λ p. IsBytes p.bytes) (log w).puts → Decided (SignaturesAreTheirs w)
decide_signatures w are = signatures_decided w (λ p h. All-contains (λ (q : Put). IsBytes q.bytes) (log w).puts p are h)

pub decide_clean : (w : RunView) → All (λ p. IsBytes p.bytes) (log w).puts → Decided (Clean w)
decide_clean w are =
    elim (decide_signatures w are) [
      | inr refutes ↦ inr (λ c. refutes c.signed)
      | inl signed ↦ elim (decide_digests w are) [
        | inr refutes ↦ inr (λ c. refutes c.digests)
        | inl digests ↦ elim (decide_honest w) [
          | inr refutes ↦ inr (λ c. refutes c.honest)
          | inl honest ↦ inl (record { signed = signed; digests = digests; honest = honest })
        ]
      ]
    ]
