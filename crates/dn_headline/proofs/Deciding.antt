-- What can be decided of payloads: whether a signature verifies, and whether bytes are a certificate of the group.
use Rattle.std.proofs.Common.{◌≡◌, ℕ, zero, suc, ◌<◌, ◌≤◌, List, [], ◌∷◌, ◌+◌, length, take, drop, refl, sym, ap, subst, ◌∙◌, arith, inl, inr, Bool, true, false}
use Rattle.std.specs.Prelude.{Contains, ◌⊎◌, All, Result, Ok, Err}
use Rattle.std.proofs.lemmas.Bool.{cases_lt, cases_eq}
use Rattle.std.proofs.lemmas.List.Elements.{All-contains}
use Rattle.dn_record_types.specs.declared.body.Body.{Body}
use Rattle.dn_record_types.specs.declared.body.Listed.{Listed}
use Rattle.dn_record_types.specs.declared.fault.RecordFault.{RecordFault}
use Rattle.dn_record_types.specs.declared.payload.Payload.{Payload}
use Rattle.dn_record_types.specs.declared.payload.Payload.TheVariants as payloads
use Rattle.dn_record_types.specs.Exact.{IsBytes}
use Rattle.dn_records.specs.Records.{payload_bytes, payload_of, IsPayload}
use Rattle.dn_record_types.proofs.RecordLaws.{payload_found, payload_again}
use Rattle.std.specs.Int.{w32, to_be_bytes}
use Rattle.dn_ots.specs.Parameters.{IsCode, ots_length}
use Rattle.dn_lms.specs.Key.{IsLms, leaves_of}
use Rattle.dn_lms.specs.Signature.{Verifies, lms_in, ots_in, id_in, root_in, leaf_in, lms_length, candidate_root}
use Rattle.dn_roster.specs.Roster.{RosterView, digest_of}
use Rattle.dn_cert.specs.Certificate.{CertificateView, IsInGroup, IsSignedAt, IsSigned, digests_due}
use Rattle.dn_cert.proofs.Orders.{here, later, nothing, first_or_later, All-from_contains}
use Rattle.dn_headline.specs.Certified.{IsCertificateOf}

abbrev pub Decided : Type 0 → Type 0
Decided P = P ⊎ (P → ⊥)

pub decided_both : {P Q : Type 0} → Decided P → Decided Q → Decided (P × Q)
decided_both (inl p) (inl q) = inl (p, q)
decided_both (inr n) q = inr (λ h. n h.0)
decided_both (inl p) (inr n) = inr (λ h. n h.1)

pub decided_either : {P Q : Type 0} → Decided P → Decided Q → Decided (P ⊎ Q)
decided_either (inl p) q = inl (inl p)
decided_either (inr n) (inl q) = inl (inr q)
decided_either (inr n) (inr m) = inr (λ h. elim h [ inl p ↦ n p | inr q ↦ m q ])

pub decided_as : {P Q : Type 0} → (P → Q) → (Q → P) → Decided P → Decided Q
decided_as to from (inl p) = inl (to p)
decided_as to from (inr n) = inr (λ q. n (from q))

pub decide_eq : (a b : ℕ) → Decided (a ≡ b)
decide_eq a b = elim (cases_eq a b) [ inl e ↦ inl e | inr ne ↦ inr (λ e. ne e) ]

pub decide_lt : (a b : ℕ) → Decided (a < b)
decide_lt a b = elim (cases_lt a b) [ inl lt ↦ inl lt | inr ge ↦ inr (λ lt. omega arith) ]

pub decide_le : (a b : ℕ) → Decided (a ≤ b)
decide_le a b = elim (cases_lt b a) [ inl lt ↦ inr (λ le. omega arith) | inr ge ↦ inl ge ]

pub decide_bool : (a b : Bool) → Decided (a ≡ b)
decide_bool true true = inl refl
decide_bool false false = inl refl
decide_bool true false = inr never where
  never : true ≡ false → ⊥
  never e = absurd cc
decide_bool false true = inr never where
  never : false ≡ true → ⊥
  never e = absurd cc

module _ {A : Type 0} (same : (a b : A) → Decided (a ≡ b)) where
  short : (x : A) (xs : List A) → [] ≡ x ∷ xs → ⊥
  short x xs e = absurd cc

  heads : (x y : A) (xs ys : List A) → x ∷ xs ≡ y ∷ ys → x ≡ y
  heads x y xs ys e = cc

  tails : (x y : A) (xs ys : List A) → x ∷ xs ≡ y ∷ ys → xs ≡ ys
  tails x y xs ys e = cc

  pub decide_lists : (xs ys : List A) → Decided (xs ≡ ys)
  decide_lists [] [] = inl refl
  decide_lists [] (y ∷ ys) = inr (short y ys)
  decide_lists (x ∷ xs) [] = inr (λ e. short x xs (sym e))
  decide_lists (x ∷ xs) (y ∷ ys) =
      elim (same x y) [
        | inr ne ↦ inr (λ e. ne (heads x y xs ys e))
        | inl e ↦ elim (decide_lists xs ys) [
          | inl es ↦ inl (λ t. e t ∷ es t)
          | inr ne ↦ inr (λ eq. ne (tails x y xs ys eq))
        ]
      ]

pub decide_bytes : (xs ys : List ℕ) → Decided (xs ≡ ys)
decide_bytes = decide_lists decide_eq

pub decide_bits : (xs ys : List Bool) → Decided (xs ≡ ys)
decide_bits = decide_lists decide_bool

pub decide_below : (P : ℕ → Type 0) (n : ℕ) → ((j : ℕ) → Decided (P j)) → Decided ((j : ℕ) → j < n → P j)
decide_below P zero each = inl (λ j lt. absurd (omega arith))
decide_below P (suc n) each =
    elim (each n) [
      | inr not_so ↦ inr (λ all. not_so (all n (omega arith)))
      | inl last ↦ elim (decide_below P n each) [
        | inr not_so ↦ inr (λ all. not_so (λ j lt. all j (omega arith)))
        | inl rest ↦ inl (λ j lt. elim (cases_lt j n) [
          | inl less ↦ rest j less
          | inr ge ↦ let at : n ≡ j = omega arith in subst P at last
        ])
      ]
    ]

-- each element of a list has it, or one doesn't
pub every_or_one : {A : Type 0} (P : A → Type 0) (xs : List A) → ((x : A) → Decided (P x)) → ((x : A) → Contains xs x → P x) ⊎ ((x : A) × Contains xs x × (P x → ⊥))
every_or_one P [] each = inl (λ x h. absurd (nothing x h))
every_or_one P (x ∷ xs) each =
    elim (each x) [
      | inr not_so ↦ inr (x, here x xs, not_so)
      | inl first ↦ elim (every_or_one P xs each) [
        | inr one ↦ inr (one.0, later x xs one.0 one.1, one.2)
        | inl rest ↦ inl (λ y h. elim (first_or_later x xs y h) [ inl is ↦ subst P is first | inr behind ↦ rest y behind ])
      ]
    ]

pub decide_every : {A : Type 0} (P : A → Type 0) (xs : List A) → ((x : A) → Decided (P x)) → Decided (All P xs)
decide_every P xs each =
    elim (every_or_one P xs each) [
      | inl all ↦ inl (All-from_contains P xs all)
      | inr one ↦ inr (λ all. one.2 (All-contains P xs one.0 all one.1))
    ]

-- ---- signatures

abbrev PartsOfVerifies : List ℕ → List ℕ → List ℕ → Type 0
PartsOfVerifies public msg sig =
    (length public ≡ 56) × (IsLms (lms_in public) × (IsCode (ots_in public) × ((length sig ≡ lms_length (lms_in public) (ots_in public))
    × ((take 4 (drop 4 sig) ≡ to_be_bytes w32 (ots_in public)) × ((take 4 (drop (4 + ots_length (ots_in public)) sig) ≡ to_be_bytes w32 (lms_in public))
    × ((leaf_in sig < leaves_of (lms_in public)) × (candidate_root (lms_in public) (ots_in public) (id_in public) msg sig ≡ root_in public)))))))

pub decide_verifies : (public msg sig : List ℕ) → Decided (Verifies public msg sig)
decide_verifies public msg sig =
    decided_as (λ (h : PartsOfVerifies public msg sig). record { key_long = h.0; lms_known = h.1.0; ots_known = h.1.1.0; long = h.1.1.1.0; same_ots = h.1.1.1.1.0; same_lms = h.1.1.1.1.1.0; leaf = h.1.1.1.1.1.1.0; root = h.1.1.1.1.1.1.1 })
    (λ v. (v.key_long, (v.lms_known, (v.ots_known, (v.long, (v.same_ots, (v.same_lms, (v.leaf, v.root))))))))
    (decided_both (decide_eq _ _) (decided_both (decided_both (decide_le _ _) (decide_le _ _)) (decided_both (decided_both (decide_le _ _) (decide_le _ _))
    (decided_both (decide_eq _ _) (decided_both (decide_bytes _ _) (decided_both (decide_bytes _ _) (decided_both (decide_lt _ _) (decide_bytes _ _))))))))

abbrev IsListedIn : ℕ → ℕ → Listed → Type 0
IsListedIn clients servers l = (l.client.0 < clients) × (l.server.0 < servers)

abbrev PartsOfGroup : ℕ → ℕ → ℕ → Body → Type 0
PartsOfGroup version clients servers body =
    (body.version ≡ version) × ((length body.digests ≡ digests_due servers body) × (All (IsListedIn clients servers) body.listed × (body.prev.0 < body.r.0)))

decide_in_group : (version clients servers : ℕ) (body : Body) → Decided (IsInGroup version clients servers body)
decide_in_group version clients servers body =
    decided_as (λ (h : PartsOfGroup version clients servers body). record { of_version = h.0; digests = h.1.0; listed = h.1.1.0; after = h.1.1.1 })
    (λ g. (g.of_version, (g.digests, (g.listed, g.after))))
    (decided_both (decide_eq body.version version) (decided_both (decide_eq (length body.digests) (digests_due servers body))
    (decided_both (decide_every (IsListedIn clients servers) body.listed (λ l. decided_both (decide_lt l.client.0 clients) (decide_lt l.server.0 servers)))
    (decide_lt body.prev.0 body.r.0))))

abbrev PartsOfSigned : List ℕ → ℕ → ℕ → List (List ℕ) → Body → List (List ℕ) → Type 0
PartsOfSigned digest version clients keys body signatures =
    (length signatures ≡ length keys) × (IsInGroup version clients (length keys) body × ((j : ℕ) → j < length keys → IsSignedAt digest keys body signatures j))

decide_signed : (digest : List ℕ) (version clients : ℕ) (keys : List (List ℕ)) (body : Body) (signatures : List (List ℕ)) → IsPayload (payloads.Certificate body signatures)
    → Decided (IsSigned digest version clients keys body signatures)
decide_signed digest version clients keys body signatures fits =
    decided_as (λ (h : PartsOfSigned digest version clients keys body signatures). record { fits = fits; each = h.0; within = h.1.0; signed = h.1.1 })
    (λ s. (s.each, (s.within, s.signed)))
    (decided_both (decide_eq (length signatures) (length keys)) (decided_both (decide_in_group version clients (length keys) body)
    (decide_below (IsSignedAt digest keys body signatures) (length keys) (λ j. decide_verifies _ _ _))))

ok_is : (x y : Payload) → ◌≡◌ {A = Result Payload RecordFault} (Ok x) (Ok y) → x ≡ y
ok_is x y e = cc

err_is_not : (fault : RecordFault) (y : Payload) → ◌≡◌ {A = Result Payload RecordFault} (Err fault) (Ok y) → ⊥
err_is_not fault y e = absurd cc

module _ (roster : RosterView) (bytes : List ℕ) (are : IsBytes bytes) where
  abbrev Is : Type 0
  Is = (c : CertificateView) × IsCertificateOf roster bytes c

  -- a certificate's bytes read as its payload
  read_so : (h : Is) → payload_of bytes ≡ Ok (payloads.Certificate h.0.body h.1.certificate.signatures)
  read_so h =
      let payload : Payload = payloads.Certificate h.0.body h.1.certificate.signatures in
      let spelled : payload_bytes payload ≡ bytes = sym h.1.certificate.spelled ∙ h.1.spelled in
      ap payload_of (sym spelled) ∙ payload_again payload h.1.certificate.signed.fits

  no_other : (x : Payload) (h : Is) → payload_of bytes ≡ Ok x → x ≡ payloads.Certificate h.0.body h.1.certificate.signatures
  no_other x h e = ok_is x (payloads.Certificate h.0.body h.1.certificate.signatures) (sym e ∙ read_so h)

  of_certificate : (body : Body) (signatures : List (List ℕ)) → payload_of bytes ≡ Ok (payloads.Certificate body signatures) → Decided Is
  of_certificate body signatures e =
      let found = payload_found bytes are (payloads.Certificate body signatures) e in
      let n = length roster.clients in
      elim (decided_both (decide_eq body.version roster.version) (decide_signed (digest_of roster) body.version n roster.servers body signatures found.0)) [
        | inl so ↦ inl (
          record { digest = digest_of roster; clients = n; keys = roster.servers; body = body; bytes = bytes },
          record {
            certificate = record { signatures = signatures; signed = so.1; spelled = found.1 };
            under = record { digest = refl; version = so.0; clients = refl; keys = refl };
            spelled = refl;
          },
        )
        | inr not_so ↦ inr (λ h.
            let c = h.0 in
            let under = h.1.under in
            let signs = h.1.certificate.signatures in
            let same = no_other (payloads.Certificate body signatures) h e in
            let bodies_are : c.body ≡ body = body_of body c.body signatures signs same in
            let signatures_are : signs ≡ signatures = signatures_of body c.body signatures signs same in
            not_so (
              ap (λ (b : Body). b.version) (sym bodies_are) ∙ under.version,
              subst (λ (s : List (List ℕ)). IsSigned (digest_of roster) body.version n roster.servers body s) signatures_are
                  (subst (λ (b : Body). IsSigned (digest_of roster) b.version n roster.servers b signs) bodies_are
                  (subst (λ (ks : List (List ℕ)). IsSigned (digest_of roster) c.body.version n ks c.body signs) under.keys
                  (subst (λ (m : ℕ). IsSigned (digest_of roster) c.body.version m c.keys c.body signs) under.clients
                  (subst (λ (d : List ℕ). IsSigned d c.body.version c.clients c.keys c.body signs) under.digest h.1.certificate.signed)))),
            ))
      ] where
        body_of : (b d : Body) (s t : List (List ℕ)) → payloads.Certificate b s ≡ payloads.Certificate d t → d ≡ b
        body_of b d s t e = cc

        signatures_of : (b d : Body) (s t : List (List ℕ)) → payloads.Certificate b s ≡ payloads.Certificate d t → t ≡ s
        signatures_of b d s t e = cc

  other_payload : (x : Payload) → payload_of bytes ≡ Ok x → ((b : Body) (s : List (List ℕ)) → x ≡ payloads.Certificate b s → ⊥) → Decided Is
  other_payload x e never = inr (λ h. never h.0.body h.1.certificate.signatures (no_other x h e))

  of_payload : (x : Payload) → payload_of bytes ≡ Ok x → Decided Is
  of_payload (payloads.Certificate body signatures) e = of_certificate body signatures e
  of_payload (payloads.Submission cipher envelope) e = other_payload (payloads.Submission cipher envelope) e never where
    never : (b : Body) (s : List (List ℕ)) → payloads.Submission cipher envelope ≡ payloads.Certificate b s → ⊥
    never b s e = absurd cc
  of_payload (payloads.Plain envelope) e = other_payload (payloads.Plain envelope) e never where
    never : (b : Body) (s : List (List ℕ)) → payloads.Plain envelope ≡ payloads.Certificate b s → ⊥
    never b s e = absurd cc
  of_payload (payloads.Challenge r k envelopes) e = other_payload (payloads.Challenge r k envelopes) e never where
    never : (b : Body) (s : List (List ℕ)) → payloads.Challenge r k envelopes ≡ payloads.Certificate b s → ⊥
    never b s e = absurd cc

  of_result : (o : Result Payload RecordFault) → payload_of bytes ≡ o → Decided Is
  of_result (Ok x) e = of_payload x e
  of_result (Err fault) e = inr (λ h. err_is_not fault (payloads.Certificate h.0.body h.1.certificate.signatures) (sym e ∙ read_so h))

  pub decide_certificate : Decided ((c : CertificateView) × IsCertificateOf roster bytes c)
  decide_certificate = of_result (payload_of bytes) refl
