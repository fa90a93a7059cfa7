-- A payload that opens isn't refused.
use Rattle.std.proofs.Common.{◌≡◌, ◌≢◌, ℕ, ◌<◌, inl, inr, List, [], length, get_or, Result, Ok, Err, Some, None, refl, sym, ap, subst, ◌∙◌, arith}
use Rattle.std.specs.Prelude.{IfErr, MatchResult, ⊤}
use Rattle.std.proofs.lemmas.List.{get_or-map, length-map}
use Rattle.dn_wire.specs.declared.ids.SignerId.TheVariants.{Client}
use Rattle.dn_records.specs.Records.{envelope_of, payload_of, payload_bytes, IsPayload}
use Rattle.dn_record_types.specs.declared.statement.Statement.TheVariants as kinds
use Rattle.dn_record_types.specs.declared.envelope.Envelope.{Envelope}
use Rattle.dn_record_types.specs.declared.body.Body.{Body}
use Rattle.dn_record_types.specs.declared.payload.Payload.{Payload}
use Rattle.dn_record_types.specs.declared.payload.Payload.TheVariants as payloads
use Rattle.dn_record_types.proofs.RecordLaws.{envelope_again, payload_again}
use Rattle.dn_roster.specs.Roster.{RosterView, key_of, digest_of}
use Rattle.dn_seal.specs.Signer.{envelope}
use Rattle.dn_seal.specs.declared.unopened.Unopened.{Unopened}
use Rattle.dn_seal.specs.declared.unopened.Unopened.TheVariants as reasons
use Rattle.dn_seal.specs.Said.{SaidView, IsUnopened, Signs}
use Rattle.dn_seal.specs.Challenge.{AreOpened, IsFirstUnopened}
use Rattle.dn_seal.proofs.SaidLemmas.{one_said}
use Rattle.dn_cert.specs.declared.fault.CertFault.{CertFault}
use Rattle.dn_cert.specs.declared.fault.CertFault.TheVariants as refusals
use Rattle.dn_cert.specs.declared.opened.Opened.{Opened}
use Rattle.dn_cert.specs.declared.opened.Opened.TheVariants as opened
use Rattle.dn_cert.specs.declared.payload_fault.PayloadFault.{PayloadFault}
use Rattle.dn_cert.specs.declared.payload_fault.PayloadFault.TheVariants as faults
use Rattle.dn_cert.specs.Certificate.{CertificateView, IsCertificate, IsCertificateUnder, IsSigned, ArePartsRefused, certificate_of}
use Rattle.dn_cert.specs.Opening.{IsSubmission, IsOpened, IsOpenedEnvelope, IsClosed, IsUnopenedPayload}
use Rattle.dn_record_types.proofs.Laws.{ok_is}
use Rattle.dn_cert.proofs.PartLemmas.{parts_again}
use Rattle.dn_cert.proofs.RefusalLemmas.{refused_for_memory, refused_for_parts}

some_key : (a b : List ℕ) → Some a ≡ Some b → a ≡ b
some_key a b e = cc

-- it stands where a list has too few
no_said : SaidView
no_said = record {
  digest = [];
  key = [];
  signer = Client (record { 0 = 0 });
  statement = kinds.Concede (record { 0 = 0 }) 0;
  signature = [];
  bytes = [];
}

module _ (roster : RosterView) where
  envelope_is : (said : SaidView) (bytes : List ℕ) → IsOpenedEnvelope roster bytes said → envelope_of bytes ≡ Ok (envelope said.signer said.statement said.signature)
  envelope_is said bytes is =
      ap envelope_of (sym is.2 ∙ is.0.spelled) ∙ envelope_again (envelope said.signer said.statement said.signature) is.0.fits

  -- an envelope that unseals isn't refused
  not_unopened : (said : SaidView) (bytes : List ℕ) (reason : Unopened) → IsOpenedEnvelope roster bytes said → reason ≢ reasons.NoMemory
      → IsUnopened roster bytes reason → ⊥
  not_unopened said bytes (reasons.Form fault) is ne u =
      let k : Err fault ≡ Ok (envelope said.signer said.statement said.signature) = sym u.1 ∙ envelope_is said bytes is in absurd cc
  not_unopened said bytes (reasons.Stranger who) is ne u =
      let same : u.0 ≡ envelope said.signer said.statement said.signature =
      ok_is u.0 (envelope said.signer said.statement said.signature) (sym u.1 ∙ envelope_is said bytes is) in
      let signer : said.signer ≡ who = sym (ap (λ (x : Envelope). x.signer) same) ∙ u.2 in
      let k : Some said.key ≡ None = sym is.1.1 ∙ ap (key_of roster) signer ∙ u.3 in
      absurd cc
  not_unopened said bytes reasons.Signature is ne u =
      let e = envelope said.signer said.statement said.signature in
      let same : u.0 ≡ e = ok_is u.0 e (sym u.2 ∙ envelope_is said bytes is) in
      let key : said.key ≡ u.1 = some_key said.key u.1 (sym is.1.1 ∙ ap (λ (x : Envelope). key_of roster x.signer) (sym same) ∙ u.3) in
      u.4 (subst (λ (x : Envelope). Signs (digest_of roster) u.1 x) (sym same)
      (subst (λ (k : List ℕ). Signs (digest_of roster) k e) key (subst (λ (d : List ℕ). Signs d said.key e) is.1.0 is.0.verifies)))
  not_unopened said bytes reasons.NoMemory is ne u = ne refl

  -- what every server signed isn't refused
  not_unsigned : (body : Body) (signatures : List (List ℕ)) (c : CertificateView) (refusal : CertFault) → IsPayload (payloads.Certificate body signatures)
      → IsCertificate c → IsCertificateUnder roster c → c.bytes ≡ payload_bytes (payloads.Certificate body signatures)
      → ArePartsRefused roster body signatures refusal → ⊥
  not_unsigned body signatures c refusal fits is under spelled u =
      let read : certificate_of c.bytes ≡ Ok (body, signatures) = parts_again c.bytes body signatures fits spelled in
      let signed : IsSigned (digest_of roster) roster.version (length roster.clients) roster.servers c.body is.signatures =
      subst (λ (d : List ℕ). IsSigned d roster.version (length roster.clients) roster.servers c.body is.signatures) under.digest
      (subst (λ (v : ℕ). IsSigned c.digest v (length roster.clients) roster.servers c.body is.signatures) under.version
      (subst (λ (n : ℕ). IsSigned c.digest c.body.version n roster.servers c.body is.signatures) under.clients
      (subst (λ (k : List (List ℕ)). IsSigned c.digest c.body.version c.clients k c.body is.signatures) under.keys is.signed))) in
      let memory : refusal ≡ refusals.NoMemory =
      refused_for_memory roster c.bytes c.body is.signatures signed is.spelled refusal (refused_for_parts roster c.bytes body signatures refusal read (inr u)) in
      subst (ArePartsRefused roster body signatures) memory u

  -- envelopes that unseal have no first that doesn't
  not_first_unopened : (envelopes : List (List ℕ)) (shown : List SaidView) (reason : Unopened) → AreOpened roster envelopes shown → reason ≢ reasons.NoMemory
      → IsFirstUnopened roster envelopes reason → ⊥
  not_first_unopened envelopes shown reason is ne first =
      let count : length shown ≡ length envelopes = sym (length-map shown (λ (x : SaidView). x.bytes)) ∙ ap length is.bytes in
      let within : first.at < length shown = omega (arith, first.within, count) in
      let bytes : (get_or shown first.at no_said).bytes ≡ get_or envelopes first.at [] =
      sym (get_or-map (λ (x : SaidView). x.bytes) shown first.at no_said [] within) ∙ ap (λ (l : List (List ℕ)). get_or l first.at []) is.bytes in
      not_unopened (get_or shown first.at no_said) (get_or envelopes first.at []) reason
      (is.said first.at no_said within, is.under first.at no_said within, bytes) ne first.unopened

  not_closed : (p : Payload) (x : Opened) (fault : PayloadFault) → IsPayload p → IsOpened roster p x → IsClosed roster p fault → ⊥
  not_closed (payloads.Submission cipher e) (opened.Submission c said) fault fits is (inl u) = not_unopened said e u.0 is.1 u.1 u.2
  not_closed (payloads.Submission cipher e) (opened.Submission c said) fault fits is (inr u) =
      let other = u.0.0 in
      let its = u.0.1 in
      let same : said ≡ other = one_said roster said other is.1.0 its.0 is.1.1 its.1 (is.1.2 ∙ sym its.2) in
      u.0.2 (subst (λ (y : SaidView). IsSubmission y.statement) same is.2)
  not_closed (payloads.Submission cipher e) (opened.Plain said) fault fits is u = is
  not_closed (payloads.Submission cipher e) (opened.Certificate c) fault fits is u = is
  not_closed (payloads.Submission cipher e) (opened.Challenge c) fault fits is u = is
  not_closed (payloads.Plain e) (opened.Submission c said) fault fits is u = is
  not_closed (payloads.Plain e) (opened.Plain said) fault fits is u = not_unopened said e u.0 is u.1 u.2
  not_closed (payloads.Plain e) (opened.Certificate c) fault fits is u = is
  not_closed (payloads.Plain e) (opened.Challenge c) fault fits is u = is
  not_closed (payloads.Certificate b s) (opened.Submission c said) fault fits is u = is
  not_closed (payloads.Certificate b s) (opened.Plain said) fault fits is u = is
  not_closed (payloads.Certificate b s) (opened.Certificate c) fault fits is u = not_unsigned b s c u.0 fits is.0 is.1 is.3 u.1
  not_closed (payloads.Certificate b s) (opened.Challenge c) fault fits is u = is
  not_closed (payloads.Challenge r k es) (opened.Submission c said) fault fits is u = is
  not_closed (payloads.Challenge r k es) (opened.Plain said) fault fits is u = is
  not_closed (payloads.Challenge r k es) (opened.Certificate c) fault fits is u = is
  not_closed (payloads.Challenge r k es) (opened.Challenge c) fault fits is u = not_first_unopened es c.shown.items u.0 is.2 u.1 u.2

  module _ (bytes : List ℕ) (p : Payload) (x : Opened) (fits : IsPayload p) (spelled : bytes ≡ payload_bytes p) (is : IsOpened roster p x) where
    again : payload_of bytes ≡ Ok p
    again = ap payload_of spelled ∙ payload_again p fits

    refused_for_want : (fault : PayloadFault) → IsUnopenedPayload roster bytes fault → fault ≡ faults.NoMemory
    refused_for_want fault (inl e) = e
    refused_for_want fault (inr (inl n)) = let k : Err n.0.0 ≡ Ok p = sym n.0.2 ∙ again in absurd cc
    refused_for_want fault (inr (inr q)) =
        let same : q.0 ≡ p = ok_is q.0 p (sym q.1 ∙ again) in
        absurd (not_closed p x fault fits is (subst (λ (y : Payload). IsClosed roster y fault) same q.2))

    -- a payload that opens is refused for want of memory alone
    pub opens_if : (r : Result Opened PayloadFault) → IfErr r (IsUnopenedPayload roster bytes) → MatchResult r (λ y. ⊤) (λ fault. fault ≡ faults.NoMemory)
    opens_if (Ok y) u = tt
    opens_if (Err fault) u = refused_for_want fault u
