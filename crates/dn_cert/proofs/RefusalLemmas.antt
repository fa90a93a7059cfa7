-- What every server signed isn't refused.
use Rattle.std.proofs.Common.{◌≡◌, ℕ, List, length, Result, Ok, Err, inl, inr, refl, sym, ap, subst, ◌∙◌}
use Rattle.std.specs.Prelude.{◌⊎◌, IfOk, IfErr, MatchResult}
use Rattle.dn_wire.specs.declared.ids.ServerId.{ServerId}
use Rattle.dn_records.specs.Records.{payload_bytes}
use Rattle.dn_record_types.specs.declared.body.Body.{Body}
use Rattle.dn_record_types.specs.declared.fault.RecordFault.{RecordFault}
use Rattle.dn_record_types.specs.declared.payload.Payload.TheVariants as payloads
use Rattle.dn_record_types.specs.declared.fault.RecordFault.TheVariants as faults
use Rattle.dn_records.specs.Part.{Fails}
use Rattle.dn_record_types.proofs.Laws.{ok_is}
use Rattle.dn_roster.specs.Roster.{RosterView, digest_of}
use Rattle.dn_cert.specs.declared.fault.CertFault.{CertFault}
use Rattle.dn_cert.specs.declared.fault.CertFault.TheVariants as refusals
use Rattle.dn_cert.specs.Certificate.{CertificateView, IsCertificate, IsCertificateUnder, IsSigned, IsOfRoster, IsSignedAt, IsFirstUnsigned, ArePartsRefused, IsRefused, refusal_of, certificate_of}
use Rattle.dn_cert.proofs.PartLemmas.{parts_again}

module _ (roster : RosterView) (bytes : List ℕ) (body : Body) (signatures : List (List ℕ))
    (signed : IsSigned (digest_of roster) roster.version (length roster.clients) roster.servers body signatures)
    (is : bytes ≡ payload_bytes (payloads.Certificate body signatures)) where
  again : certificate_of bytes ≡ Ok (body, signatures)
  again = parts_again bytes body signatures signed.fits is

  -- it is read as this body and these signatures
  pub same_parts : (b : Body) (s : List (List ℕ)) → certificate_of bytes ≡ Ok (b, s) → (b ≡ body) × (s ≡ signatures)
  same_parts b s e = let k = ok_is (b, s) (body, signatures) (sym e ∙ again) in (ap (λ p. p.0) k, ap (λ p. p.1) k)

  -- no server is the first whose signature doesn't verify
  pub not_first : (b : Body) (s : List (List ℕ)) (server : ServerId) → b ≡ body → s ≡ signatures → IsFirstUnsigned roster b s server → {P : Type 0} → P
  not_first b s server p q first =
      absurd (first.unsigned (subst (λ t. IsSignedAt (digest_of roster) roster.servers b t server.0) (sym q)
      (subst (λ x. IsSignedAt (digest_of roster) roster.servers x signatures server.0) (sym p) (signed.signed server.0 first.within))))

  -- and refused for want of memory alone
  pub refused_for_memory : (f : CertFault) → IsRefused roster bytes f → f ≡ refusals.NoMemory
  refused_for_memory (refusals.Form fault) r = let k = sym r.1 ∙ again in absurd cc
  refused_for_memory (refusals.Missing server) r =
      let k = same_parts r.0 r.1 r.2 in absurd (r.3.0 (ap length k.1 ∙ signed.each))
  refused_for_memory (refusals.Body server) r =
      let k = same_parts r.0 r.1 r.2 in
      absurd (r.3.1 (subst (IsOfRoster roster) (sym k.0) signed.within))
  refused_for_memory (refusals.Signature server) r = let k = same_parts r.0 r.1 r.2 in not_first r.0 r.1 server k.0 k.1 r.3.2
  refused_for_memory refusals.NoMemory r = refl

-- a fault of the form refuses
pub refused_for_form : (roster : RosterView) (bytes : List ℕ) (f : RecordFault) → Fails f (certificate_of bytes) → IsRefused roster bytes (refusal_of f)
refused_for_form roster bytes (faults.Cut at) e = (λ k. absurd cc, e)
refused_for_form roster bytes (faults.Kind byte) e = (λ k. absurd cc, e)
refused_for_form roster bytes (faults.Over at limit) e = (λ k. absurd cc, e)
refused_for_form roster bytes (faults.Shape at) e = (λ k. absurd cc, e)
refused_for_form roster bytes (faults.Trailing at) e = (λ k. absurd cc, e)
refused_for_form roster bytes faults.NoMemory e = tt

-- what a form's body and signatures are refused for refuses the bytes
pub refused_for_parts : (roster : RosterView) (bytes : List ℕ) (b : Body) (s : List (List ℕ)) (f : CertFault) → certificate_of bytes ≡ Ok (b, s)
    → (f ≡ refusals.NoMemory) ⊎ ArePartsRefused roster b s f → IsRefused roster bytes f
refused_for_parts roster bytes b s (refusals.Form fault) e (inl k) = absurd cc
refused_for_parts roster bytes b s (refusals.Form fault) e (inr u) = absurd u
refused_for_parts roster bytes b s (refusals.Missing server) e (inl k) = absurd cc
refused_for_parts roster bytes b s (refusals.Missing server) e (inr u) = (b, s, e, u)
refused_for_parts roster bytes b s (refusals.Body server) e (inl k) = absurd cc
refused_for_parts roster bytes b s (refusals.Body server) e (inr u) = (b, s, e, u)
refused_for_parts roster bytes b s (refusals.Signature server) e (inl k) = absurd cc
refused_for_parts roster bytes b s (refusals.Signature server) e (inr u) = (b, s, e, u)
refused_for_parts roster bytes b s refusals.NoMemory e u = tt

pub refused_if : (roster : RosterView) (bytes : List ℕ) (b : Body) (s : List (List ℕ)) (r : Result CertificateView CertFault) → certificate_of bytes ≡ Ok (b, s)
    → IfErr r (λ f. (f ≡ refusals.NoMemory) ⊎ ArePartsRefused roster b s f) → IfErr r (IsRefused roster bytes)
refused_if roster bytes b s (Ok c) e u = tt
refused_if roster bytes b s (Err f) e u = refused_for_parts roster bytes b s f e u

pub accepted_if : (roster : RosterView) (bytes : List ℕ) (b : Body) (s : List (List ℕ)) (r : Result CertificateView CertFault) (x : Body)
    → IsSigned (digest_of roster) roster.version (length roster.clients) roster.servers b s → bytes ≡ payload_bytes (payloads.Certificate b s)
    → x ≡ b → IfOk r (λ c. IsCertificate c × IsCertificateUnder roster c × (c.bytes ≡ bytes) × (c.body ≡ x)) → IfErr r (IsRefused roster bytes)
    → MatchResult r (λ c. c.body ≡ b) (λ f. f ≡ refusals.NoMemory)
accepted_if roster bytes b s (Ok c) x k e same is u = is.3 ∙ same
accepted_if roster bytes b s (Err f) x k e same is u = refused_for_memory roster bytes b s k e f u
