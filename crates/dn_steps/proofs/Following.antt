-- What the run's chain becomes where a payload is put, once or several times.
use Rattle.std.proofs.Common.{◌≡◌, ◌≢◌, ℕ, ◌<◌, List, [], ◌∷◌, ◌++◌, map, length, refl, sym, ap, subst, ◌∙◌, inl, inr, Bool}
use Rattle.std.specs.Prelude.{Result, Ok, Err}
use Rattle.dn_wire.specs.declared.ids.Member.{Member}
use Rattle.dn_record_types.specs.declared.payload.Payload.{Payload}
use Rattle.dn_record_types.specs.declared.payload.Payload.TheVariants as payloads
use Rattle.dn_record_types.specs.declared.fault.RecordFault.{RecordFault}
use Rattle.dn_records.specs.Records.{payload_bytes, payload_of, IsPayload}
use Rattle.dn_record_types.proofs.RecordLaws.{payload_once, payload_again}
use Rattle.dn_roster.specs.Roster.{RosterView, digest_of}
use Rattle.dn_seal.specs.Said.{SaidView}
use Rattle.dn_seal.specs.declared.challenge.Challenge.{Challenge}
use Rattle.dn_cert.specs.Certificate.{CertificateView, IsInGroup, IsSignedAt, ArePartsRefused}
use Rattle.dn_cert.specs.Chain.{ChainView, CanFollow}
use Rattle.dn_cert.specs.Opening.{IsOpened, IsUnopenedPayload, IsClosed}
use Rattle.dn_cert.specs.declared.fault.CertFault.{CertFault}
use Rattle.dn_cert.specs.declared.fault.CertFault.TheVariants as refusals
use Rattle.dn_cert.specs.declared.opened.Opened.TheVariants as opened
use Rattle.dn_cert.specs.declared.payload_fault.PayloadFault.{PayloadFault}
use Rattle.dn_cert.specs.declared.payload_fault.PayloadFault.TheVariants as closings
use Rattle.dn_cert.proofs.GrowthLemmas.{held_comes}
use Rattle.dn_payloads.specs.declared.content.Content.{Content}
use Rattle.dn_payloads.specs.declared.content.Content.TheVariants as contents
use Rattle.dn_payloads.specs.Payloads.{IsContent}
use Rattle.dn_state.specs.Putting.{Follows, FollowsIn}
use Rattle.dn_state.specs.Putting.Follows.{held as follows, stays}
use Rattle.dn_headline.specs.Log.{Put}
use Rattle.dn_headline.specs.Certified.{IsCertificateOf, IsChainOf}
use Rattle.dn_headline.specs.Certified.IsChainOf.{held, refused, other}
use Rattle.dn_steps.proofs.Places.{both_ways, no_more}

-- ---- what opens to a certificate is one, and nothing else is

opened_certificate : (roster : RosterView) (bytes : List ℕ) (c : CertificateView) (p : Payload) → bytes ≡ payload_bytes p → IsOpened roster p (opened.Certificate c)
    → IsCertificateOf roster bytes c
opened_certificate roster bytes c (payloads.Certificate body signatures) is o =
    record { certificate = o.0; under = o.1; spelled = o.3 ∙ sym is }
opened_certificate roster bytes c (payloads.Submission cipher envelope) is o = absurd o
opened_certificate roster bytes c (payloads.Plain envelope) is o = absurd o
opened_certificate roster bytes c (payloads.Challenge r k envelopes) is o = absurd o

pub certificate_of_content : (roster : RosterView) (bytes : List ℕ) (c : CertificateView) → IsContent roster bytes (contents.Opened (opened.Certificate c))
    → IsCertificateOf roster bytes c
certificate_of_content roster bytes c h = opened_certificate roster bytes c h.0 h.2 h.3

-- bytes that are a certificate are such a payload
module _ (roster : RosterView) (bytes : List ℕ) (c : CertificateView) (is : IsCertificateOf roster bytes c) where
  abbrev payload : Payload
  payload = payloads.Certificate c.body is.certificate.signatures

  fits : IsPayload payload
  fits = is.certificate.signed.fits

  spelled : bytes ≡ payload_bytes payload
  spelled = sym is.spelled ∙ is.certificate.spelled

  same_payload : (p : Payload) → IsPayload p → bytes ≡ payload_bytes p → payload ≡ p
  same_payload p p_fits at = payload_once payload p fits p_fits (sym spelled ∙ at)

  no_submission : (p : Payload) (cipher : List Bool) (said : SaidView) → payload ≡ p → IsOpened roster p (opened.Submission cipher said) → ⊥
  no_submission (payloads.Certificate body signatures) cipher said same o = o
  no_submission (payloads.Submission x envelope) cipher said same o = absurd cc
  no_submission (payloads.Plain envelope) cipher said same o = o
  no_submission (payloads.Challenge r k envelopes) cipher said same o = o

  no_plain : (p : Payload) (said : SaidView) → payload ≡ p → IsOpened roster p (opened.Plain said) → ⊥
  no_plain (payloads.Certificate body signatures) said same o = o
  no_plain (payloads.Submission x envelope) said same o = o
  no_plain (payloads.Plain envelope) said same o = absurd cc
  no_plain (payloads.Challenge r k envelopes) said same o = o

  no_challenge : (p : Payload) (x : Challenge) → payload ≡ p → IsOpened roster p (opened.Challenge x) → ⊥
  no_challenge (payloads.Certificate body signatures) x same o = o
  no_challenge (payloads.Submission y envelope) x same o = o
  no_challenge (payloads.Plain envelope) x same o = o
  no_challenge (payloads.Challenge r k envelopes) x same o = absurd cc

  parts_stand : (refusal : CertFault) → ArePartsRefused roster c.body is.certificate.signatures refusal → ⊥
  parts_stand (refusals.Form fault) r = r
  parts_stand (refusals.Missing server) r = r.0 (is.certificate.signed.each ∙ ap length is.under.keys)
  parts_stand (refusals.Body server) r =
      r.1 (subst (λ (keys : List (List ℕ)). IsInGroup roster.version (length roster.clients) (length keys) c.body) is.under.keys
      (subst (λ (n : ℕ). IsInGroup roster.version n (length c.keys) c.body) is.under.clients
      (subst (λ (v : ℕ). IsInGroup v c.clients (length c.keys) c.body) is.under.version is.certificate.signed.within)))
  parts_stand (refusals.Signature server) r =
      let within : server.0 < length c.keys = subst (λ (keys : List (List ℕ)). server.0 < length keys) (sym is.under.keys) r.2.within in
      r.2.unsigned (subst (λ (keys : List (List ℕ)). IsSignedAt (digest_of roster) keys c.body is.certificate.signatures server.0) is.under.keys
      (subst (λ (d : List ℕ). IsSignedAt d c.keys c.body is.certificate.signatures server.0) is.under.digest (is.certificate.signed.signed server.0 within)))
  parts_stand refusals.NoMemory r = r

  no_err : (fault : RecordFault) → ◌≡◌ {A = Result Payload RecordFault} (Err fault) (Ok payload) → ⊥
  no_err fault e = absurd cc

  ok_is : (p : Payload) → ◌≡◌ {A = Result Payload RecordFault} (Ok payload) (Ok p) → payload ≡ p
  ok_is p e = cc

  read : payload_of bytes ≡ Ok payload
  read = ap payload_of spelled ∙ payload_again payload fits

  stands_open : (p : Payload) (fault : PayloadFault) → payload ≡ p → IsClosed roster p fault → ⊥
  stands_open p fault same closed = let h = subst (λ (q : Payload). IsClosed roster q fault) (sym same) closed in parts_stand h.0 h.1

  is_open : (fault : PayloadFault) → fault ≢ closings.NoMemory → IsUnopenedPayload roster bytes fault → ⊥
  is_open fault not_memory h =
      elim h [
        | inl memory ↦ not_memory memory
        | inr rest ↦ elim rest [
          | inl form ↦ no_err form.0.0 (sym form.0.2 ∙ read)
          | inr closed ↦ stands_open closed.0 fault (ok_is closed.0 (sym read ∙ closed.1)) closed.2
        ]
      ]

abbrev pub IsOther : Content → Type 0
IsOther (contents.Opened (opened.Certificate c)) = ⊥
IsOther _ = Unit {0}

pub other_content : (roster : RosterView) (bytes : List ℕ) (content : Content) → IsOther content → IsContent roster bytes content
    → (c : CertificateView) → ¬ IsCertificateOf roster bytes c
other_content roster bytes (contents.Opened (opened.Certificate d)) o h c is = o
other_content roster bytes (contents.Opened (opened.Submission cipher said)) o h c is =
    no_submission roster bytes c is h.0 cipher said (same_payload roster bytes c is h.0 h.1 h.2) h.3
other_content roster bytes (contents.Opened (opened.Plain said)) o h c is = no_plain roster bytes c is h.0 said (same_payload roster bytes c is h.0 h.1 h.2) h.3
other_content roster bytes (contents.Opened (opened.Challenge x)) o h c is = no_challenge roster bytes c is h.0 x (same_payload roster bytes c is h.0 h.1 h.2) h.3
other_content roster bytes contents.Form o h c is = is_open roster bytes c is closings.Form (λ e. absurd cc) h
other_content roster bytes contents.Stranger o h c is = is_open roster bytes c is closings.Stranger (λ e. absurd cc) h
other_content roster bytes contents.Signature o h c is = is_open roster bytes c is closings.Signature (λ e. absurd cc) h

-- ---- the chain after a put, and after further ones of the same bytes

-- the content is no certificate that could follow
abbrev pub IsDoneWith : Content → ChainView → Type 0
IsDoneWith (contents.Opened (opened.Certificate c)) chain = ¬ CanFollow chain c.body
IsDoneWith _ chain = Unit {0}

module _ (roster : RosterView) (slots : ℕ) (content : Content) (p : Put) (is : IsContent roster p.bytes content) where
  -- a put of what can't follow any more leaves the chain as it is
  again_as : (x : Content) → IsContent roster p.bytes x → (puts : List Put) (chain : ChainView) → IsDoneWith x chain → IsChainOf roster slots puts chain
      → IsChainOf roster slots (puts ++ p ∷ []) chain
  again_as (contents.Opened (opened.Certificate c)) h puts chain done of = refused p c of (certificate_of_content roster p.bytes c h) done
  again_as (contents.Opened (opened.Submission cipher said)) h puts chain done of = other p of (other_content roster p.bytes (contents.Opened (opened.Submission cipher said)) tt h)
  again_as (contents.Opened (opened.Plain said)) h puts chain done of = other p of (other_content roster p.bytes (contents.Opened (opened.Plain said)) tt h)
  again_as (contents.Opened (opened.Challenge x)) h puts chain done of = other p of (other_content roster p.bytes (contents.Opened (opened.Challenge x)) tt h)
  again_as contents.Form h puts chain done of = other p of (other_content roster p.bytes contents.Form tt h)
  again_as contents.Stranger h puts chain done of = other p of (other_content roster p.bytes contents.Stranger tt h)
  again_as contents.Signature h puts chain done of = other p of (other_content roster p.bytes contents.Signature tt h)

  pub put_again : (puts : List Put) (chain : ChainView) (to : List Member) → IsDoneWith content chain → IsChainOf roster slots puts chain
      → IsChainOf roster slots (puts ++ map (λ (m : Member). p) to) chain
  put_again puts chain [] done of = subst (λ (ps : List Put). IsChainOf roster slots ps chain) (no_more puts) of
  put_again puts chain (m ∷ ms) done of =
      subst (λ (ps : List Put). IsChainOf roster slots ps chain) (both_ways puts (p ∷ []) (map (λ (x : Member). p) ms))
      (put_again (puts ++ p ∷ []) chain ms done (again_as content is puts chain done of))

  follow_certificate : (c : CertificateView) → IsCertificateOf roster p.bytes c → (puts : List Put) (old new : ChainView) → Follows old c.body new
      → IsChainOf roster slots puts old → IsChainOf roster slots (puts ++ p ∷ []) new × (¬ CanFollow new c.body)
  follow_certificate c at puts old new (follows can same) of = (
    subst (IsChainOf roster slots (puts ++ p ∷ [])) (sym same) (held p c of at can),
    subst (λ (ch : ChainView). ¬ CanFollow ch c.body) (sym same) (λ again. again.new (c.body, held_comes c.body old.held, refl)),
  )
  follow_certificate c at puts old new (stays not_so same) of = (
    subst (IsChainOf roster slots (puts ++ p ∷ [])) (sym same) (refused p c of at not_so),
    subst (λ (ch : ChainView). ¬ CanFollow ch c.body) (sym same) not_so,
  )

  other_follows : (x : Content) → IsOther x → IsContent roster p.bytes x → (puts : List Put) (old new : ChainView) → new ≡ old → IsChainOf roster slots puts old
      → IsChainOf roster slots (puts ++ p ∷ []) new
  other_follows x o h puts old new same of = subst (IsChainOf roster slots (puts ++ p ∷ [])) (sym same) (other p of (other_content roster p.bytes x o h))

  put_first_as : (x : Content) → IsContent roster p.bytes x → (puts : List Put) (old new : ChainView) → FollowsIn old x new → IsChainOf roster slots puts old
      → IsChainOf roster slots (puts ++ p ∷ []) new × IsDoneWith x new
  put_first_as (contents.Opened (opened.Certificate c)) h puts old new f of = follow_certificate c (certificate_of_content roster p.bytes c h) puts old new f of
  put_first_as (contents.Opened (opened.Submission cipher said)) h puts old new f of = (other_follows (contents.Opened (opened.Submission cipher said)) tt h puts old new f of, tt)
  put_first_as (contents.Opened (opened.Plain said)) h puts old new f of = (other_follows (contents.Opened (opened.Plain said)) tt h puts old new f of, tt)
  put_first_as (contents.Opened (opened.Challenge x)) h puts old new f of = (other_follows (contents.Opened (opened.Challenge x)) tt h puts old new f of, tt)
  put_first_as contents.Form h puts old new f of = (other_follows contents.Form tt h puts old new f of, tt)
  put_first_as contents.Stranger h puts old new f of = (other_follows contents.Stranger tt h puts old new f of, tt)
  put_first_as contents.Signature h puts old new f of = (other_follows contents.Signature tt h puts old new f of, tt)

  -- the chain after the first put of a call
  pub put_first : (puts : List Put) (old new : ChainView) → FollowsIn old content new → IsChainOf roster slots puts old
      → IsChainOf roster slots (puts ++ p ∷ []) new × IsDoneWith content new
  put_first puts old new f of = put_first_as content is puts old new f of

-- what is put to nobody, where its bytes were put before, is no certificate, and leaves the chain
pub unput_follows : (content : Content) (old new : ChainView) → IsOther content → FollowsIn old content new → new ≡ old
unput_follows (contents.Opened (opened.Certificate c)) old new o f = absurd o
unput_follows (contents.Opened (opened.Submission cipher said)) old new o f = f
unput_follows (contents.Opened (opened.Plain said)) old new o f = f
unput_follows (contents.Opened (opened.Challenge x)) old new o f = f
unput_follows contents.Form old new o f = f
unput_follows contents.Stranger old new o f = f
unput_follows contents.Signature old new o f = f
