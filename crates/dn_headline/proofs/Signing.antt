-- Who signed what, in a run whose audit is clean.
use Rattle.std.proofs.Common.{◌≡◌, ℕ, ◌<◌, List, length, refl, sym, ap, subst, ◌∙◌}
use Rattle.std.specs.Prelude.{Contains, slice_get, Some}
use Rattle.std.proofs.lemmas.Option.{slice_get-get_or}
use Rattle.dn_wire.specs.declared.ids.ServerId.{ServerId}
use Rattle.dn_wire.specs.declared.ids.ClientId.{ClientId}
use Rattle.dn_wire.specs.declared.ids.Member.TheVariants as members
use Rattle.dn_wire.specs.declared.ids.SignerId.{SignerId}
use Rattle.dn_wire.specs.declared.ids.SignerId.TheVariants.{Client, Server}
use Rattle.dn_record_types.specs.declared.body.Body.{Body}
use Rattle.dn_record_types.specs.declared.statement.Statement.{Statement}
use Rattle.dn_record_types.specs.declared.statement.Statement.TheVariants as kinds
use Rattle.dn_record_types.specs.declared.payload.Payload.TheVariants as payloads
use Rattle.dn_roster.specs.Roster.{RosterView, digest_of}
use Rattle.dn_cert.specs.Certificate.{CertificateView, IsSignedAt}
use Rattle.dn_headline.specs.Group.{IsHonestKey, IsHonestServer, IsHonestClient}
use Rattle.dn_headline.specs.Log.{Put}
use Rattle.dn_headline.specs.Run.{RunView, log}
use Rattle.dn_headline.specs.Spoken.{IsPayloadOf, WasSaid, Signed}
use Rattle.dn_headline.specs.Signatures.{HasSignature}
use Rattle.dn_headline.specs.Signatures.SealedIn.{itself}
use Rattle.dn_headline.specs.Signatures.SignedIn.{plain, certificate}
use Rattle.dn_headline.specs.Certified.{IsCertificateOf, IsCertified}
use Rattle.dn_headline.specs.Clean.{Clean}
use Rattle.dn_record_types.specs.Place.{sign_of}
use Rattle.dn_headline.specs.Headline.{OneBodyPerRound}
use Rattle.dn_headline.specs.Invariant.{Facts, Invariant, Signs}

-- the place of an element that a list contains
pub place_in : {X : Type 0} (xs : List X) (x : X) → Contains xs x → (n : ℕ) × (slice_get xs n ≡ Some x)
place_in xs x c = (c.0, slice_get-get_or xs c.0 x c.1 ∙ ap Some c.2)

pub server_key : (w : RunView) (j : ServerId) → IsHonestServer w.group j → IsHonestKey w.group (Server j)
server_key w j h = (members.Server j, refl, h.honest)

pub client_key : (w : RunView) (i : ClientId) → IsHonestClient w.group i → IsHonestKey w.group (Client i)
client_key w i h = (members.Client i, refl, h.honest)

-- a certificate has a signature of each server on its body
pub certificate_has_signature : (roster : RosterView) (bytes : List ℕ) (c : CertificateView) → IsCertificateOf roster bytes c → (j : ServerId) → j.0 < length roster.servers
    → HasSignature roster bytes (Server j) (kinds.Sign c.body)
certificate_has_signature roster bytes c is j within =
    let cert = is.certificate in
    let here : IsPayloadOf bytes (payloads.Certificate c.body cert.signatures) = record { fits = cert.signed.fits; spelled = sym is.spelled ∙ cert.spelled } in
    let at : IsSignedAt (digest_of roster) roster.servers c.body cert.signatures j.0 =
    subst (λ d. IsSignedAt d roster.servers c.body cert.signatures j.0) is.under.digest
    (subst (λ ks. IsSignedAt c.digest ks c.body cert.signatures j.0) is.under.keys
    (cert.signed.signed j.0 (subst (λ (ks : List (List ℕ)). j.0 < length ks) (sym is.under.keys) within))) in
    record { payload = payloads.Certificate c.body cert.signatures; is = here; signed = certificate c.body cert.signatures j within at }

module _ (w : RunView) (clean : Clean w) where
  -- what a payload carries of an honest key, this key signed
  pub carried_is_signed : (put : Put) (who : SignerId) (s : Statement) → Contains (log w).puts put → IsHonestKey w.group who
      → HasSignature w.group.roster put.bytes who s → Signed w who s
  carried_is_signed put who s there honest has =
      let at = place_in (log w).puts put there in
      record { n = at.0; had = clean.signed at.0 put who s at.1 honest has }

  pub said_is_signed : (who : SignerId) (s : Statement) → IsHonestKey w.group who → WasSaid w who s → Signed w who s
  said_is_signed who s honest said =
      carried_is_signed said.put who s said.there honest
      (record { payload = payloads.Plain said.says.envelope; is = said.says.is; signed = plain said.says.envelope (itself said.says.unseals) })

  -- a server signed each body that a certificate has
  pub certified_is_signed : (b : Body) (j : ServerId) → IsHonestServer w.group j → IsCertified w b → Signed w (Server j) (kinds.Sign b)
  certified_is_signed b j honest c =
      subst (λ (x : Body). Signed w (Server j) (kinds.Sign x)) c.body
      (carried_is_signed c.put (Server j) (kinds.Sign c.certificate.body) c.there (server_key w j honest)
      (certificate_has_signature w.group.roster c.put.bytes c.certificate c.is j honest.server))

module _ (w : RunView) (f : Facts) (inv : Invariant w f) (clean : Clean w) where
  -- an honest server's core signed what is said under its key, and each body that a certificate has
  pub signs_said : (j : ServerId) (s : Statement) → IsHonestServer w.group j → WasSaid w (Server j) s → Signs f j s
  signs_said j s honest said = inv.put_is_signed.servers j s honest (said_is_signed w clean (Server j) s (server_key w j honest) said)

  pub signs_certified : (b : Body) (j : ServerId) → IsHonestServer w.group j → IsCertified w b → Signs f j (kinds.Sign b)
  signs_certified b j honest c = inv.put_is_signed.servers j (kinds.Sign b) honest (certified_is_signed w clean b j honest c)

  -- what one honest server signed for one place is one
  pub signs_one_body : (j : ServerId) (b c : Body) → IsHonestServer w.group j → Signs f j (kinds.Sign b) → Signs f j (kinds.Sign c)
      → b.r ≡ c.r → b ≡ c
  signs_one_body j b c honest sb sc same =
      let one = inv.servers.one_each j honest (sign_of c.r) (kinds.Sign b) (kinds.Sign c) sb sc (ap (λ r. Some (sign_of r)) same) refl in
      cc

  pub one_body_lem : OneBodyPerRound w
  one_body_lem b c cb cc' same =
      let j = clean.honest.0 in
      let honest = clean.honest.1 in
      signs_one_body j b c honest (signs_certified b j honest cb) (signs_certified c j honest cc') same
