-- What certificates and chains keep of thin bodies.
use Rattle.std.proofs.Common.{◌≡◌, ℕ, ◌≤◌, Bool, true, false, cond, List, [], length, refl, subst}
use Rattle.std.specs.Prelude.{Contains, IsTrue}
use Rattle.std.proofs.lemmas.List.{nil_from_length}
use Rattle.std.proofs.lemmas.List.Elements.{All-contains}
use Rattle.dn_wire.specs.declared.ids.SignerId.{SignerId}
use Rattle.dn_record_types.specs.declared.body.Body.{Body}
use Rattle.dn_record_types.specs.declared.statement.Statement.{Statement}
use Rattle.dn_layout.specs.Layout.{bits_of, next_of}
use Rattle.dn_cert.specs.declared.rules.Valid.{Valid}
use Rattle.dn_cert.specs.Certificate.{CertificateView, IsCertificate}
use Rattle.dn_cert.specs.Chain.{ChainView, bodies, IsLayoutAfter, HasCertificate, IsChain}
use Rattle.dn_cert.specs.Chain.LayoutAfter.{after_prev}
use Rattle.dn_cert.specs.Evidence.{IsValid}

-- a certificate lists at most 512 clients
pub few_listed : (c : CertificateView) → IsCertificate c → length c.body.listed ≤ 512
few_listed c cert = cert.signed.fits.0.1.1.1.1.1.0.0

-- and is thin in version 2 alone
thin_version : (c : CertificateView) → IsCertificate c → IsTrue c.body.thin → c.body.version ≡ 2
thin_version c cert = cert.signed.fits.0.1.1.1.1.0

none_where : (b : Bool) (n m : ℕ) → IsTrue b → m ≡ cond b 0 n → m ≡ 0
none_where true n m t e = e
none_where false n m t e = absurd cc

same_where : (b : Bool) (l m : List ℕ) → IsTrue b → l ≡ cond b l m
same_where true l m t = refl
same_where false l m t = absurd cc

module _ (chain : ChainView) (b : Body) (is : IsChain chain) (inside : Contains (bodies chain) b) (thin : IsTrue b.thin) where
  certificate : HasCertificate b
  certificate = All-contains HasCertificate (bodies chain) b is.certified inside

  pub is_of_version_2 : b.version ≡ 2
  is_of_version_2 =
      let c = certificate in
      subst (λ (x : Body). IsTrue x.thin → x.version ≡ 2) c.2 (thin_version c.0 c.1) thin

  pub no_digests : b.digests ≡ []
  no_digests =
      let c = certificate in
      let due : length b.digests ≡ cond b.thin 0 (length c.0.keys) =
      subst (λ (x : Body). length x.digests ≡ cond x.thin 0 (length c.0.keys)) c.2 c.1.signed.within.digests in
      nil_from_length b.digests (none_where b.thin (length c.0.keys) (length b.digests) thin due)

  pub no_output : b.out ≡ []
  no_output =
      let l = is.long b inside in nil_from_length b.out (none_where b.thin (bits_of l.0) (length b.out) thin l.2)

-- no accusation holds against a thin body
pub nothing_to_accuse : (b : Body) (layout : List ℕ) (who : SignerId) (s : Statement) (v : Valid) → IsTrue b.thin → ¬ IsValid layout b who s v
nothing_to_accuse b layout who s v thin valid = let full : b.thin ≡ false = valid.full in absurd cc

-- the layout after a thin body is the one before it
pub layout_same : (chain : ChainView) (b : Body) (l : List ℕ) → Contains (bodies chain) b → IsTrue b.thin → IsLayoutAfter chain b.prev.0 l → IsLayoutAfter chain b.r.0 l
layout_same chain b l inside thin after = after_prev b l inside refl after (same_where b.thin l (next_of l b.out) thin)
