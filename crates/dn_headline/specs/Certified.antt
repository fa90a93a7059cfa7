-- The certificates that were put, the layouts along them, and the run's chain.
use Rattle.std.specs.Prelude.{◌≡◌, ℕ, ◌==◌, false, List, [], ◌∷◌, ◌++◌, length, filter, All, Contains, slice_get, Some}
use Rattle.dn_wire.specs.declared.ids.ClientId.{ClientId}
use Rattle.dn_record_types.specs.declared.body.Body.{Body}
use Rattle.dn_layout.specs.Layout.{bits_of}
use Rattle.dn_roster.specs.Roster.{RosterView}
use Rattle.dn_cert.specs.Certificate.{CertificateView, IsCertificate, IsCertificateUnder}
use Rattle.dn_cert.specs.Chain.{ChainView, LayoutAfter, CanFollow, with_held}
use Rattle.dn_headline.specs.Group.{clients_of}
use Rattle.dn_headline.specs.Log.{Put}
use Rattle.dn_headline.specs.Run.{RunView, log}

-- the bytes are a certificate of the group
pub record IsCertificateOf (roster : RosterView) (bytes : List ℕ) (c : CertificateView) : Type 0 where
  pub certificate : IsCertificate c
  pub under : IsCertificateUnder roster c
  pub spelled : c.bytes ≡ bytes

-- a certificate of the body was put
pub record IsCertified (w : RunView) (b : Body) : Type 0 where
  pub put : Put
  pub there : Contains (log w).puts put
  pub certificate : CertificateView
  pub is : IsCertificateOf w.group.roster put.bytes certificate
  pub body : certificate.body ≡ b

-- payload number m that was put is a certificate of the body
pub record IsCertifiedAt (w : RunView) (m : ℕ) (b : Body) : Type 0 where
  pub put : Put
  pub there : slice_get (log w).puts m ≡ Some put
  pub certificate : CertificateView
  pub is : IsCertificateOf w.group.roster put.bytes certificate
  pub body : certificate.body ≡ b

-- how many entries a body has of a client
abbrev pub entries_of : Body → ClientId → ℕ
entries_of b i = length (filter (λ l. l.client.0 == i.0) b.listed)

-- the layout after a round, along bodies whose certificates were put
pub record IsLayoutOf (w : RunView) (r : ℕ) (layout : List ℕ) : Type 0 where
  pub bodies : List Body
  pub certified : All (IsCertified w) bodies
  pub after : LayoutAfter (clients_of w.group) bodies r layout

-- a body's round has n bits
pub record HasLength (w : RunView) (b : Body) (n : ℕ) : Type 0 where
  pub layout : List ℕ
  pub after : IsLayoutOf w b.prev.0 layout
  pub bits : n ≡ bits_of layout

-- a certified body that isn't thin, whose round has n bits
pub record HasOutput (w : RunView) (b : Body) (n : ℕ) : Type 0 where
  pub certified : IsCertified w b
  pub full : b.thin ≡ false
  pub long : HasLength w b n

-- The chain to which each certificate of these puts is given, in their order: it holds those that can follow.
pub data IsChainOf (roster : RosterView) (slots : ℕ) : List Put → ChainView → Type 0 where
  empty : IsChainOf roster slots [] (record { slots = slots; held = [] })
  held : {puts : List Put} {chain : ChainView} (p : Put) (c : CertificateView) → IsChainOf roster slots puts chain → IsCertificateOf roster p.bytes c
      → CanFollow chain c.body → IsChainOf roster slots (puts ++ p ∷ []) (record chain { held = with_held c.body chain.held })
  refused : {puts : List Put} {chain : ChainView} (p : Put) (c : CertificateView) → IsChainOf roster slots puts chain → IsCertificateOf roster p.bytes c
      → ¬ CanFollow chain c.body → IsChainOf roster slots (puts ++ p ∷ []) chain
  other : {puts : List Put} {chain : ChainView} (p : Put) → IsChainOf roster slots puts chain → ((c : CertificateView) → ¬ IsCertificateOf roster p.bytes c)
      → IsChainOf roster slots (puts ++ p ∷ []) chain

-- the run's chain
abbrev pub IsRunChain : RunView → ChainView → Type 0
IsRunChain w chain = IsChainOf w.group.roster (clients_of w.group) (log w).puts chain
