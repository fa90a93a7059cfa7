-- The rows of a body, which ascend by their clients.
use Rattle.std.proofs.Common.{◌≡◌, ℕ, zero, suc, ◌+◌, ◌<◌, List, [], ◌∷◌, map, length, get_or, sym, ap, ◌∙◌, subst, arith, add-one}
use Rattle.std.specs.Prelude.{Contains}
use Rattle.std.proofs.lemmas.List.Elements.{All-contains}
use Rattle.dn_wire.specs.declared.ids.ClientId.{ClientId}
use Rattle.dn_records.specs.Lists.{AscendFrom}
use Rattle.dn_record_types.specs.declared.body.Body.{Body}
use Rattle.dn_record_types.specs.declared.body.Listed.{Listed}
use Rattle.dn_cert.specs.Certificate.{CertificateView, IsCertificate}
use Rattle.dn_cert.specs.Chain.{ChainView, bodies, IsChain, HasCertificate}
use Rattle.dn_cert.proofs.ListLemmas.{one_of_number}
use Rattle.dn_client.specs.Holding.{Ascends, Lists}

rises : (floor : ℕ) (rows : List Listed) → AscendFrom floor (map (λ (l : Listed). l.client) rows) → (k : ℕ)
    → suc k < length (map (λ (l : Listed). l.client.0) rows)
    → get_or (map (λ (l : Listed). l.client.0) rows) k 0 < get_or (map (λ (l : Listed). l.client.0) rows) (suc k) 0
rises floor [] up k within = absurd (omega arith)
rises floor (l ∷ []) up k within = absurd (omega arith)
rises floor (l ∷ m ∷ rows) up zero within = omega (arith, up.1.0)
rises floor (l ∷ m ∷ rows) up (suc k) within = rises (l.client.0 + 1) (m ∷ rows) up.1 k (omega arith)

-- those of a certificate's body ascend
pub ascends_in : (c : CertificateView) → IsCertificate c → Ascends c.body.listed
ascends_in c cert k within = rw add-one (rises 0 c.body.listed cert.signed.fits.0.1.1.1.1.1.0.1 k (omega arith))

-- and so do those of a body that is held
pub ascends_of : (chain : ChainView) (b : Body) → IsChain chain → Contains (bodies chain) b → Ascends b.listed
ascends_of chain b is there =
    let c = All-contains HasCertificate (bodies chain) b is.certified there in subst (λ (x : Body). Ascends x.listed) c.2 (ascends_in c.0 c.1)

-- the digest that a body lists a client with is that of the client's row
pub listed_with : (b : Body) (l : Listed) (i : ClientId) (digest : List ℕ) → Ascends b.listed → Contains b.listed l × (l.client ≡ i) → Lists b i digest → l.digest ≡ digest
listed_with b l i digest up found lists =
    let one = one_of_number (λ (x : Listed). x.client.0) b.listed up l lists.0 found.0 lists.1 (ap (λ (n : ClientId). n.0) (found.1 ∙ sym lists.2)) in
    ap (λ (x : Listed). x.digest) one ∙ lists.3
