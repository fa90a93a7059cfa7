-- Two lists of pairs are one where they are as long and each pair is one.
use Rattle.std.proofs.Common.{◌≡◌, true, sym, ap, ◌∙◌}
use Rattle.std.proofs.lemmas.Bool.{eqb-true, eq-eqb, and_parts, and_from}
use Rattle.std.proofs.Math.Dec.{eqb}
use lib.Pointwise.{pointwise, pointwise_decides}
use Rattle.dn_report.specs.declared.pairs.ListedPair.{ListedPair}
use Rattle.dn_report.specs.contracts.pairs.ListedPairPartialEq.TheImpl.{eq-value}
use Rattle.dn_report.proofs.pairs.ListedPairs.equals.Goals as goal

one : (x y : ListedPair) → (eq-value.it x y ≡ true → x ≡ y) × (x ≡ y → eq-value.it x y ≡ true)
one x y = (
  λ e.
      let parts = and_parts (eqb x.client.0 y.client.0) (eqb x.server.0 y.server.0) e in
      let client = eqb-true x.client.0 y.client.0 parts.0 in
      let server = eqb-true x.server.0 y.server.0 parts.1 in
      λ i. record { client = record { 0 = client i }; server = record { 0 = server i } },
  λ e.
      and_from (eqb x.client.0 y.client.0) (eqb x.server.0 y.server.0)
      (eq-eqb x.client.0 y.client.0 (ap (λ (z : ListedPair). z.client.0) e))
      (eq-eqb x.server.0 y.server.0 (ap (λ (z : ListedPair). z.server.0) e)),
)

pub returns : goal.returns
returns c =
    let both = pointwise_decides one c.args.self.now c.args.other.now in
    let e : c.eq.result ≡ pointwise eq-value.it c.args.self.now c.args.other.now = rw (c.get.ensures, c.get-2.ensures) at c.eq.ensures in (
      λ t. both.0 (sym e ∙ t),
      λ same. e ∙ both.1 same,
    )
