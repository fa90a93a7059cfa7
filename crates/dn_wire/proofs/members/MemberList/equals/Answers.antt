-- Two lists of members are one where they are as long and each pair is one member.
use Rattle.std.proofs.Common.{◌≡◌, ℕ, true, sym, ap, ◌∙◌}
use Rattle.std.proofs.lemmas.Bool.{eqb-true, eq-eqb}
use lib.Pointwise.{pointwise, pointwise_decides}
use Rattle.dn_wire.specs.declared.ids.Member.{Member}
use Rattle.dn_wire.specs.declared.ids.Member.TheVariants.{Client, Server}
use Rattle.dn_wire.specs.contracts.ids.MemberPartialEq.TheImpl.{eq-value}
use Rattle.dn_wire.proofs.members.MemberList.equals.Goals as goal

one : (x y : Member) → (eq-value.it x y ≡ true → x ≡ y) × (x ≡ y → eq-value.it x y ≡ true)
one (Client a) (Client b) = (λ e. ap (λ (k : ℕ). Client (record { 0 = k })) (eqb-true a.0 b.0 e), λ e. eq-eqb a.0 b.0 (cc))
one (Client a) (Server b) = (λ e. absurd cc, λ e. absurd cc)
one (Server a) (Client b) = (λ e. absurd cc, λ e. absurd cc)
one (Server a) (Server b) = (λ e. ap (λ (k : ℕ). Server (record { 0 = k })) (eqb-true a.0 b.0 e), λ e. eq-eqb a.0 b.0 (cc))

pub returns : goal.returns
returns c =
    let both = pointwise_decides one c.args.self.now c.args.other.now in
    let e : c.eq.result ≡ pointwise eq-value.it c.args.self.now c.args.other.now = rw (c.get.ensures, c.get-2.ensures) at c.eq.ensures in (
      λ t. both.0 (sym e ∙ t),
      λ same. e ∙ both.1 same,
    )
