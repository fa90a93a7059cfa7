-- The lists are compared pair by pair, which tells whether they are one.
use Rattle.std.proofs.Common.{◌≡◌, Bool, true, false, sym, ap, refl}
use Rattle.std.proofs.lemmas.Bool.{eqb-true, eq-eqb, false≢true}
use lib.Pointwise.{pointwise, pointwise_decides}
use Rattle.dn_wire.specs.declared.ids.Member.{Member}
use Rattle.dn_wire.specs.declared.ids.Member.TheVariants.{Client, Server}
use Rattle.dn_wire.specs.Members.{member_eq}
use Rattle.dn_wire.proofs.members.MemberListPartialEq.eq.Goals as goal

one : (x y : Member) → (member_eq x y ≡ true → x ≡ y) × (x ≡ y → member_eq x y ≡ true)
one (Client a) (Client b) = (λ e. ap (λ k. Client (record { 0 = k })) (eqb-true a.0 b.0 e), λ e. eq-eqb a.0 b.0 (cc))
one (Client a) (Server b) = (λ e. absurd (false≢true e), λ e. absurd cc)
one (Server a) (Client b) = (λ e. absurd (false≢true e), λ e. absurd cc)
one (Server a) (Server b) = (λ e. ap (λ k. Server (record { 0 = k })) (eqb-true a.0 b.0 e), λ e. eq-eqb a.0 b.0 (cc))

same_answer : (a b : Bool) → (a ≡ true → b ≡ true) → (b ≡ true → a ≡ true) → a ≡ b
same_answer true b f g = sym (f refl)
same_answer false true f g = absurd (false≢true (g refl))
same_answer false false f g = refl

pub returns : goal.returns
returns c =
    let decided = pointwise_decides one c.args.self.now c.args.other.now in
    same_answer c.equals.result (pointwise member_eq c.args.self.now c.args.other.now)
    (λ t. decided.1 (c.equals.ensures.0 t))
    (λ t. c.equals.ensures.1 (decided.0 t))
