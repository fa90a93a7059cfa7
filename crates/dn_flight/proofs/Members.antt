-- Members are told apart by their numbers.
use Rattle.std.proofs.Common.{◌≡◌, ℕ, ◌+◌, ◌*◌, ◌==◌, ap, sym, ◌∙◌, arith, eq-eqb, ne_eqb}
use mathlib.Core.Logic.{dite}
use native.Mathlib.Decide.{ℕ_discrete}
use Rattle.dn_wire.specs.declared.ids.Member.{Member}
use Rattle.dn_wire.specs.declared.ids.Member.TheVariants.{Client, Server}
use Rattle.dn_flight.specs.Arena.{member_number}
use Rattle.dn_flight.specs.Flight.{is_member}

even_test : (a b : ℕ) → (a == b) ≡ (2 * a == 2 * b)
even_test a b = dite (ℕ_discrete a b)
    (λ q. eq-eqb a b q ∙ sym (eq-eqb (2 * a) (2 * b) (ap (λ (k : ℕ). 2 * k) q)))
    (λ ne. ne_eqb a b ne ∙ sym (ne_eqb (2 * a) (2 * b) (λ q. ne (omega (arith, q)))))

odd_test : (a b : ℕ) → (a == b) ≡ (2 * a + 1 == 2 * b + 1)
odd_test a b = dite (ℕ_discrete a b)
    (λ q. eq-eqb a b q ∙ sym (eq-eqb (2 * a + 1) (2 * b + 1) (ap (λ (k : ℕ). 2 * k + 1) q)))
    (λ ne. ne_eqb a b ne ∙ sym (ne_eqb (2 * a + 1) (2 * b + 1) (λ q. ne (omega (arith, q)))))

pub member_test : (m n : Member) → is_member m n ≡ (member_number m == member_number n)
member_test (Client a) (Client b) = even_test a.0 b.0
member_test (Client a) (Server b) = sym (ne_eqb (2 * a.0) (2 * b.0 + 1) (λ q. absurd (omega (arith, q))))
member_test (Server a) (Client b) = sym (ne_eqb (2 * a.0 + 1) (2 * b.0) (λ q. absurd (omega (arith, q))))
member_test (Server a) (Server b) = odd_test a.0 b.0
