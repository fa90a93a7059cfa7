-- When the numbers of two keys are one.
use Rattle.std.proofs.Common.{◌≡◌, ◌+◌, ◌*◌, ℕ, Some, None, sym, ap, ◌∙◌, refl, inl, inr, arith, cond, true, false}
use Rattle.std.specs.Prelude.{◌⊎◌, Bool, ◌&&◌, ◌==◌}
use Rattle.std.specs.declared.cmp.Ordering.{Ordering}
use Rattle.std.specs.declared.cmp.Ordering.TheVariants.{Less, Equal, Greater}
use Rattle.std.specs.Ordering.{nat_cmp, is_eq, ordering_then}
use Rattle.std.proofs.lemmas.Bool.{cases_order}
use Rattle.std.proofs.lemmas.Bool.Decides.{nat_tests}
use Rattle.dn_wire.specs.declared.ids.Member.{Member}
use Rattle.dn_wire.specs.declared.ids.Member.TheVariants.{Client, Server}
use Rattle.dn_verify.specs.declared.told.ToldKey.{ToldKey}
use Rattle.dn_verify.specs.Course.{is_member, is_told_key}
use Rattle.dn_verify.specs.Kept.{pair_cmp, three_cmp, member_number, key_of}

pub at_number : (a b : ℕ) → is_eq (nat_cmp a b) ≡ (a == b)
at_number a b =
    elim (cases_order a b) [
      | inl e ↦ grind (arith, nat_tests)
      | inr (inl below) ↦ grind (arith, nat_tests)
      | inr (inr above) ↦ grind (arith, nat_tests)
    ]

both : (a b : Ordering) → is_eq (ordering_then a b) ≡ (is_eq a && is_eq b)
both Less b = refl
both Equal b = refl
both Greater b = refl

at_pair : (x y : ℕ × ℕ) → is_eq (pair_cmp x y) ≡ (x.0 == y.0 && x.1 == y.1)
at_pair x y = both (nat_cmp x.0 y.0) (nat_cmp x.1 y.1) ∙ ap (λ (b : Bool). b && is_eq (nat_cmp x.1 y.1)) (at_number x.0 y.0) ∙ ap (λ (b : Bool). x.0 == y.0 && b) (at_number x.1 y.1)

at_three : (x y : ℕ × (ℕ × ℕ)) → is_eq (three_cmp x y) ≡ (x.0 == y.0 && (x.1.0 == y.1.0 && x.1.1 == y.1.1))
at_three x y = both (nat_cmp x.0 y.0) (pair_cmp x.1 y.1) ∙ ap (λ (b : Bool). b && is_eq (pair_cmp x.1 y.1)) (at_number x.0 y.0) ∙ ap (λ (b : Bool). x.0 == y.0 && b) (at_pair x.1 y.1)

turned : (a b c : Bool) → (a && (b && c)) ≡ (b && (c && a))
turned true true true = refl
turned true true false = refl
turned true false c = refl
turned false true true = refl
turned false true false = refl
turned false false c = refl

pub at_told : (x y : ToldKey) → is_eq (three_cmp (key_of x) (key_of y)) ≡ is_told_key x y
at_told x y = at_three (key_of x) (key_of y) ∙ turned (x.r.0 == y.r.0) (x.client.0 == y.client.0) (x.server.0 == y.server.0)

numbers : (m n : Member) → (member_number m == member_number n) ≡ is_member m n
numbers (Client a) (Client b) = grind (arith, nat_tests)
numbers (Client a) (Server b) = grind (arith, nat_tests)
numbers (Server a) (Client b) = grind (arith, nat_tests)
numbers (Server a) (Server b) = grind (arith, nat_tests)

pub at_put : (p q : ℕ) (m n : Member) → is_eq (pair_cmp (p, member_number m) (q, member_number n)) ≡ (p == q && is_member m n)
at_put p q m n = at_pair (p, member_number m) (q, member_number n) ∙ ap (λ (b : Bool). p == q && b) (numbers m n)

self_member : (m : Member) → is_member m m ≡ true
self_member (Client a) = grind (arith, nat_tests)
self_member (Server a) = grind (arith, nat_tests)

pub same_member : (m n : Member) → m ≡ n → is_member m n ≡ true
same_member m n e = ap (is_member m) (sym e) ∙ self_member m

not_equal : (a b : ℕ) → (a ≡ b → ⊥) → (a == b) ≡ false
not_equal a b other = grind (arith, nat_tests)

pub other_member : (m n : Member) → (m ≡ n → ⊥) → is_member m n ≡ false
other_member (Client a) (Client b) other = not_equal a.0 b.0 (λ e. other (λ i. Client (record { 0 = e i })))
other_member (Client a) (Server b) other = refl
other_member (Server a) (Client b) other = refl
other_member (Server a) (Server b) other = not_equal a.0 b.0 (λ e. other (λ i. Server (record { 0 = e i })))
