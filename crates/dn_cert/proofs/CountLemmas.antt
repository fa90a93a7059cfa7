-- How many clients counted in the rounds of bodies.
use Rattle.std.proofs.Common.{◌≡◌, ◌≢◌, ℕ, List, [], ◌∷◌, length, refl, ap, eq-eqb, ne_eqb, inl, inr}
use Rattle.std.specs.Prelude.{Contains}
use mathlib.Core.Logic.{dite}
use native.Mathlib.Decide.{ℕ_discrete}
use Rattle.dn_record_types.specs.declared.body.Body.{Body}
use Rattle.dn_cert.specs.Chain.{count_in}
use Rattle.dn_cert.proofs.Orders.{here, later, first_or_later, nothing}

-- none where no body is of the round
pub count_none : (bs : List Body) (r : ℕ) → ((b : Body) → Contains bs b → b.r.0 ≢ r) → count_in bs r ≡ 0
count_none [] r none = refl
count_none (b ∷ bs) r none = rw (ne_eqb b.r.0 r (none b (here b bs))) (count_none bs r (λ c a. none c (later b bs c a)))

-- as many as the body of the round lists, where a round has one body
pub count_found : (bs : List Body) → ((x y : Body) → Contains bs x → Contains bs y → x.r.0 ≡ y.r.0 → x ≡ y)
    → (b : Body) → Contains bs b → count_in bs b.r.0 ≡ length b.listed
count_found [] one b a = absurd (nothing b a)
count_found (x ∷ xs) one b a =
    dite (ℕ_discrete x.r.0 b.r.0)
    (λ e. rw (eq-eqb x.r.0 b.r.0 e) (ap (λ (y : Body). length y.listed) (one x b (here x xs) a e)))
    (λ ne. rw (ne_eqb x.r.0 b.r.0 ne) (elim (first_or_later x xs b a) [
      | inl first ↦ absurd (ne (ap (λ (y : Body). y.r.0) first))
      | inr behind ↦ count_found xs (λ y z p q. one y z (later x xs y p) (later x xs z q)) b behind
    ]))
