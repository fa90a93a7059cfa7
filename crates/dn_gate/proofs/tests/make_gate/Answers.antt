use Rattle.std.proofs.Common.{◌≡◌, ◌++◌, ◌∷◌, [], List, All, length, get_or, ap, subst, ◌∙◌, arith, length-append}
use Rattle.std.proofs.lemmas.List.{get_or_append_left}
use Rattle.std.proofs.Math.Seq.{get_or-append_seam}
use Rattle.dn_gate.specs.Pass.{IsNew}
use Rattle.dn_gate.proofs.tests.make_gate.Goals as goal

-- what holds of all holds of those before the last, and of the last
parts : {A : Type 0} (P : A → Type 0) (xs : List A) (x : A) (ys : List A) → ys ≡ xs ++ x ∷ [] → All P ys → All P xs × P x
parts P xs x ys e h = (
  (λ k d lt. subst P (ap (λ l. get_or l k d) e ∙ get_or_append_left xs (x ∷ []) d k lt) (h k d (omega (arith, ap length e, length-append xs (x ∷ []), lt)))),
  subst P (ap (λ l. get_or l (length xs) x) e ∙ get_or-append_seam xs x [] x) (h (length xs) x (omega (arith, ap length e, length-append xs (x ∷ [])))),
)

pub returns : goal.returns
returns c =
    let q = parts (IsNew c.in_ok-gate.gate) c.pop.new.self.items c.in-Some.last c.in_ok-gate.passes.items c.in-Some.ensures.items c.in_ok-gate.ensures.new in
    (c.in_ok-gate.ensures.gate.0, q.0, q.1)
