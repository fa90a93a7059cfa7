use Rattle.std.proofs.Common.{◌≡◌, ℕ, zero, suc, ◌+◌, ◌<◌, List, [], ◌∷◌, ◌++◌, length, Some, refl, sym, ap, ◌∙◌, subst, arith, inl, inr, length-append}
use Rattle.std.specs.Prelude.{slice_get}
use Rattle.std.proofs.lemmas.Bool.{cases_lt}
use Rattle.std.proofs.lemmas.Option.{same_Some, slice_get_within}
use Rattle.dn_trace.specs.Evidence.{IsOpening}
use Rattle.dn_trace.proofs.challenging.openings.Goals as goal

get_before : {X : Type 0} (xs : List X) (x : X) (k : ℕ) → k < length xs → slice_get (xs ++ x ∷ []) k ≡ slice_get xs k
get_before [] x k lt = absurd (omega arith)
get_before (y ∷ ys) x zero lt = refl
get_before (y ∷ ys) x (suc k) lt = get_before ys x k (omega arith)

get_last : {X : Type 0} (xs : List X) (x : X) → slice_get (xs ++ x ∷ []) (length xs) ≡ Some x
get_last [] x = refl
get_last (y ∷ ys) x = get_last ys x

pub loop-j-preserved : goal.loop-j-preserved
loop-j-preserved c =
    let trial = c.args.case.now in
    let all = c.loop-j.all.items in
    let o = c.in-Some.opening in
    let j = c.loop-j.j in
    let items = c.in_ok-push-in-Some.ensures.items in
    let long = c.loop-j.invariant.size in
    record {
      size = ap length items ∙ length-append all (o ∷ []) ∙ ap (λ n. n + 1) long;
      each = λ x p e.
          let e' : slice_get (all ++ o ∷ []) x ≡ Some p = ap (λ l. slice_get l x) (sym items) ∙ e in
          elim (cases_lt x j) [
            | inl less ↦ c.loop-j.invariant.each x p (sym (get_before all o x (omega arith)) ∙ e')
            | inr ge ↦
                let within : x < length (all ++ o ∷ []) = slice_get_within (all ++ o ∷ []) x p e' in
                let same : x ≡ j = omega (arith, length-append all (o ∷ [])) in
                let is : o ≡ p = same_Some o p (sym (get_last all o) ∙ ap (slice_get (all ++ o ∷ [])) (long ∙ sym same) ∙ e') in
                subst (λ q. IsOpening trial x q.s.now q.shown.now q.pad.now) is (subst (λ n. IsOpening trial n o.s.now o.shown.now o.pad.now) (sym same) c.in-Some.ensures)
          ];
    }
