use Rattle.std.proofs.Common.{◌≡◌, ℕ, true, false, not, ◌&&◌, eqb, List, [], ◌∷◌, None, refl, sym, ◌∙◌, subst, arith}
use Rattle.std.proofs.lemmas.Bool.{false≢true, eq-eqb}
use Rattle.std.proofs.lemmas.List.{get_or_default}
use Rattle.std.specs.Cmp.Lexicographic.{pointwise}
use Rattle.dn_trace.specs.declared.entries.Submitted.{Submitted}
use Rattle.dn_trace.specs.Tables.{other}
use Rattle.dn_trace.proofs.doubles.Doubles.note.Goals as goal

itself : (xs : List ℕ) → pointwise eqb xs xs ≡ true
itself [] = refl
itself (x ∷ xs) = λ i. eq-eqb x x refl i && itself xs i

not_other : (x y : Submitted) → x ≡ y → not (eqb x.prev.0 y.prev.0 && (eqb x.client.0 y.client.0 && pointwise eqb x.digest y.digest)) ≡ false
not_other x y same =
    subst (λ z. not (eqb x.prev.0 z.prev.0 && (eqb x.client.0 z.client.0 && pointwise eqb x.digest z.digest)) ≡ false) same
    (λ i. not (eq-eqb x.prev.0 x.prev.0 refl i && (eq-eqb x.client.0 x.client.0 refl i && itself x.digest i)))

pub returns-then-ne : goal.returns-then-ne
returns-then-ne c =
    other c.in-Some.first (get_or_default c.args.self.now.first.items c.args.i.0 None c.index.result.now (omega arith) ∙ sym c.index.ensures ∙ c.in-Some.is)
    (λ same. false≢true (sym (c.ne.ensures ∙ not_other c.in-Some.first c.args.submitted same) ∙ c.if-ne.true)) (omega arith) refl refl
