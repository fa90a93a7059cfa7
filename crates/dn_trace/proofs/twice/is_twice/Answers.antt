use Rattle.std.proofs.Common.{◌≡◌, ◌<◌, List, ◌++◌, length, get_or, Some, refl, sym, ap, ◌∙◌, subst, arith, length-append}
use Rattle.std.proofs.lemmas.Grind.{common_steps}
use Rattle.std.proofs.lemmas.Bool.{iff_false, false≢true}
use Rattle.std.specs.Prelude.{Contains}
use Rattle.std.specs.Ordering.{nat_cmp}
use Rattle.std.specs.BTreeMap as tree
use Rattle.std.proofs.lemmas.List.{get_or_default}
use Rattle.std.proofs.lemmas.List.Elements.{Contains-get_or}
use Rattle.dn_seal.specs.Said.{SaidView}
use Rattle.dn_trace.specs.Trial.{round_of}
use Rattle.dn_trace.specs.Evidence.{number_by}
use Rattle.dn_trace.proofs.Indexing.{Indexed, indexed_skip, indexed_again, indexed_fresh, indexed_all}
use Rattle.dn_trace.proofs.TwiceLemmas.{twice_from, not_twice}
use Rattle.dn_trace.proofs.twice.is_twice.Goals as goal
use Rattle.dn_trace.proofs.twice.is_twice.Goals.{in-None+in_ok-insert-in-None, in-Some-copied+else-not-equals}

pub loop-i-preserved-in_default : goal.loop-i-preserved-in_default
loop-i-preserved-in_default c =
    let trial = c.args.case.now in
    let all : List SaidView = trial.given ++ c.args.carried.now in
    let given = c.given-given.ensures.value in
    let x = c.nth-said.result.now in
    let i = c.loop-i.i in
    let lt : i < length all = omega (arith, length-append trial.given c.args.carried.now, ap length given) in
    let at : get_or all i x ≡ x = sym (c.nth-said.ensures ∙ ap (λ l. get_or (l ++ c.args.carried.now) i x) given) in
    indexed_skip (number_by c.args.j.0 (round_of trial) trial.k) (λ y. y.statement) all (tree.get nat_cmp c.loop-i.first) i lt x at c.loop-i.invariant (sym c.number_by.ensures ∙ c.in_default.is)

pub returns-then-not-equals : goal.returns-then-not-equals
returns-then-not-equals c =
    let trial = c.args.case.now in
    let all : List SaidView = trial.given ++ c.args.carried.now in
    let given = c.given-given.ensures.value in
    let x = c.nth-said.result.now in
    let y = c.nth.result.now in
    let i = c.loop-i.i in
    let p = c.in-Some-copied.at in
    let q = c.in-Some.place in
    let lt : i < length all = omega (arith, length-append trial.given c.args.carried.now, ap length given) in
    let at_x : get_or all i x ≡ x = sym (c.nth-said.ensures ∙ ap (λ l. get_or (l ++ c.args.carried.now) i x) given) in
    let at_y : get_or all p y ≡ y = sym (c.nth.ensures ∙ ap (λ l. get_or (l ++ c.args.carried.now) p y) given) in
    let has : tree.get nat_cmp c.loop-i.first q ≡ Some p = sym c.get.ensures.value ∙ sym c.copied.ensures ∙ c.in-Some-copied.is in
    let before : p < i = c.loop-i.invariant.below q p has in
    let p_lt : p < length all = omega arith in
    let number_y = ap (number_by c.args.j.0 (round_of trial) trial.k) (sym at_y) ∙ c.loop-i.invariant.numbered q p has y in (
      (λ t. twice_from trial c.args.carried.now c.requires c.args.j.0 y x q
          (subst (Contains all) at_y (Contains-get_or all p y p_lt)) (subst (Contains all) at_x (Contains-get_or all i x lt))
          number_y (sym c.number_by.ensures ∙ c.in-Some.is)
          (λ same. iff_false c.equals.ensures c.if-not-equals.true (c.statement.ensures.value ∙ same ∙ sym c.statement-in-Some-copied.ensures.value))),
      (λ twice. refl),
    )

pub loop-i-preserved : goal.loop-i-preserved
loop-i-preserved c =
    let trial = c.args.case.now in
    let all : List SaidView = trial.given ++ c.args.carried.now in
    let f = number_by c.args.j.0 (round_of trial) trial.k in
    let given = c.given-given.ensures.value in
    let x = c.nth-said.result.now in
    let i = c.loop-i.i in
    let q = c.in-Some.place in
    let old = tree.get nat_cmp c.loop-i.first in
    let lt : i < length all = omega (arith, length-append trial.given c.args.carried.now, ap length given) in
    let at_x : get_or all i x ≡ x = sym (c.nth-said.ensures ∙ ap (λ l. get_or (l ++ c.args.carried.now) i x) given) in
    let number_x : f x ≡ Some q = sym c.number_by.ensures ∙ c.in-Some.is in
    let found : old q ≡ c.copied.result = sym c.get.ensures.value ∙ sym c.copied.ensures in
    elim c.match-copied.branch [
      | in-None+in_ok-insert-in-None w ↦
          let updates = w.in_ok-insert-in-None.ensures.updates in
          let new = tree.get nat_cmp w.insert.new.self in
          rw w.first-is
          (indexed_fresh f (λ y. y.statement) all old i lt x at_x c.loop-i.invariant new q number_x (found ∙ w.in-None.is) updates.1
          (λ r ne. let u = updates.0 r in grind (arith, common_steps)))
      | in-Some-copied+else-not-equals w ↦
          let p = w.in-Some-copied.at in
          let y = w.nth.result.now in
          let at_y : get_or all p y ≡ y = sym (w.nth.ensures ∙ ap (λ l. get_or (l ++ c.args.carried.now) p y) given) in
          let same : y.statement ≡ x.statement = sym w.statement.ensures.value ∙ w.equals.ensures.0 w.if-not-equals.false ∙ w.statement-in-Some-copied.ensures.value in
          let has = found ∙ w.in-Some-copied.is in
          let before = c.loop-i.invariant.below q p has in
          rw w.first-is
          (indexed_again f (λ z. z.statement) all old i lt x at_x c.loop-i.invariant q p number_x has
          (ap (λ z. z.statement) (get_or_default all p x y (omega arith) ∙ at_y) ∙ same))
    ]

pub returns : goal.returns
returns c =
    let trial = c.args.case.now in
    let all : List SaidView = trial.given ++ c.args.carried.now in
    let f = number_by c.args.j.0 (round_of trial) trial.k in
    let whole : c.loop-i.i ≡ length all = omega (arith, length-append trial.given c.args.carried.now, ap length c.given-given.ensures.value) in
    let ends = subst (λ n. Indexed f (λ x. x.statement) all (tree.get nat_cmp c.loop-i.first) n) whole c.loop-i.invariant in (
      (λ t. absurd (false≢true t)),
      (λ twice. absurd (not_twice trial c.args.carried.now c.requires c.args.j.0
          (λ x y q a b ex ey.
          let x_at : get_or all a.0 x ≡ x = a.2 in
          let y_at : get_or all b.0 x ≡ y = get_or_default all b.0 x y b.1 ∙ b.2 in
          ap (λ z. z.statement) (sym x_at)
          ∙ indexed_all f (λ z. z.statement) all (tree.get nat_cmp c.loop-i.first) ends q a.0 b.0 x a.1 b.1 (ap f x_at ∙ ex) (ap f y_at ∙ ey)
          ∙ ap (λ z. z.statement) y_at) twice)),
    )
