use Rattle.std.proofs.Common.{◌≤◌, ℕ, ap, sym, ◌∙◌, arith, length, ◌++◌, ◌∷◌, take, drop, map, Some, rules}
use Rattle.std.proofs.lemmas.List.Sorted.{IsNonDecreasingBy-from_sort_by_key, length_permutation}
use Rattle.dn_counts.specs.Counts.{equal, total}
use Rattle.dn_crew.specs.Race.{numbers_of, submitted, client_of}
use Rattle.dn_crew.specs.Shares.{recorded, placed_of, repeat_of}
use Rattle.dn_crew.specs.declared.order.Ordered.TheVariants.{Close}
use Rattle.dn_gate.specs.Order.{in_order}
use Rattle.dn_gate.specs.Collected.{named}
use Rattle.dn_crew.specs.declared.sharing.Drawn.{Drawn}
use Rattle.dn_crew.proofs.OrderLemmas.{sorted_draws, spelled, counted_order, whole_history, closed_by_one}
use Rattle.dn_crew.proofs.Totals.{times_total, total-permutation, total_one, upto_all}
use Rattle.dn_crew.proofs.EachLemmas.{each_submit, one_close}
use Rattle.dn_crew.proofs.TimeLemmas.{placed_in_time}
use Rattle.dn_crew.proofs.race.finish.Goals as goal

pub unreachable-requires : goal.unreachable-requires
unreachable-requires c =
    let closed = rw c.in_default.is at c.requires.closed in
    let h = c.settle.ensures.history (c.requires.gathered.count ∙ sym c.requires.passes) in
    closed_by_one c.args.all.pass h closed.0 closed.1.0 closed.1.1

pub spell-requires : goal.spell-requires
spell-requires c =
    let closed = rw c.in-Some.is at c.requires.closed in
    let h = c.settle.ensures.history (c.requires.gathered.count ∙ sym c.requires.passes) in
    let cut : c.in-Some.closing.count ≤ length c.args.all.pass.draws = rw closed.1 at h.cut in
    let long = c.requires.gathered.draws_are (λ _. 1) in
    omega (arith, total_one c.args.all.pass.draws, total_one c.args.all.draws.items, long, cut, length_permutation _ _ c.in_ok-sort_by_key.ensures.permutation, c.count.ensures, ap length c.deref.ensures.value)

pub returns-clause-order : goal.returns-clause-order
returns-clause-order c =
    let closed = rw c.in-Some.is at c.requires.closed in
    let h = c.settle.ensures.history (c.requires.gathered.count ∙ sym c.requires.passes) in
    let g = c.requires.gathered in
    let up = IsNonDecreasingBy-from_sort_by_key (λ (d : Drawn). d.place) _ c.in_ok-sort_by_key.ensures.sorted (λ a r q k. search rules) in
    let draws = sorted_draws c.args._list.now c.args.all.pass.draws c.args.all.draws.items c.sort_by_key.new.self.items h.places c.in_ok-sort_by_key.ensures.permutation up g.draws_are in
    let same = c.collect.ensures.same in
    let was = c.settle.ensures.same in
    let history = whole_history c.args.all.pass c.collect.new.pass c.args._workers c.count.result c.args.gate.now c.requires.passes
    (c.collect.ensures.pass.0 ∙ ap (λ p. p.gate) was ∙ g.gate_is) (same.0 ∙ ap (λ p. p.draws) was) (same.2 ∙ ap (λ p. p.repeats) was)
    (same.3 ∙ ap (λ p. p.closing) was ∙ closed.1 ∙ ap Some (sym c.count.ensures)) g.in_turn (g.below c.args._workers (omega arith)) in
    spelled c.args._list.now c.in_ok-order.order c.deref.result.now c.args.all.pass.draws c.count.result c.deref-2.result.now c.args.all.pass.repeats c.in_ok-order.ensures
    (ap (map (recorded c.args._list.now)) c.deref.ensures.value ∙ draws) (g.repeats_are ∙ ap (map (client_of c.args._list.now)) (sym c.deref-2.ensures.value))
    ∙ sym history

-- the order has the numbers of the list, added up
pub returns-clause-once : goal.returns-clause-once
returns-clause-once c = λ n.
    let h : ℕ → ℕ = λ x. equal x n in
    let one = counted_order h c.in_ok-order.order c.deref.result.now c.count.result c.deref-2.result.now c.in_ok-order.ensures in
    let two = ap (total (λ d. h d.number)) c.deref.ensures.value in
    let three = ap (total h) c.deref-2.ensures.value in
    let four = total-permutation (λ (d : Drawn). h d.number) _ _ c.in_ok-sort_by_key.ensures.permutation in
    omega (arith, one, two, three, four, c.requires.gathered.all h, upto_all h 0 c.args._workers c.args._list.now c.requires.some, times_total n (submitted c.in_ok-order.order), times_total n (numbers_of c.args._list.now))

pub returns-clause-each : goal.returns-clause-each
returns-clause-each c = λ i.
    let events = returns-clause-order c in
    each_submit c.args._list.now i c.in_ok-order.order _ events (λ n. omega (arith, times_total n (numbers_of c.args._list.now), c.requires.differ n))
    (λ h.
    let one = counted_order h c.in_ok-order.order c.deref.result.now c.count.result c.deref-2.result.now c.in_ok-order.ensures in
    let two = ap (total (λ d. h d.number)) c.deref.ensures.value in
    let three = ap (total h) c.deref-2.ensures.value in
    let four = total-permutation (λ (d : Drawn). h d.number) _ _ c.in_ok-sort_by_key.ensures.permutation in
    omega (arith, one, two, three, four, c.requires.gathered.all h, upto_all h 0 c.args._workers c.args._list.now c.requires.some))

pub returns-clause-one_close : goal.returns-clause-one_close
returns-clause-one_close c = one_close c.args._list.now c.in_ok-order.order _ _ _ _ c.in_ok-order.ensures (returns-clause-order c)

pub returns-clause-in_time : goal.returns-clause-in_time
returns-clause-in_time c = λ n.
    let closed = rw c.in-Some.is at c.requires.closed in
    let whole = c.requires.gathered.count ∙ sym c.requires.passes in
    let h = c.settle.ensures.history whole in
    let g = c.requires.gathered in
    let was = c.settle.ensures.same in
    let up = IsNonDecreasingBy-from_sort_by_key (λ (d : Drawn). d.place) _ c.in_ok-sort_by_key.ensures.sorted (λ a r q k. search rules) in
    let draws = sorted_draws c.args._list.now c.args.all.pass.draws c.args.all.draws.items c.sort_by_key.new.self.items h.places c.in_ok-sort_by_key.ensures.permutation up g.draws_are in
    let collected = c.in-Ok.ensures.whole (ap (λ p. length p.numbers) was ∙ whole) in
    placed_in_time n c.count.result c.args.gate.now.clients c.args._workers c.args._list.now c.of.result c.args.all.pass c.args.all.draws.items c.sort_by_key.new.self.items c.args.all.repeats.items c.deref-2.result.now c.in_ok-order.order
    h (closed.1 ∙ ap Some (sym c.count.ensures)) c.requires.clients c.requires.some g.all g.values_are
    (c.of.ensures ∙ collected ∙ ap (λ p. map named (in_order c.args.gate.now.clients p.values)) was)
    c.in_ok-sort_by_key.ensures.permutation draws
    (c.in_ok-order.ensures ∙ ap (λ l. (map placed_of (take c.count.result l) ++ Close ∷ map placed_of (drop c.count.result l)) ++ map repeat_of c.deref-2.result.now) c.deref.ensures.value)
