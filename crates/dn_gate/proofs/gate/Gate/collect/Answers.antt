use Rattle.std.proofs.Common.{rules, arith, ap, sym, ◌∙◌, Some, [], length, length-append, ◌<◌, ◌++◌}
use Rattle.std.specs.List.{range_with_len}
use mathlib.Core.Option.{none}
use Rattle.atomic_table.specs.Table.{step}
use Rattle.dn_gate.specs.Collected.{clients_of, took_all}
use Rattle.dn_gate.proofs.Keeps.{settles}
use Rattle.dn_gate.proofs.Joins.{joins}
use Rattle.dn_gate.proofs.Rights.{has_right}
use Rattle.dn_gate.proofs.Complete.{all_taken}
use Rattle.dn_gate.proofs.Histories.{is_history}
use Rattle.dn_gate.proofs.Counted.{settled, settled_view, none_missing}
use Rattle.dn_gate.proofs.gate.Gate.collect.Goals as goal

pub load-requires : goal.load-requires
load-requires g c = (search rules, search rules, settles _ _ _ _ _ _ _ c.pass.invariant.live)

pub join_seat-requires : goal.join_seat-requires
join_seat-requires g c =
    let right = c.closing.invariant in
    let live : 0 < length c.count_marked-marked.new.seat.me.0.numbers = omega (arith, c.pass.invariant.live, ap (λ m. length m.0.numbers) c.count_marked-marked.ensures.looked.1, ap (λ m. length m.0.numbers) c.load.ensures.2.0) in
    (search rules, search rules, ap (λ m. m.1) right, search rules, joins _ _ _ _ _ _ _ _ live (ap (λ m. m.0.claim) right) (ap (λ m. m.0.unmarked) right))

pub load-requires-2 : goal.load-requires-2
load-requires-2 g c =
    let live : 0 < length c.count_marked-marked.new.seat.me.0.numbers = omega (arith, c.pass.invariant.live, ap (λ m. length m.0.numbers) c.count_marked-marked.ensures.looked.1, ap (λ m. length m.0.numbers) c.load.ensures.2.0) in
    (search rules, search rules, settles _ _ _ _ _ _ _ (omega (arith, live, ap (λ m. length m.0.numbers) c.join_seat.ensures.2, length-append c.count_marked-marked.new.seat.me.0.numbers c.closing.inside.right.me.0.numbers)))

pub returns-clause-same : goal.returns-clause-same
returns-clause-same g c =
    let at = step c.self.inside.table.shared.table_id.slots 0 0 0 none in
    let got = has_right at at c.pass.inside.seat.me c.load.new.seat.me c.count_marked-marked.new.seat.me c.join_seat.new.seat.me c.load-2.new.seat.me c.closing.inside.right.me c.load.result c.load-2.result c.count_marked-marked.ensures.looked.0 c.load.ensures.2 c.count_marked-marked.ensures.looked.1 c.closing.invariant c.join_seat.ensures.2 c.load-2.ensures.2 in
    let is = c.load-3.ensures.2.0 ∙ c.take_all.ensures.taken ∙ ap (λ m. (took_all m.0 (clients_of c.take_all.new.out.items), [])) got.0 in
    (ap (λ m. m.0.draws) is ∙ ap (λ p. p.draws) c.pass.view_is, ap (λ m. m.0.values) is ∙ ap (λ p. p.values) c.pass.view_is, ap (λ m. m.0.repeats) is ∙ ap (λ p. p.repeats) c.pass.view_is, ap (λ m. m.0.closing) is ∙ ap (λ p. p.closing) c.pass.view_is, ap (λ m. m.0.refused) is ∙ ap (λ p. p.refused) c.pass.view_is)

pub load-requires-3 : goal.load-requires-3
load-requires-3 g c =
    let at = step c.self.inside.table.shared.table_id.slots 0 0 0 none in
    let m = c.pass.inside.seat.me in
    let looked = c.count_marked-marked.ensures.looked in
    let got = has_right at at m c.load.new.seat.me c.count_marked-marked.new.seat.me c.join_seat.new.seat.me c.load-2.new.seat.me c.closing.inside.right.me c.load.result c.load-2.result looked.0 c.load.ensures.2 looked.1 c.closing.invariant c.join_seat.ensures.2 c.load-2.ensures.2 in
    let live : 0 < length c.take_all.new.seat.me.0.numbers = omega (arith, c.pass.invariant.live, ap (λ q. length q.0.numbers) c.take_all.ensures.taken, ap (λ q. length q.0.numbers) got.0) in
    (search rules, search rules, settles _ _ _ _ _ _ _ live)

pub returns-clause-enough : goal.returns-clause-enough
returns-clause-enough g c =
    let at = step c.self.inside.table.shared.table_id.slots 0 0 0 none in
    let m = c.pass.inside.seat.me in
    let looked = c.count_marked-marked.ensures.looked in
    let got = has_right at at m c.load.new.seat.me c.count_marked-marked.new.seat.me c.join_seat.new.seat.me c.load-2.new.seat.me c.closing.inside.right.me c.load.result c.load-2.result looked.0 c.load.ensures.2 looked.1 c.closing.invariant c.join_seat.ensures.2 c.load-2.ensures.2 in
    let gate = ap (λ p. p.gate) c.pass.view_is ∙ c.requires.gate in
    let wide = ap (λ q. q.clients) gate ∙ sym (c.self.invariant.0 ∙ ap (λ q. q.clients) c.self.view_is) in
    let every = all_taken m c.load-2.new.seat.me c.take_all.new.seat.me looked.0 c.take_all.new.out.items c.self.inside.clients c.args.closing.count c.count_marked-marked.result got.0 c.take_all.ensures.taken (ap (λ p. p.closing) c.pass.view_is ∙ c.requires.closing.1) wide c.load-3.ensures.2.5 c.take_all.ensures.few c.take_all.ensures.full (omega (arith, c.if-marked-closing.false, ap (λ q. q.count) c.closing.view_is)) looked.3 (omega (arith, looked.3, looked.4)) in
    let is = c.load-3.ensures.2.0 ∙ c.take_all.ensures.taken ∙ ap (λ q. (took_all q.0 (clients_of c.take_all.new.out.items), [])) got.0 in
    (looked.0, ap (λ q. q.0.looked) is ∙ ap (λ p. p.looked ++ looked.0) c.pass.view_is, looked.2 ∙ ap (range_with_len 0) (sym wide ∙ ap (λ p. p.gate.clients) c.pass.view_is), every.0)

pub returns-clause-all : goal.returns-clause-all
returns-clause-all g c =
    let at = step c.self.inside.table.shared.table_id.slots 0 0 0 none in
    let m = c.pass.inside.seat.me in
    let looked = c.count_marked-marked.ensures.looked in
    let got = has_right at at m c.load.new.seat.me c.count_marked-marked.new.seat.me c.join_seat.new.seat.me c.load-2.new.seat.me c.closing.inside.right.me c.load.result c.load-2.result looked.0 c.load.ensures.2 looked.1 c.closing.invariant c.join_seat.ensures.2 c.load-2.ensures.2 in
    let gate = ap (λ p. p.gate) c.pass.view_is ∙ c.requires.gate in
    let wide = ap (λ q. q.clients) gate ∙ sym (c.self.invariant.0 ∙ ap (λ q. q.clients) c.self.view_is) in
    let every = all_taken m c.load-2.new.seat.me c.take_all.new.seat.me looked.0 c.take_all.new.out.items c.self.inside.clients c.args.closing.count c.count_marked-marked.result got.0 c.take_all.ensures.taken (ap (λ p. p.closing) c.pass.view_is ∙ c.requires.closing.1) wide c.load-3.ensures.2.5 c.take_all.ensures.few c.take_all.ensures.full (omega (arith, c.if-marked-closing.false, ap (λ q. q.count) c.closing.view_is)) looked.3 (omega (arith, looked.3, looked.4)) in
    every.1

pub returns-then-marked-closing-clause-whole : goal.returns-then-marked-closing-clause-whole
returns-then-marked-closing-clause-whole g c = λ all.
    let w = settled (step c.self.inside.table.shared.table_id.slots 0 0 0 none) c.pass.inside.seat.table_id c.pass.inside.seat.id c.load.result c.pass.inside.seat.me c.load.new.seat.me c.args.pass.now c.args.self.now c.pass.view_is c.requires.gate c.requires.ready c.load.ensures.2 all in
    let e = none_missing c.pass.inside.seat.table_id c.pass.inside.seat.id c.self.inside.clients c.closing.inside.count c.count_marked-marked.result c.pass.inside.seat.me c.load.new.seat.me c.args.pass.now c.args.self.now c.pass.view_is c.requires.gate (c.requires.closing.1 ∙ ap (λ q. Some q.count) (sym c.closing.view_is)) all (c.self.invariant.0 ∙ ap (λ q. q.clients) c.self.view_is) c.load.ensures.2.0 w c.count_marked-marked.ensures.whole in
    absurd (omega (arith, e, c.if-marked-closing.true))

pub returns-clause-history : goal.returns-clause-history
returns-clause-history g c = λ all.
    is_history c.args.pass.now (settled_view c.pass.inside.seat.table_id c.pass.inside.seat.id c.pass.inside.seat.me c.args.pass.now c.pass.view_is
    (settled (step c.self.inside.table.shared.table_id.slots 0 0 0 none) c.pass.inside.seat.table_id c.pass.inside.seat.id c.load.result c.pass.inside.seat.me c.load.new.seat.me c.args.pass.now c.args.self.now c.pass.view_is c.requires.gate c.requires.ready c.load.ensures.2 all))

pub returns-in_default-clause-history : goal.returns-in_default-clause-history
returns-in_default-clause-history g c = λ all.
    is_history c.args.pass.now (settled_view c.pass.inside.seat.table_id c.pass.inside.seat.id c.pass.inside.seat.me c.args.pass.now c.pass.view_is
    (settled (step c.self.inside.table.shared.table_id.slots 0 0 0 none) c.pass.inside.seat.table_id c.pass.inside.seat.id c.load.result c.pass.inside.seat.me c.load.new.seat.me c.args.pass.now c.args.self.now c.pass.view_is c.requires.gate c.requires.ready c.load.ensures.2 all))

pub returns-then-marked-closing-clause-history : goal.returns-then-marked-closing-clause-history
returns-then-marked-closing-clause-history g c = λ all.
    is_history c.args.pass.now (settled_view c.pass.inside.seat.table_id c.pass.inside.seat.id c.pass.inside.seat.me c.args.pass.now c.pass.view_is
    (settled (step c.self.inside.table.shared.table_id.slots 0 0 0 none) c.pass.inside.seat.table_id c.pass.inside.seat.id c.load.result c.pass.inside.seat.me c.load.new.seat.me c.args.pass.now c.args.self.now c.pass.view_is c.requires.gate c.requires.ready c.load.ensures.2 all))
