use Rattle.std.proofs.Common.{rules, arith, ◌≡◌, ap, refl, ◌∙◌, length, ◌++◌}
use Rattle.dn_counts.specs.Counts.{times}
use Rattle.dn_gate.specs.Rule.{At}
use Rattle.dn_gate.specs.Collected.{clients_of}
use Rattle.dn_gate.proofs.Collects.{took_none, took_more, times_above, few_more, below_more', order_more, whole_more, full_more, counted_more}
use Rattle.dn_gate.proofs.collect.take_all.Goals as goal

pub loop-i-init : goal.loop-i-init
loop-i-init g c =
    let none_yet : length (clients_of c.args.out.now.items) ≡ 0 = ap (λ l. length (clients_of l)) c.requires.room.0 in
    record {
      table = refl;
      id = refl;
      me = took_none c.args.seat.now.me c.args.out.now.items c.requires.room.0 c.requires.seat.3;
      room = refl;
      few = omega (arith, ap length c.requires.room.0);
      full = omega arith;
      counted = omega (arith, ap length c.requires.room.0);
      below = λ k lt. absurd (omega (arith, none_yet, lt));
      order = λ k lt. absurd (omega (arith, none_yet, lt));
      whole = λ _. c.requires.room.0;
    }

pub take_into-requires-clause-seat : goal.take_into-requires-clause-seat
take_into-requires-clause-seat g c =
    let me = c.loop-i.invariant.me in
    let taken = ap (λ (q : At g.row.T.Denot). q.0.taken) me ∙ ap (λ l. l ++ clients_of c.loop-i.out.items) c.requires.seat.2 in (
      omega (arith, c.requires.seat.0, ap (λ (q : At g.row.T.Denot). length q.0.numbers) me),
      omega (arith, c.requires.seat.1, ap (λ (q : At g.row.T.Denot). q.0.right) me),
      ap (times c.loop-i.i) taken ∙ times_above (clients_of c.loop-i.out.items) c.loop-i.i c.loop-i.invariant.below,
      ap (λ (q : At g.row.T.Denot). q.1) me,
    )

pub loop-i-preserved : goal.loop-i-preserved
loop-i-preserved g c =
    let i = c.loop-i.invariant in
    let t = c.take_into.ensures.taken in
    let is = ap (λ (q : At g.row.T.Denot). q.0) i.me in
    record {
      table = search rules;
      id = search rules;
      me = took_more _ _ c.loop-i.i _ _ _ is t;
      room = search rules;
      few = few_more _ c.loop-i.i c.loop-i.i _ _ _ t i.few;
      full = full_more c.args.seat.now.me.0 c.loop-i.seat.me.0 c.loop-i.i (clients_of c.loop-i.out.items) _ _ _ is t i.full;
      counted = counted_more _ c.loop-i.i _ _ _ t i.counted;
      below = below_more' _ c.loop-i.i _ _ _ t i.below;
      order = order_more _ c.loop-i.i _ _ _ t i.below i.order;
      whole = λ all. whole_more c.args.seat.now.me.0 c.loop-i.seat.me.0 c.loop-i.i (clients_of c.loop-i.out.items) _ _ _ is t all (i.whole all);
    }
