use Rattle.std.proofs.Common.{rules, arith, ap, sym, ◌∙◌, ◌++◌, ◌∷◌, [], refl, length}
use Rattle.dn_gate.specs.Rule.{puts}
use Rattle.dn_gate.proofs.Looked.{looked_none, looked_more, marks_more, marked_count-push, numbers_push, many_push}
use Rattle.dn_gate.proofs.collect.count_marked.Goals as goal

pub loop-i-init : goal.loop-i-init
loop-i-init g c = record { table = refl; id = refl; looked = ([], looked_none c.args.seat.now.me c.requires.seat.1, refl, refl, omega arith); low = omega arith; whole = λ _. refl }

pub loop-i-preserved : goal.loop-i-preserved
loop-i-preserved g c = let i = c.loop-i.invariant in let h = c.mark_at-count.ensures.looked in record {
  table = search rules;
  id = search rules;
  looked = (i.looked.0 ++ (c.loop-i.i, h.0) ∷ [], looked_more _ c.loop-i.seat.me _ i.looked.0 c.loop-i.i h.0 i.looked.1 h.1, numbers_push i.looked.0 c.loop-i.i h.0 i.looked.2, omega (arith, marked_count-push i.looked.0 c.loop-i.i h.0, i.looked.3, h.2), many_push i.looked.0 c.loop-i.i h.0 i.looked.4);
  low = omega (arith, i.low, c.mark_at-count.ensures.small);
  whole = λ all. omega (
    arith,
    i.whole all,
    marks_more c.args.seat.now.me.0 c.loop-i.i,
    c.mark_at-count.ensures.whole (ap (λ m. length m.0.numbers) i.looked.1 ∙ all ∙ sym (ap (λ m. m.0.passes) i.looked.1)),
    ap (λ m. puts c.loop-i.i m.0) i.looked.1,
  );
}
