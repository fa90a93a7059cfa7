use Rattle.dn_layout.proofs.LayoutLemmas.{NextBelow}
use Rattle.dn_layout.proofs.layout.next_lengths.Given as goal

abbrev pub invariant-loop-s : goal.invariant-loop-s
invariant-loop-s l = NextBelow l.lengths l.out l.s l.next.items l.start l.total
