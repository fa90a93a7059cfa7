use Rattle.dn_layout.proofs.LayoutLemmas.{next_of-IsLayout}
use Rattle.dn_layout.proofs.layout.Layout.next.Goals as goal

pub of_lengths-requires : goal.of_lengths-requires
of_lengths-requires c =
    rw (c.in_ok-next_lengths.ensures, c.deref.ensures.value) (next_of-IsLayout _ c.args.out.now c.self.invariant.0)
