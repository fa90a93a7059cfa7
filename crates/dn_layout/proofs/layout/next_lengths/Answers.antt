use Rattle.std.proofs.Common.{◌+◌, ◌≤◌, length, get_or, arith, rules}
use Rattle.dn_layout.proofs.LayoutLemmas.{NextBelow-step, NextBelow-end, slot_end, length-bytes_of}
use Rattle.dn_layout.proofs.layout.next_lengths.Goals as goal

pub slice_bounds-want-end : goal.slice_bounds-want-end
slice_bounds-want-end c =
    let long = length-bytes_of c.args.lengths.now c.args.out.now c.args.bytes.now c.requires.bytes c.requires.len in
    let ends : c.loop-s.start + get_or c.args.lengths.now c.loop-s.s 0 ≤ length c.args.bytes.now =
    omega (arith, c.loop-s.invariant.start_is, slot_end c.args.lengths.now (length c.args.bytes.now) c.loop-s.s c.loop-s-test.true long) in
    search rules

pub loop-s-preserved : goal.loop-s-preserved
loop-s-preserved c =
    rw c.from-total.ensures (NextBelow-step c.loop-s.invariant c.loop-s-test.true c.args.bytes.now c.requires.bytes _ c.get.ensures _ c.in_ok-want.ensures _ c.given-given.ensures _ c.in_ok-push.ensures.items)

pub returns : goal.returns
returns c = NextBelow-end c.loop-s.invariant (omega arith)
