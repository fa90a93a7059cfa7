use Rattle.std.proofs.lemmas.Bool.{iff_false}
use Rattle.dn_trace.proofs.OwnLemmas.{own_none, sum_right}
use Rattle.dn_trace.proofs.own_faults.own_fault.Goals as goal

pub returns-else-has_false_sum : goal.returns-else-has_false_sum
returns-else-has_false_sum c =
    let trial = c.args.case.now in
    let j = c.args.j.0 in
    let o = c.in-Some.opening.now in
    let not_twice = iff_false c.in_ok-is_twice.ensures c.if-branch.false in
    own_none trial j not_twice (iff_false c.requires.entry c.if-enters_false.false) (iff_false c.in_ok-has_false_commit.ensures c.if-branch-2.false)
    (iff_false c.requires.shown c.if-shows_wrong.false)
    (sum_right trial j not_twice o.s.now o.shown.now o.pad.now (rw c.in-Some.is at c.requires.opening) (iff_false c.has_false_sum.ensures c.if-has_false_sum.false))
