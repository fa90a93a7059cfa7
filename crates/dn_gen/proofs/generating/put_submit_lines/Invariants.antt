use Rattle.std.proofs.Common.{◌≡◌, ◌++◌}
use Rattle.dn_gen.specs.Generated.{for_each, submit_line}
use Rattle.dn_gen.proofs.generating.put_submit_lines.Given as goal

abbrev pub invariant-loop-i : goal.invariant-loop-i
invariant-loop-i l = l.out.items ≡ l.initial.out.items ++ for_each l.i (submit_line l.num l.r)
