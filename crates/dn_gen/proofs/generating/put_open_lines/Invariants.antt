use Rattle.std.proofs.Common.{◌≡◌, ◌++◌}
use Rattle.dn_gen.specs.Generated.{for_each, open_line}
use Rattle.dn_gen.proofs.generating.put_open_lines.Given as goal

abbrev pub invariant-loop-j : goal.invariant-loop-j
invariant-loop-j l = l.out.items ≡ l.initial.out.items ++ for_each l.j (open_line l.r)
