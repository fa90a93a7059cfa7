use Rattle.std.proofs.Common.{◌≡◌, ◌++◌}
use Rattle.dn_gen.specs.Generated.{for_each, say_line}
use Rattle.dn_gen.proofs.generating.put_say_lines.Given as goal

abbrev pub invariant-loop-i : goal.invariant-loop-i
invariant-loop-i l = l.out.items ≡ l.initial.out.items ++ for_each l.i (say_line l.seed)
