use Rattle.std.specs.Prelude.{codes}
use Rattle.dn_gen.specs.Generated.{for_each, open_line, submit_line, leave_line, round_lines}
use Rattle.dn_gen.proofs.GeneratedLemmas.{four_parts}
use Rattle.dn_gen.proofs.generating.put_round.Goals as goal

pub returns : goal.returns
unfolding round_lines
returns c =
    four_parts c.args.out.now.items (for_each 3 (open_line c.args.r)) (for_each 48 (submit_line c.args.num c.args.r)) (leave_line c.args.num c.args.r)
    (codes "flow 1\nclose s0\nclose s1\nclose s2\nflow 6\n") _ _ _ _
    c.in_ok-put_open_lines.ensures c.in_ok-put_submit_lines.ensures c.in_ok-put_leave_line.ensures c.in_ok-put_bytes.ensures.ok
