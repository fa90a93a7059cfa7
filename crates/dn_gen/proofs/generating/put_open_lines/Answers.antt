use Rattle.std.proofs.Common.{arith}
use Rattle.dn_gen.specs.Generated.{open_line}
use Rattle.dn_gen.proofs.GeneratedLemmas.{none_yet, one_more, all_written}
use Rattle.dn_gen.proofs.generating.put_open_lines.Goals as goal

pub loop-j-init : goal.loop-j-init
loop-j-init c = none_yet (open_line c.args.r) c.args.out.now.items

pub loop-j-preserved : goal.loop-j-preserved
loop-j-preserved c = one_more (open_line c.args.r) c.args.out.now.items c.loop-j.out.items c.put_open_line.new.out.items c.loop-j.j c.loop-j.invariant c.in_ok-put_open_line.ensures

pub returns : goal.returns
returns c = all_written (open_line c.args.r) c.args.out.now.items c.loop-j.out.items c.loop-j.j 3 (omega arith) c.loop-j.invariant
