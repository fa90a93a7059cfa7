use Rattle.std.proofs.Common.{arith}
use Rattle.dn_gen.specs.Generated.{submit_line}
use Rattle.dn_gen.proofs.GeneratedLemmas.{none_yet, one_more, all_written}
use Rattle.dn_gen.proofs.generating.put_submit_lines.Goals as goal

pub loop-i-init : goal.loop-i-init
loop-i-init c = none_yet (submit_line c.args.num c.args.r) c.args.out.now.items

pub loop-i-preserved : goal.loop-i-preserved
loop-i-preserved c = one_more (submit_line c.args.num c.args.r) c.args.out.now.items c.loop-i.out.items c.put_submit_line.new.out.items c.loop-i.i c.loop-i.invariant c.in_ok-put_submit_line.ensures

pub returns : goal.returns
returns c = all_written (submit_line c.args.num c.args.r) c.args.out.now.items c.loop-i.out.items c.loop-i.i 48 (omega arith) c.loop-i.invariant
