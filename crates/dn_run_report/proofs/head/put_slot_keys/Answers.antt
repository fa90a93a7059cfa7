use Rattle.dn_run_report.specs.Report.{slot_key_line}
use Rattle.dn_run_report.proofs.LineLemmas.{line_more}
use Rattle.dn_run_report.proofs.head.put_slot_keys.Goals as goal

pub loop-s-preserved : goal.loop-s-preserved
loop-s-preserved c = line_more (slot_key_line c.args.roster.now) c.args.out.now.items c.loop-s.out.items c.put_slot_key.new.out.items c.loop-s.s c.loop-s.invariant c.in_ok-put_slot_key.ensures
