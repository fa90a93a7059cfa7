use Rattle.dn_run_report.specs.Report.{seal_lines_of}
use Rattle.dn_run_report.proofs.LineLemmas.{row_more}
use Rattle.dn_run_report.proofs.head.put_seals.Goals as goal

pub loop-i-preserved : goal.loop-i-preserved
loop-i-preserved c = row_more (seal_lines_of c.args.roster.now) c.args.out.now.items c.loop-i.out.items c.put_seals_of.new.out.items c.loop-i.i c.loop-i.invariant c.in_ok-put_seals_of.ensures
