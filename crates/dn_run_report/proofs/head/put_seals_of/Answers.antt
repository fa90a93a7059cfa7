use Rattle.dn_run_report.specs.Report.{seal_line}
use Rattle.dn_run_report.proofs.LineLemmas.{line_more}
use Rattle.dn_run_report.proofs.head.put_seals_of.Goals as goal

pub loop-j-preserved : goal.loop-j-preserved
loop-j-preserved c = line_more (seal_line c.args.roster.now c.args.client.0) c.args.out.now.items c.loop-j.out.items c.put_seal.new.out.items c.loop-j.j c.loop-j.invariant c.in_ok-put_seal.ensures
