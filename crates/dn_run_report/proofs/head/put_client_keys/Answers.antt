use Rattle.dn_run_report.specs.Report.{client_key_line}
use Rattle.dn_run_report.proofs.LineLemmas.{line_more}
use Rattle.dn_run_report.proofs.head.put_client_keys.Goals as goal

pub loop-i-preserved : goal.loop-i-preserved
loop-i-preserved c = line_more (client_key_line c.args.roster.now) c.args.out.now.items c.loop-i.out.items c.put_client_key.new.out.items c.loop-i.i c.loop-i.invariant c.in_ok-put_client_key.ensures
