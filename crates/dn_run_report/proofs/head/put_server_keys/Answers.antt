use Rattle.dn_run_report.specs.Report.{server_key_line}
use Rattle.dn_run_report.proofs.LineLemmas.{line_more}
use Rattle.dn_run_report.proofs.head.put_server_keys.Goals as goal

pub loop-j-preserved : goal.loop-j-preserved
loop-j-preserved c = line_more (server_key_line c.args.roster.now) c.args.out.now.items c.loop-j.out.items c.put_server_key.new.out.items c.loop-j.j c.loop-j.invariant c.in_ok-put_server_key.ensures
