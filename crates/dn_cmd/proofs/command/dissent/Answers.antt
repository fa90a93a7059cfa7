use Rattle.dn_io.proofs.EndLemmas.{completes}
use Rattle.dn_verify.specs.Verify.{verify_task}
use Rattle.dn_cmd.proofs.ShowingLemmas.{demo_completes}
use Rattle.dn_cmd.proofs.command.dissent.Goals as goal

pub returns-in-Some-Verify-clause-complete : goal.returns-in-Some-Verify-clause-complete
returns-in-Some-Verify-clause-complete g c = λ calm still. rw (← c.in-Some-Verify.ensures, c.in-Some-Verify.field-0-is) (completes verify_task _ _ _ c.verify_report.ensures calm still)

pub returns-in-Some-Demo-clause-complete : goal.returns-in-Some-Demo-clause-complete
returns-in-Some-Demo-clause-complete g c = λ calm still. rw (← c.in-Some-Demo.ensures, c.in-Some-Demo.field-0-is) (demo_completes c.in-Some-Demo.num _ _ _ _ _ c.demo.result c.demo.ensures still)
