use Rattle.std.proofs.Common.{subst}
use Rattle.std.specs.Prelude.{IfSome}
use Rattle.dn_cmd.specs.Demo.{IsDemoOf}
use Rattle.dn_cmd.proofs.ShowingLemmas.{demo_written}
use Rattle.dn_cmd.proofs.showing.demo.Goals as goal

pub returns-in-Ok-Some : goal.returns-in-Ok-Some
returns-in-Ok-Some g c =
    demo_written c.args.num c.in-Ok-Some.played _ _ _ _ c.write_demo.result
    (subst (λ played. IfSome played (IsDemoOf c.args.num)) c.in-Ok-Some.field-0-is c.in-Ok-Some.ensures) c.write_demo.ensures
