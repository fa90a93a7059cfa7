use Rattle.std.proofs.Common.{subst}
use Rattle.std.specs.Prelude.{MatchOption}
use Rattle.dn_runner.specs.Play.{HasGroup, IsPlayOf}
use Rattle.dn_cmd.proofs.RunLemmas.{play_written}
use Rattle.dn_cmd.proofs.running.run_group.Goals as goal

pub returns-in-Ok-Some : goal.returns-in-Ok-Some
returns-in-Ok-Some g c =
    play_written c.args.script.now c.in-Ok-Some.played _ _ _ _ c.write_report.result
    (subst (λ played. MatchOption played (¬ HasGroup c.args.script.now) (IsPlayOf c.args.script.now)) c.in-Ok-Some.field-0-is c.in-Ok-Some.ensures) c.write_report.ensures
