use Rattle.std.proofs.Common.{◌∙◌}
use Rattle.dn_cmd.proofs.ShowingLemmas.{played_is_demo}
use Rattle.dn_cmd.proofs.showing.demo_run.Goals as goal

pub returns-in-Ok : goal.returns-in-Ok
returns-in-Ok g c =
    played_is_demo c.args.num c.deref.result.now c.in-Ok.script c.play.result (c.deref.ensures.value ∙ c.in_ok-text.ensures) c.in-Ok.ensures c.play.ensures
