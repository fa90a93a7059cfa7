use Rattle.std.proofs.Common.{[], ◌∷◌, ◌++◌, length, sym, ap, ◌∙◌}
use Rattle.dn_world.specs.declared.step.Step.{Step}
use Rattle.dn_run_report.specs.declared.shown.Shown.TheVariants as shown
use Rattle.dn_runner.specs.Played.{RunView}
use Rattle.dn_runner.proofs.OrderLemmas.{one_event_more}
use Rattle.dn_runner.proofs.run.Run.step.Goals as goal

pub invariant_of-self-then-is_within : goal.invariant_of-self-then-is_within
invariant_of-self-then-is_within g c =
    let old : RunView = record { group = record { spec = c.self.inside.group; corrupt = c.self.inside.world.corrupt }; history = c.self.inside.world.history; shown = c.self.inside.shown.items } in
    let new : RunView = record { group = record { spec = c.self.inside.group; corrupt = c.step.new.self.corrupt }; history = c.step.new.self.history; shown = c.push_reserved.new.self.items } in
    let step : Step = record { event = c.args.event; outcomes = c.in_ok-step.ensures.kept.0 } in
    let number = length c.history.result.now in
    record {
      limits = c.self.invariant.limits;
      roster_is = c.self.invariant.roster_is;
      world_is = c.in_ok-step.ensures.roster ∙ c.self.invariant.world_is;
      spec_is = c.in_ok-step.ensures.spec ∙ c.self.invariant.spec_is;
      puppets_are = c.self.invariant.puppets_are ∙ sym c.in_ok-step.ensures.roster;
      order = one_event_more old new step number c.self.invariant.order (c.is_within.ensures c.if-is_within.true) (ap length c.history.ensures) c.in_ok-step.ensures.kept.1
          (c.push_reserved.ensures.items ∙ ap (λ l. l ++ shown.Event number ∷ []) c.reserve.ensures.items);
    }
