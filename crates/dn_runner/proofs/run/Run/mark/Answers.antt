use Rattle.std.proofs.Common.{[], ◌∷◌, ◌++◌, refl, ap, ◌∙◌}
use Rattle.dn_runner.specs.Played.{RunView}
use Rattle.dn_runner.proofs.OrderLemmas.{one_mark_more}
use Rattle.dn_runner.proofs.run.Run.mark.Goals as goal

pub invariant_of-self-2 : goal.invariant_of-self-2
invariant_of-self-2 c =
    let old : RunView = record { group = record { spec = c.self.inside.group; corrupt = c.self.inside.world.corrupt }; history = c.self.inside.world.history; shown = c.self.inside.shown.items } in
    let new : RunView = record { group = record { spec = c.self.inside.group; corrupt = c.self.inside.world.corrupt }; history = c.self.inside.world.history; shown = c.push_reserved.new.self.items } in
    record {
      limits = c.self.invariant.limits;
      roster_is = c.self.invariant.roster_is;
      world_is = c.self.invariant.world_is;
      spec_is = c.self.invariant.spec_is;
      puppets_are = c.self.invariant.puppets_are;
      order = one_mark_more old new c.args.shown c.self.invariant.order c.requires refl (c.push_reserved.ensures.items ∙ ap (λ l. l ++ c.args.shown ∷ []) c.reserve.ensures.items);
    }
