use Rattle.std.proofs.Common.{◌≡◌, [], ◌∷◌, ◌++◌, refl, sym, ap, subst, ◌∙◌, false}
use Rattle.dn_steps.specs.Along.{GoesAlong}
use Rattle.dn_steps.proofs.Along.{goes_along}
use Rattle.dn_world.specs.declared.step.Step.{Step}
use Rattle.dn_world.specs.Run.{WorldView}
use Rattle.dn_world.specs.Inside.{view_of}
use Rattle.dn_world.proofs.Keeping.{kept_by_step, played}
use Rattle.dn_world.proofs.world.World.step.Goals as goal

pub invariant_of-self-2 : goal.invariant_of-self-2
invariant_of-self-2 g c =
    let old = c.self.inside in
    let kept = c.self.invariant in
    let new : WorldView = record { spec = old.spec; corrupt = old.corrupt.items; roster = c.step.new.self.roster; history = c.push.new.self.items; spent = false } in
    let steps = c.in_ok-step.ensures.steps in
    let s : Step = record { event = c.args.event; outcomes = c.of.result } in
    let told : steps.0 ≡ c.of.result = sym (c.of.ensures ∙ steps.2 ∙ ap (λ l. l ++ steps.0) c.new-outcomes.ensures.items) in
    let along = kept.along c.if-self.false in
    let goes = goes_along kept.run old.state c.step.new.self c.args.event steps.0 along.tied along.audited c.requires.limits steps.1 in
    kept_by_step (view_of old) new kept.run s c.step.new.self kept.of (subst (λ l. GoesAlong kept.run c.args.event l c.step.new.self) told goes) refl refl c.in_ok-step.ensures.roster
    c.in_ok-push.ensures.items

pub returns-clause-played : goal.returns-clause-played
returns-clause-played g c = played _ _ (invariant_of-self-2 g c)
