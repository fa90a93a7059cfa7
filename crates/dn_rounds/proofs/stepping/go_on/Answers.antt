use Rattle.std.proofs.Common.{◌≡◌, ◌∙◌, ◌++◌, [], Bool, true, false, ap, subst, sym, refl, append_assoc}
use Rattle.dn_server.specs.declared.parts.Parts.{Parts}
use Rattle.dn_rounds.specs.Going.{Steps, Stands}
use Rattle.dn_rounds.specs.Going.Steps.{no_step}
use Rattle.dn_server.specs.Parts.{live}
use Rattle.dn_rounds.specs.Sound.{Stepped}
use Rattle.dn_rounds.proofs.LoopLemmas.{append_nil, steps_then}
use Rattle.dn_rounds.proofs.stepping.go_on.Goals as goal

never : (b : Bool) → b ≡ false → b ≡ true → ⊥
never b e f = cc

pub loop-goes_on-init : goal.loop-goes_on-init
loop-goes_on-init g c =
    (([], sym (append_nil c.args.acts.now.items), no_step refl refl), λ h. h, λ e f did after step. never c.args.parts.now.run.is_running e f)

pub loop-goes_on-preserved-then-branch : goal.loop-goes_on-preserved-then-branch
loop-goes_on-preserved-then-branch g c =
    let old = c.loop-goes_on.parts in
    let new = c.step.new.parts in
    let so = c.loop-goes_on.invariant.0 in
    let step = subst (λ (b : Bool). Stepped old new c.loop-goes_on.acts.items c.step.new.acts.items b) c.if-branch.true c.in_ok-goes_on.ensures in
    let runs = c.loop-goes_on.invariant.1 c.loop-goes_on-test.true in (
      (so.0 ++ step.0, step.1 ∙ ap (λ l. l ++ step.0) so.1 ∙ append_assoc c.args.acts.now.items so.0 step.0, steps_then so.2 runs step.2),
      λ h. h,
      λ e f did after h. never new.run.is_running e f,
    )

pub loop-goes_on-preserved : goal.loop-goes_on-preserved
loop-goes_on-preserved g c =
    let old = c.loop-goes_on.parts in
    let new = c.step.new.parts in
    let so = c.loop-goes_on.invariant.0 in
    let none = subst (λ (b : Bool). Stepped old new c.loop-goes_on.acts.items c.step.new.acts.items b) c.if-branch.false c.in_ok-goes_on.ensures in (
      (so.0, none.1 ∙ so.1, subst (λ (p : Parts). Steps (live c.args.parts.now) so.0 (live p)) (sym none.0) so.2),
      λ h. absurd (never c.in_ok-goes_on.goes_on c.if-branch.false h),
      λ e f. subst (λ (p : Parts). Stands (live p)) (sym none.0) none.2,
    )

pub returns : goal.returns
returns g c =
    let so = c.loop-goes_on.invariant.0 in
    (so.0, so.1, record { steps = so.2; stands = c.loop-goes_on.invariant.2 c.loop-goes_on-test.false })
