use Rattle.std.proofs.Common.{◌≡◌, ◌+◌, ◌-◌, ◌*◌, ℕ, take, drop, sym, ap, arith, add-one}
use Rattle.std.proofs.Math.Nat.{div-one}
use Rattle.dn_lms_definitions.proofs.Laws.{climb_none, climb_more, half}
use Rattle.dn_lms.proofs.nodes.climb.Goals as goal

pub levels-init : goal.levels-init
levels-init c = (sym (div-one c.args.r), sym (climb_none _ _ _ _))

pub levels-preserved : goal.levels-preserved
levels-preserved c =
    let at = 32 * c.levels.i in
    let long : at + 32 - at ≡ 32 = omega arith in
    let part = ap (λ (n : ℕ). take n (drop at c.args.path.now)) long in (
      rw (c.levels.invariant.0, add-one) (half c.args.r c.levels.i),
      climb_more c.args.id.now c.args.path.now c.args.value c.levels.value _ c.rise-value.result c.args.r c.levels.i c.levels.r
          c.levels.invariant.0 c.levels.invariant.1 part c.rise-value.ensures,
    )
