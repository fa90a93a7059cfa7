use Rattle.std.proofs.Common.{arith, ◌<◌, ◌+◌, ℕ, cond, Bool, length, length-set, ap, sym, ◌∙◌, eq-eqb, ne_eqb}
use mathlib.Core.Logic.{dite}
use native.Mathlib.Decide.{ℕ_discrete}
use Rattle.dn_flight.specs.Arena.{node_at, free_node}
use Rattle.dn_flight.proofs.Put.{node_set}
use Rattle.dn_flight.proofs.arena.free_all.Goals as goal

pub loop-i-preserved : goal.loop-i-preserved
loop-i-preserved g c =
    let i : ℕ = c.loop-i.i in
    let nodes = c.loop-i.nodes in
    let inside : i < length nodes = omega (arith, c.loop-i.invariant.long, c.loop-i-test.true) in
    record {
      long = ap length c.set.ensures.nodes ∙ length-set nodes i (free_node (i + 1)) ∙ c.loop-i.invariant.long;
      free = λ p h. ap (λ l. node_at l p) c.set.ensures.nodes ∙ node_set nodes i p (free_node (i + 1)) inside ∙ dite (ℕ_discrete p i)
          (λ q. ap (λ (t : Bool). cond t (free_node (i + 1)) (node_at nodes p)) (eq-eqb p i q) ∙ ap (λ (k : ℕ). free_node (k + 1)) (sym q))
          (λ ne. ap (λ (t : Bool). cond t (free_node (i + 1)) (node_at nodes p)) (ne_eqb p i ne) ∙ c.loop-i.invariant.free p (omega (arith, h, ne)));
    }
