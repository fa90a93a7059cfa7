use Rattle.std.proofs.Common.{◌≡◌, ◌+◌, ◌∷◌, ◌++◌, [], ℕ, map, sym, subst, arith}
use Rattle.dn_bits.specs.Bits.{below}
use Rattle.dn_audit.specs.Auditor.{AddsStrings, hashed_seed}
use Rattle.dn_state.specs.Beginning.{hashed_dealt}
use Rattle.dn_state.proofs.BeginLemmas.{adds_no_seeds, adds_seeds, seeds_more}
use Rattle.dn_state.proofs.making.add_seeds.Goals as goal

pub loop-j-init : goal.loop-j-init
loop-j-init c = adds_no_seeds c.args.auditor.now

pub loop-j-preserved : goal.loop-j-preserved
loop-j-preserved c =
    let spec = c.args.spec.now in
    let i = c.args.client.0 in
    let j = c.loop-j.j in
    adds_seeds c.args.auditor.now c.loop-j.auditor c.add_seed.new.self (map (hashed_dealt spec i) (below j)) (hashed_seed i j c.pair_seed.result ∷ []) _ c.loop-j.invariant c.in_ok-add_seed.ensures
    (subst (λ seed. map (hashed_dealt spec i) (below (j + 1)) ≡ map (hashed_dealt spec i) (below j) ++ hashed_seed i j seed ∷ []) (sym c.pair_seed.ensures) (seeds_more spec i j))

pub returns : goal.returns
returns c =
    let spec = c.args.spec.now in
    let i = c.args.client.0 in
    let all : c.loop-j.j ≡ spec.servers = omega arith in
    subst (λ (n : ℕ). AddsStrings c.args.auditor.now c.loop-j.auditor (λ x. record x { seeds = x.seeds ++ map (hashed_dealt spec i) (below n) })) all c.loop-j.invariant
