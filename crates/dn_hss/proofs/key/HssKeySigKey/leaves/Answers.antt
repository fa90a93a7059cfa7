use Rattle.std.proofs.Common.{arith, ap, ◌∙◌}
use Rattle.dn_hss.specs.Origin.{key_from}
use Rattle.dn_hss_definitions.specs.Hss.{hss_count}
use Rattle.dn_hss.proofs.KeyLemmas.{counts, square_is}
use Rattle.dn_hss.proofs.key.HssKeySigKey.leaves.Goals as goal

pub overflow_mul-result : goal.overflow_mul-result
overflow_mul-result c =
    let n = counts (key_from c.self.inside.origin) c.self.inside.top c.leaves-leaves.result c.self.invariant.key c.self.invariant.top c.leaves-leaves.ensures.count in
    omega (arith, n.square)

pub returns-clause-count : goal.returns-clause-count
returns-clause-count c =
    let n = counts (key_from c.self.inside.origin) c.self.inside.top c.leaves-leaves.result c.self.invariant.key c.self.invariant.top c.leaves-leaves.ensures.count in
    square_is (key_from c.self.inside.origin) c.leaves-leaves.result n.leaves ∙ ap hss_count c.self.view_is
