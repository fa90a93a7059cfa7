use Rattle.std.proofs.Common.{length, ap, sym, ◌∙◌, arith}
use Rattle.dn_cert.specs.Chain.{count_at}
use Rattle.dn_cert.proofs.HeldLemmas.{held_ascend, count_seen, no_count_seen, few_seen}
use Rattle.dn_cert.proofs.chain.Chain.count.Goals as goal

pub find-requires : goal.find-requires
find-requires c = held_ascend (length c.self.inside.first) c.deref.result.now c.self.inside.held.items c.deref.ensures.value c.self.invariant.0

pub returns-in-Some-clause-count : goal.returns-in-Some-clause-count
returns-in-Some-clause-count c =
    let found = c.in-Some.ensures.found in
    ap length c.get.ensures
    ∙ sym (count_seen (length c.self.inside.first) c.deref.result.now c.self.inside.held.items c.args.self.now c.deref.ensures.value c.self.view_is c.in-Some.held.now c.self.invariant.0 found.0)
    ∙ ap (λ r. count_at c.args.self.now r.0) found.1

pub returns-in-None-clause-count : goal.returns-in-None-clause-count
returns-in-None-clause-count c =
    sym (no_count_seen (length c.self.inside.first) c.deref.result.now c.self.inside.held.items c.args.self.now c.deref.ensures.value c.self.view_is c.args.r.0 c.in-None.ensures.missing)

pub overflow_cast-result : goal.overflow_cast-result
overflow_cast-result c =
    omega (arith, ap length c.get.ensures, few_seen (length c.self.inside.first) c.deref.result.now c.self.inside.held.items c.deref.ensures.value c.self.invariant.0 c.in-Some.held.now c.in-Some.ensures.found.0)

pub returns-in-Some-clause-few : goal.returns-in-Some-clause-few
returns-in-Some-clause-few c =
    omega (arith, ap length c.get.ensures, few_seen (length c.self.inside.first) c.deref.result.now c.self.inside.held.items c.deref.ensures.value c.self.invariant.0 c.in-Some.held.now c.in-Some.ensures.found.0)
