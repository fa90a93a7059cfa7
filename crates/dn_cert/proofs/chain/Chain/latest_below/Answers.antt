use Rattle.std.proofs.Common.{◌≡◌, ◌<◌, ◌-◌, length, get_or, arith, sym}
use Rattle.dn_cert.proofs.HeldLemmas.{held_ascend, none_below_seen, last_below_seen}
use Rattle.dn_cert.proofs.chain.Chain.latest_below.Goals as goal

pub count_below-requires : goal.count_below-requires
count_below-requires c = held_ascend (length c.self.inside.first) c.deref.result.now c.self.inside.held.items c.deref.ensures.value c.self.invariant.0

pub returns-in-0-clause-latest : goal.returns-in-0-clause-latest
returns-in-0-clause-latest c =
    none_below_seen (length c.self.inside.first) c.deref.result.now c.self.inside.held.items c.args.self.now c.deref.ensures.value c.self.view_is c.args.r.0 c.count_below.result c.in-0.is c.count_below.ensures.above

pub returns-in_default-clause-latest : goal.returns-in_default-clause-latest
returns-in_default-clause-latest c =
    let k = c.count_below.ensures in
    let some : 0 < c.count_below.result = omega arith in
    let there : get_or c.self.inside.held.items (c.count_below.result - 1) c.index.result.now ≡ c.index.result.now = sym c.index.ensures in
    last_below_seen (length c.self.inside.first) c.deref.result.now c.self.inside.held.items c.args.self.now c.deref.ensures.value c.self.view_is c.args.r.0 c.count_below.result c.index.result.now c.self.invariant.0 some k.bound k.below k.above there
