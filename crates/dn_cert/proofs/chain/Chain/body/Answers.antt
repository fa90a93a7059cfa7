use Rattle.std.proofs.Common.{length}
use Rattle.dn_cert.proofs.HeldLemmas.{held_ascend, body_seen, none_seen}
use Rattle.dn_cert.proofs.chain.Chain.body.Goals as goal

pub find-requires : goal.find-requires
find-requires c = held_ascend (length c.self.inside.first) c.deref.result.now c.self.inside.held.items c.deref.ensures.value c.self.invariant.0

pub returns-in-Some-clause-body : goal.returns-in-Some-clause-body
returns-in-Some-clause-body c =
    let found = c.in-Some.ensures.found in
    let there = body_seen (length c.self.inside.first) c.deref.result.now c.self.inside.held.items c.args.self.now c.deref.ensures.value c.self.view_is c.in-Some.held.now found.0 in
    (there, found.1)

pub returns-in-None-clause-body : goal.returns-in-None-clause-body
returns-in-None-clause-body c =
    none_seen (length c.self.inside.first) c.deref.result.now c.self.inside.held.items c.args.self.now c.deref.ensures.value c.self.view_is c.args.r.0 c.in-None.ensures.missing
