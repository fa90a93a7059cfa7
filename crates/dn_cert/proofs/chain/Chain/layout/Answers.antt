use Rattle.std.proofs.Common.{◌≡◌, length, sym, subst, eqb, eqb-true, eq-eqb, true}
use Rattle.dn_cert.specs.Chain.{IsLayoutAfter}
use Rattle.dn_cert.specs.Chain.LayoutAfter.{at_first}
use Rattle.dn_cert.proofs.HeldLemmas.{held_ascend, none_seen}
use Rattle.dn_cert.proofs.chain.Chain.layout.Goals as goal

pub find-requires : goal.find-requires
find-requires c = held_ascend (length c.self.inside.first) c.deref.result.now c.self.inside.held.items c.deref.ensures.value c.self.invariant.0

pub returns-then-eq-clause-layout : goal.returns-then-eq-clause-layout
returns-then-eq-clause-layout c =
    subst (λ v. IsLayoutAfter v c.args.r.0 c.self.inside.first) c.self.view_is (at_first (eqb-true c.args.r.0 0 (sym c.if-eq.ensures)) c.self.invariant.1)

pub returns-in-None-clause-layout : goal.returns-in-None-clause-layout
returns-in-None-clause-layout c = (
  (λ z. let same : eqb c.args.r.0 0 ≡ true = eq-eqb _ _ z in absurd cc),
  none_seen (length c.self.inside.first) c.deref.result.now c.self.inside.held.items c.args.self.now c.deref.ensures.value c.self.view_is c.args.r.0 c.in-None.ensures.missing,
)
