use Rattle.std.proofs.Common.{subst, refl}
use Rattle.dn_client.specs.Submitting.{IsSlotRange}
use Rattle.dn_client.specs.Inside.{view_of}
use Rattle.dn_client.proofs.Heads.{made_range}
use Rattle.dn_client.proofs.client.Client.slot_range.Goals as goal

pub returns-clause-range : goal.returns-clause-range
returns-clause-range c =
    subst (λ v. IsSlotRange v c.args.r c.in_ok-find.field-0.now.range) c.self.view_is
    (made_range (view_of c.self.inside) c.deref.result.now c.in_ok-find.field-0.now c.args.r c.in_ok-find.field-0.now.range c.deref.ensures.value c.self.invariant.client c.in_ok-find.ensures.found refl)
