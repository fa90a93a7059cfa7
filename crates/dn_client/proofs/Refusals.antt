-- A chain's faults as a client's.
use Rattle.std.proofs.Common.{◌≡◌, subst, sym, false}
use Rattle.dn_record_types.specs.declared.body.Body.{Body}
use Rattle.dn_cert.specs.Chain.{ChainView, IsHoldRefused}
use Rattle.dn_cert.specs.declared.hold_fault.HoldFault.{HoldFault as ChainFault}
use Rattle.dn_cert.specs.declared.hold_fault.HoldFault.TheVariants as faults
use Rattle.dn_client.specs.declared.holding.HoldFault.{HoldFault}
use Rattle.dn_client.specs.declared.holding.HoldFault.TheVariants as refusals
use Rattle.dn_client.specs.Client.{ClientView}
use Rattle.dn_client.specs.Holding.{IsRefusedBy, IsNotHeld, fault_of}

refused_so : (chain : ChainView) (b : Body) (f : ChainFault) → IsHoldRefused chain b f → IsRefusedBy chain b (fault_of f)
refused_so chain b (faults.Known r) un = un
refused_so chain b (faults.NoPrev prev) un = un
refused_so chain b (faults.Floor count last) un = un
refused_so chain b (faults.Length have need) un = un
refused_so chain b faults.NoMemory un = tt

pub refused_by : (chain : ChainView) (b : Body) (f : ChainFault) (g : HoldFault) → IsHoldRefused chain b f → g ≡ fault_of f → IsRefusedBy chain b g
refused_by chain b f g un is = subst (IsRefusedBy chain b) (sym is) (refused_so chain b f un)

pub not_held : (v : ClientView) (b : Body) (f : HoldFault) → v.left ≡ false → IsRefusedBy v.chain b f → IsNotHeld v b f
not_held v b refusals.Left here un = absurd un
not_held v b (refusals.Known r) here un = (here, un)
not_held v b (refusals.NoPrev prev) here un = (here, un)
not_held v b (refusals.Floor count last) here un = (here, un)
not_held v b (refusals.Length have need) here un = (here, un)
not_held v b refusals.NoMemory here un = tt
