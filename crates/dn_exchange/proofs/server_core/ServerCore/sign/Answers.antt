use Rattle.std.proofs.Common.{sym, subst}
use Rattle.dn_server.specs.Parts.{live}
use Rattle.dn_seal.specs.declared.signer.SealFault.{SealFault}
use Rattle.dn_seal.specs.declared.signer.SealFault.TheVariants as faults
use Rattle.dn_exchange.specs.Signing.{SignsNothing}
use Rattle.dn_exchange.specs.Whole.{IsWhole}
use Rattle.dn_exchange.proofs.CallsWhole.{bent_whole, signs_whole}
use Rattle.dn_exchange.proofs.server_core.ServerCore.sign.Goals as goal

pub invariant_of-self : goal.invariant_of-self
invariant_of-self c = λ e.
    let v = live c.self.inside.parts in
    let w = live c.sign.new.parts in
    signs_whole v (c.self.invariant c.if-self.false) c.args.s.now c.in-Ok.envelope.items w c.in-Ok.ensures.signed

pub invariant_of-self-in-Err-Exhausted : goal.invariant_of-self-in-Err-Exhausted
invariant_of-self-in-Err-Exhausted c = λ e.
    let v = live c.self.inside.parts in
    let w = live c.sign.new.parts in
    let none : SignsNothing v (faults.Exhausted c.in-Err-Exhausted.seen) w = subst (λ (f : SealFault). SignsNothing v f w) c.in-Err-Exhausted.field-0-is c.in-Err-Exhausted.ensures.refused in
    subst IsWhole (sym none.2) (bent_whole v (c.self.invariant c.if-self.false) v.bend v.signed)
