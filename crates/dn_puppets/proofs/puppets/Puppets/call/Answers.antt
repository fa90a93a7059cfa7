use Rattle.std.proofs.Common.{◌∙◌}
use Rattle.dn_puppets.proofs.puppets.Puppets.call.Goals as goal

pub invariant_of-self : goal.invariant_of-self
invariant_of-self g c = (c.take_puppet.ensures c.self.inside.roster c.self.invariant).0

pub invariant_of-self-2 : goal.invariant_of-self-2
invariant_of-self-2 g c = (c.take_puppet.ensures c.self.inside.roster c.self.invariant).0

pub invariant_of-self-in_err-call : goal.invariant_of-self-in_err-call
invariant_of-self-in_err-call g c = (c.take_puppet.ensures c.self.inside.roster c.self.invariant).0

pub invariant_of-self-3 : goal.invariant_of-self-3
invariant_of-self-3 g c =
    let roster = c.self.inside.roster in
    c.put_puppet.ensures roster (c.take_puppet.ensures roster c.self.invariant).0
    (c.in_ok-call.ensures ∙ (c.in-Some.ensures roster c.self.invariant).1)
