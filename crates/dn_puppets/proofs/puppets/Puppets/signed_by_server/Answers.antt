use Rattle.std.proofs.Common.{◌∙◌}
use Rattle.dn_puppets.proofs.puppets.Puppets.signed_by_server.Goals as goal

pub invariant_of-self : goal.invariant_of-self
invariant_of-self c = (c.take_puppet.ensures c.self.inside.roster c.self.invariant).0

pub invariant_of-self-in_err-signed : goal.invariant_of-self-in_err-signed
invariant_of-self-in_err-signed c = (c.take_puppet.ensures c.self.inside.roster c.self.invariant).0

pub invariant_of-self-2 : goal.invariant_of-self-2
invariant_of-self-2 c =
    let roster = c.self.inside.roster in
    c.put_puppet.ensures roster (c.take_puppet.ensures roster c.self.invariant).0
    (c.in_ok-signed.ensures ∙ (c.in-Some.ensures roster c.self.invariant).1)
