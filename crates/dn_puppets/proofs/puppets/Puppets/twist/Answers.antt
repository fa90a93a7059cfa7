use Rattle.std.proofs.Common.{◌∙◌}
use Rattle.dn_puppets.proofs.puppets.Puppets.twist.Goals as goal

pub invariant_of-self-in_default-take_puppet : goal.invariant_of-self-in_default-take_puppet
invariant_of-self-in_default-take_puppet c = (c.take_puppet.ensures c.self.inside.roster c.self.invariant).0

pub invariant_of-self-in-Server : goal.invariant_of-self-in-Server
invariant_of-self-in-Server c =
    let roster = c.self.inside.roster in
    c.put_puppet.ensures roster (c.take_puppet.ensures roster c.self.invariant).0
    (c.wait_for-added.ensures ∙ (c.in-Some.ensures roster c.self.invariant).1)
