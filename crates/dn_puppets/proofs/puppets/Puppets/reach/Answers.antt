use Rattle.std.proofs.Common.{rules, ◌≡◌, sym, subst, ◌∙◌}
use Rattle.dn_state.specs.Sound.{IsOfGroup}
use Rattle.dn_puppets.proofs.puppets.Puppets.reach.Goals as goal

pub invariant_of-self-in_default-take_puppet : goal.invariant_of-self-in_default-take_puppet
invariant_of-self-in_default-take_puppet g c = (c.take_puppet.ensures c.self.inside.roster c.self.invariant).0

pub invariant_of-self-in-Server : goal.invariant_of-self-in-Server
invariant_of-self-in-Server g c = (c.take_puppet.ensures c.self.inside.roster c.self.invariant).0

pub reach-requires-in-Server-after_bounds : goal.reach-requires-in-Server-after_bounds
reach-requires-in-Server-after_bounds g c κs within =
    let of = (c.in-Some-take_puppet.ensures c.self.inside.roster c.self.invariant).1 in
    let same : c.in-Some-take_puppet.puppet ≡ c.args.world.now.roster = first_of (cc, search rules) in
    subst (λ r. IsOfGroup r c.in-Some.opened.now) (sym same) c.in-Some.ensures.group

pub invariant_of-self-in_err-reach-in-Server : goal.invariant_of-self-in_err-reach-in-Server
invariant_of-self-in_err-reach-in-Server g c = (c.take_puppet.ensures c.self.inside.roster c.self.invariant).0

pub invariant_of-self-in-Server-2 : goal.invariant_of-self-in-Server-2
invariant_of-self-in-Server-2 g c =
    let roster = c.self.inside.roster in
    c.put_puppet.ensures roster (c.take_puppet.ensures roster c.self.invariant).0
    (c.in_ok-reach-in-Server.ensures ∙ (c.in-Some-take_puppet.ensures roster c.self.invariant).1)
