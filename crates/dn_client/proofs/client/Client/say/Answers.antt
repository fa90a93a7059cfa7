use Rattle.std.proofs.Common.{◌≡◌, sym, ◌++◌, ◌∷◌, [], rules}
use Rattle.dn_client.specs.Inside.{view_of}
use Rattle.dn_client.proofs.Clients.{keeps_of, says}
use Rattle.dn_client.proofs.client.Client.say.Goals as goal

pub invariant_of-self-2 : goal.invariant_of-self-2
invariant_of-self-2 c =
    let keeps = c.self.invariant in
    let queue : c.push.new.self.items ≡ c.self.inside.queue.items ++ c.args.msg.now ∷ [] = search rules in
    keeps_of (record (view_of c.self.inside) { queue = c.self.inside.queue.items ++ c.args.msg.now ∷ [] }) (λ i. record (view_of c.self.inside) { queue = queue i; spent = sym c.if-self.false i })
    (says (view_of c.self.inside) c.args.msg.now c.requires keeps.client) keeps.signer keeps.slot_signer keeps.one_group (λ e. keeps.whole c.if-self.false)

pub returns-clause-client : goal.returns-clause-client
unfolding invariant_of-self-2
returns-clause-client c = (invariant_of-self-2 c).client
