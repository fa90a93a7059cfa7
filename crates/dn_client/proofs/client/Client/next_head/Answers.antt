use Rattle.std.proofs.Common.{◌+◌, ◌≤◌, sym, subst, length}
use Rattle.dn_client.specs.Client.{ClientView}
use Rattle.dn_client.specs.Holding.{BringsOut}
use Rattle.dn_client.specs.Inside.{view_of}
use Rattle.dn_client.proofs.Heads.{head_moves}
use Rattle.dn_client.proofs.client.Client.next_head.Goals as goal

pub returns-then-brings_out-clause-within : goal.returns-then-brings_out-clause-within
returns-then-brings_out-clause-within c =
    let brings = subst (λ (v : ClientView). BringsOut v c.args.body.now) (sym c.self.view_is) (c.brings_out.ensures.0 c.if-brings_out.true) in
    subst (λ v. c.self.inside.head + 1 ≤ length v.queue) c.self.view_is (head_moves (view_of c.self.inside) c.args.body.now c.self.invariant.client brings)
