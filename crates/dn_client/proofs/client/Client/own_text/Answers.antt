use Rattle.std.proofs.Common.{subst}
use Rattle.dn_client.specs.declared.made.Made.{Made}
use Rattle.dn_client.specs.Accusing.{IsListedMade}
use Rattle.dn_client.specs.Inside.{view_of}
use Rattle.dn_client.proofs.Heads.{not_listed}
use Rattle.dn_client.proofs.client.Client.own_text.Goals as goal

pub returns-else-lists-clause-none : goal.returns-else-lists-clause-none
returns-else-lists-clause-none c =
    subst (λ v. (n : Made) → ¬ IsListedMade v c.args.body.now n) c.self.view_is
    (not_listed (view_of c.self.inside) c.deref.result.now c.in_ok-made.made.now c.args.body.now c.lists.result c.deref.ensures.value c.self.invariant.client c.in_ok-made.ensures.found c.lists.ensures c.if-lists.false)
