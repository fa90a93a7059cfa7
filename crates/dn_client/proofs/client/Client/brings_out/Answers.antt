use Rattle.std.proofs.Common.{◌↔◌, subst, false}
use Rattle.std.specs.Prelude.{IsTrue}
use Rattle.dn_client.specs.Holding.{BringsOut}
use Rattle.dn_client.specs.Inside.{view_of}
use Rattle.dn_client.proofs.Heads.{brought_out, nothing_made}
use Rattle.dn_client.proofs.client.Client.brings_out.Goals as goal

pub returns-in-Some : goal.returns-in-Some
returns-in-Some c =
    subst (λ v. IsTrue c.is_brought_out.result ↔ BringsOut v c.args.body.now) c.self.view_is
    (brought_out (view_of c.self.inside) c.deref.result.now c.in-Some.made.now c.args.body.now c.is_brought_out.result c.deref.ensures.value c.self.invariant.client c.in-Some.ensures.found c.is_brought_out.ensures)

pub returns-in-None : goal.returns-in-None
returns-in-None c =
    subst (λ v. IsTrue false ↔ BringsOut v c.args.body.now) c.self.view_is
    (nothing_made (view_of c.self.inside) c.deref.result.now c.args.body.now c.deref.ensures.value c.in-None.ensures.missing)
