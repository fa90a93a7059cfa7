use Rattle.std.proofs.Common.{false, subst, ◌↔◌, ◌<◌, arith, ◌∙◌}
use Rattle.std.specs.Prelude.{IsTrue}
use Rattle.dn_layout.specs.Layout.{bits_of}
use Rattle.dn_client.specs.Answering.{AreOpenings}
use Rattle.dn_client.specs.Inside.{view_of}
use Rattle.dn_client.proofs.Challenges.{Tells, tells_on, tells_none}
use Rattle.dn_client.proofs.client.Client.is_opened.Goals as goal

pub is_opened_on-requires : goal.is_opened_on-requires
is_opened_on-requires c = omega (arith, c.self.invariant.client.seeds.1)

pub returns-in-Some : goal.returns-in-Some
returns-in-Some c =
    subst (λ v. Tells v c.args.c.now c.args.body.now c.is_opened_on.result) c.self.view_is
    (tells_on (view_of c.self.inside) c.args.c.now c.args.body.now c.is_opened_on.result c.in-Some.layout.now c.self.invariant.client c.in-Some.ensures.layout
    (subst (λ n. IsTrue c.is_opened_on.result ↔ ((c.args.c.now.k < bits_of c.in-Some.layout.now) × AreOpenings c.args.c.now.r c.args.c.now.k n c.args.c.now.shown.items)) (c.len.ensures ∙ c.self.inside.seeds.ok.0) c.is_opened_on.ensures))

pub returns-in-None : goal.returns-in-None
returns-in-None c =
    subst (λ v. Tells v c.args.c.now c.args.body.now false) c.self.view_is
    (tells_none (view_of c.self.inside) c.args.c.now c.args.body.now c.in-None.ensures.layout.0 c.in-None.ensures.layout.1)
