use Rattle.std.proofs.Common.{subst}
use Rattle.std.proofs.lemmas.Result.{IfOk-weaker}
use Rattle.dn_record_types.specs.declared.body.Body.{Body}
use Rattle.dn_cert.specs.Chain.{IsHoldRefused}
use Rattle.dn_server.specs.Parts.{live}
use Rattle.dn_exchange.proofs.ending.hold.Goals as goal

pub returns-in-Some-clause-holds : goal.returns-in-Some-clause-holds
returns-in-Some-clause-holds c =
    let v = live c.args.parts.now in
    IfOk-weaker c.refused.result _ _
    (λ a f. f v c.args.c.now (subst (λ (b : Body). IsHoldRefused v.chain b c.in-Some.fault) c.body.ensures.value c.in-Some.ensures.refused))
    c.refused.ensures
