use Rattle.std.proofs.Common.{subst, sym}
use Rattle.std.proofs.lemmas.Result.{IfOk-weaker}
use Rattle.dn_cert.specs.Chain.{ChainView}
use Rattle.dn_exchange.specs.Ending.{HoldsOn}
use Rattle.dn_server.specs.Parts.{live}
use Rattle.dn_exchange.proofs.ending.hold_it.Goals as goal

pub returns-in-Err : goal.returns-in-Err
returns-in-Err c =
    let p = c.args.parts.now in
    IfOk-weaker c.refused.result _ _
    (λ a f. subst (λ (x : ChainView). HoldsOn (live p) c.args.c a (live (record p { chain = x }))) (sym c.in-Err.ensures.same) (f (live p) c.args.c c.in-Err.ensures.refused))
    c.refused.ensures
