use Rattle.std.proofs.lemmas.Result.{IfOk-weaker}
use Rattle.dn_verify.proofs.RoundLemmas.{has_layout}
use Rattle.dn_verify.proofs.VerdictLemmas.{found_in}
use Rattle.dn_verify.proofs.judging.verdict_of.Goals as goal

pub returns-in-Some-layout : goal.returns-in-Some-layout
returns-in-Some-layout c =
    let b = c.in-Some.body.now in
    IfOk-weaker c.verdict_on.result _ _
    (found_in c.args.roster.now c.args.chain.now c.args.heard.now c.args.r c.args.k c.body.ensures.chain b c.in-Some-layout.layout.now
    c.in-Some.ensures.body.0 c.in-Some.ensures.body.1 c.in-Some-layout.ensures.layout)
    c.verdict_on.ensures

pub returns-in-None : goal.returns-in-None
returns-in-None c = λ trial is.
    has_layout c.args.chain.now c.body.ensures.chain c.in-Some.body.now c.in-Some.ensures.body.0 c.in-None.ensures.layout
