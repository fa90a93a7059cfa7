use Rattle.dn_verify.proofs.VerdictLemmas.{valid_within}
use Rattle.dn_verify.proofs.judging.verdict_on.Goals as goal

pub judge-requires-clause-place : goal.judge-requires-clause-place
judge-requires-clause-place c =
    let said = c.in-Some.ensures.0 in
    valid_within c.args.layout.now c.args.body.now said.signer said.statement c.in-Some.v c.in-Some.ensures.2
