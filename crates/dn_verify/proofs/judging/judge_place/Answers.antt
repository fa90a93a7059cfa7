use Rattle.dn_verify.specs.Verdicts.{verdict_lines}
use Rattle.dn_verify.proofs.VerdictLemmas.{judged_so}
use Rattle.dn_verify.proofs.judging.judge_place.Goals as goal

pub returns-in_ok-tell-in-Some : goal.returns-in_ok-tell-in-Some
returns-in_ok-tell-in-Some c =
    let v = c.in-Some.verdict in (
      verdict_lines v.blamed v.silent,
      judged_so c.args.roster.now c.args.chain.now c.args.heard.now c.args.r c.args.k c.in_ok-verdict.field-0 v c.in-Some.is c.in_ok-verdict.ensures,
      c.in_ok-tell-in-Some.ensures,
    )
