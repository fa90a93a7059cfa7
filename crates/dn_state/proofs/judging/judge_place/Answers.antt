use Rattle.std.proofs.Common.{subst}
use Rattle.std.proofs.lemmas.Result.{IfOk-weaker}
use Rattle.dn_state.specs.Inside.{parts_of}
use Rattle.dn_state.specs.Verdicts.{verdict_lines, IsJudgedSo}
use Rattle.dn_state.proofs.VerdictLemmas.{judged_so}
use Rattle.dn_state.proofs.judging.judge_place.Goals as goal

pub returns-in-Some : goal.returns-in-Some
returns-in-Some c =
    let v = c.in-Some.verdict in
    let lines = verdict_lines v.blamed v.silent in
    let so = judged_so (parts_of c.state.inside) c.args.r c.args.k c.roster-roster.result.now c.deref.result.now c.in_ok-verdict.field-0 v
    c.roster-roster.ensures c.deref.ensures.value c.in-Some.is c.in_ok-verdict.ensures in
    IfOk-weaker c.tell.result _ _ (λ _ items. (lines, subst (λ parts. IsJudgedSo parts c.args.r c.args.k lines) c.state.view_is so, items)) c.tell.ensures
