use Rattle.std.proofs.lemmas.Result.{IfOk-weaker}
use Rattle.dn_state.proofs.AnswerLemmas.{notes_some}
use Rattle.dn_state.proofs.calling.note_sum.Goals as goal

pub returns-in-Some : goal.returns-in-Some
returns-in-Some c =
    let run = c.args.core.now.run in
    IfOk-weaker c.add_sum.result _ _
    (λ _ adds. notes_some c.args.server run.r c.last_opened.result run.sum c.in-Some.sum.now c.args.auditor.now c.add_sum.new.self c.last_opened.ensures c.in-Some.ensures adds)
    c.add_sum.ensures
