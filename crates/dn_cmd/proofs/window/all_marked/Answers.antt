use Rattle.std.proofs.Common.{ℕ, Vec, Global, ◌∙◌, ◌++◌, ◌∷◌, [], ap, sym}
use Rattle.dn_cmd.proofs.WindowLemmas.{filter_next_yes, filter_next_no, mark_at}
use Rattle.dn_cmd.proofs.window.all_marked.Goals as goal
use Rattle.dn_cmd.proofs.window.all_marked.Goals.{then-marks-client+in_ok-push, else-marks-client}

pub loop-client-preserved : goal.loop-client-preserved
loop-client-preserved c = λ f h.
    let i = c.loop-client.client in
    let here = mark_at f c.args.clients i c.args.marks.now h c.loop-client-test.true in
    elim c.if-marks-client.branch [
      | then-marks-client+in_ok-push w ↦
          ap (λ (v : Vec ℕ Global). v.items) w.marked-is ∙ w.in_ok-push.ensures.items
          ∙ ap (λ l. l ++ i ∷ []) (c.loop-client.invariant f h)
          ∙ sym (filter_next_yes f i (sym here ∙ w.if-marks-client.true))
      | else-marks-client w ↦
          ap (λ (v : Vec ℕ Global). v.items) w.marked-is ∙ c.loop-client.invariant f h
          ∙ sym (filter_next_no f i (sym here ∙ w.if-marks-client.false))
    ]
