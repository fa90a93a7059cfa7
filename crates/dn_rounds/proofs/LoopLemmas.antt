-- Steps one after the other.
use Rattle.std.proofs.Common.{◌≡◌, ◌<◌, true, List, [], ◌∷◌, ◌++◌, cond, refl, sym, ap, subst, ◌∙◌, arith, append_assoc}
use Rattle.dn_server.specs.declared.act.Act.{Act}
use Rattle.dn_server.specs.declared.run.Run.{Run}
use Rattle.dn_server.specs.declared.run.Stage.{Stage}
use Rattle.dn_server.specs.declared.run.Stage.TheVariants as stages
use Rattle.dn_server.specs.Server.{ServerView}
use Rattle.dn_rounds.specs.Going.{Step, Steps}
use Rattle.dn_rounds.specs.Going.Step.{commits, reveals, signs, signs_thin, certifies, commit_conflicts, reveal_conflicts, body_opposed, thin_opposed}
use Rattle.dn_rounds.specs.Going.Steps.{no_step, one_more}
use Rattle.dn_rounds.specs.Certifying.{left_at, steps_left}

pub append_nil : (xs : List Act) → xs ++ [] ≡ xs
append_nil [] = refl
append_nil (x ∷ xs) = ap (λ l. x ∷ l) (append_nil xs)

-- one step more at the end
pub steps_then : {v w x : ServerView} {did more : List Act} → Steps v did w → w.run.is_running ≡ true → Step w more x → Steps v (did ++ more) x
steps_then {v} {w} {x} {did} {more} (no_step e g) runs step =
    one_more more [] x (ap (λ (y : ServerView). y.run.is_running) (sym g) ∙ runs) (subst (λ (y : ServerView). Step y more x) g step) (no_step refl refl)
    (ap (λ l. l ++ more) e ∙ sym (append_nil more))
steps_then {v} {w} {x} {did} {more} (one_more first rest between run step others e) runs last =
    one_more first (rest ++ more) between run step (steps_then others runs last) (ap (λ l. l ++ more) e ∙ append_assoc first rest more)

at_stage : (run : Run) (s : Stage) → run.stage ≡ s → run.is_running ≡ true → steps_left run ≡ left_at s
at_stage run s e r = (λ i. cond (r i) (left_at (e i)) 0)

-- a step leaves fewer
pub step_falls : (v : ServerView) (did : List Act) (after : ServerView) → v.run.is_running ≡ true → Step v did after → steps_left after.run < steps_left v.run
step_falls v did after r (commits sum d f l e g) =
    let here = at_stage v.run stages.Listed d.stage r in let there = ap (λ (w : ServerView). steps_left w.run) g ∙ ap (λ b. cond b 3 0) r in omega arith
step_falls v did after r (reveals sum d f l e g) =
    let here = at_stage v.run stages.Committed d.stage r in let there = ap (λ (w : ServerView). steps_left w.run) g ∙ ap (λ b. cond b 2 0) r in omega arith
step_falls v did after r (signs sum b d f l e g) =
    let here = at_stage v.run stages.Revealed d.stage r in let there = ap (λ (w : ServerView). steps_left w.run) g ∙ ap (λ b. cond b 1 0) r in omega arith
step_falls v did after r (signs_thin b d f l e g) =
    let here = at_stage v.run stages.Listed d.stage r in let there = ap (λ (w : ServerView). steps_left w.run) g ∙ ap (λ b. cond b 1 0) r in omega arith
step_falls v did after r (certifies b c d f l e g) =
    let here = at_stage v.run stages.Signed d.stage r in let there = ap (λ (w : ServerView). steps_left w.run) g in omega arith
step_falls v did after r (commit_conflicts sum other d f e g) =
    let here = at_stage v.run stages.Listed d.stage r in let there = ap (λ (w : ServerView). steps_left w.run) g in omega arith
step_falls v did after r (reveal_conflicts sum other d f e g) =
    let here = at_stage v.run stages.Committed d.stage r in let there = ap (λ (w : ServerView). steps_left w.run) g in omega arith
step_falls v did after r (body_opposed sum b j other d f e g) =
    let here = at_stage v.run stages.Revealed d.stage r in let there = ap (λ (w : ServerView). steps_left w.run) g in omega arith
step_falls v did after r (thin_opposed b j other d f e g) =
    let here = at_stage v.run stages.Listed d.stage r in let there = ap (λ (w : ServerView). steps_left w.run) g in omega arith
