use Rattle.std.proofs.Common.{◌++◌, List, [], ℕ, Some, None, refl, sym, ap, ◌∙◌}
use Rattle.std.specs.Prelude.{Option, drop}
use Rattle.std.proofs.lemmas.List.{append-nil}
use Rattle.dn_verify.specs.Kept.{course_of, has_mark, known_of}
use Rattle.dn_verify.specs.Known.{heard_of, with_reached}
use Rattle.dn_verify.proofs.KnownLemmas.{adds_delivery}
use Rattle.dn_verify.proofs.events.deliver.Goals as goal

pub returns-clause-adds : goal.returns-clause-adds
returns-clause-adds c = λ report are roster corrupt.
    let behind = drop c.args.next c.args.lines.now in
    let known = known_of c.args.fold.now c.args.heard.now.items in
    let e = c.in_ok-expect_unopened.ensures report are corrupt in
    let reaching = c.arriving-reaching.ensures behind c.is_early_at-early.ensures in
    let new = known_of (record c.args.fold.now { due = c.expect_unopened.new.due; reached = c.reach_some.new.reached }) c.reach_some.new.heard.items in
    adds_delivery report (course_of c.args.course.now) known new behind e.0 e.2 c.args.id (Some c.in-Some.message) (sym c.in-Some.ensures) refl refl
    (c.in_ok-reach_some.ensures.reached ∙ ap (λ (o : Option ℕ). with_reached o (has_mark c.args.fold.now.reached)) reaching)
    (c.in_ok-reach_some.ensures.heard report are ∙ ap (λ (o : Option ℕ). known.heard ++ heard_of report (has_mark c.args.fold.now.reached) o) reaching)
    e.1
