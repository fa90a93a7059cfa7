use Rattle.std.proofs.Common.{◌≡◌, ◌<◌, ◌++◌, length, get_or, sym, ap, ◌∙◌, subst, arith}
use Rattle.std.specs.List.{flat_map}
use Rattle.dn_io.specs.Sink.{AppendsFront}
use Rattle.dn_io.specs.Writing.{AppendsAllBut}
use Rattle.dn_run_report.specs.Report.{lines_text, shown_lines}
use Rattle.dn_run_report.specs.declared.shown.Shown.TheVariants as shown
use Rattle.dn_run_report.proofs.WritingLemmas.{one_more, stopped, failed, on_err}
use Rattle.dn_run_report.proofs.played.Played.add_shown.Goals as goal

pub returns-in_default-clause-err : goal.returns-in_default-clause-err
returns-in_default-clause-err g c =
    let start = g.K.Sink.held c.args.sink.now in
    let now = g.K.Sink.held c.loop-shown.sink in
    subst (λ xs. AppendsFront start now (c.args.collector.now ++ lines_text (flat_map (shown_lines c.args.self.now.history) xs)))
    (c.deref-shown-items.ensures.value ∙ ap (λ v. v.shown) c.self.view_is)
    (stopped (shown_lines c.args.self.now.history) c.deref-shown-items.result.now start now c.args.collector.now c.loop-shown.collector c.loop-shown.shown-index c.loop-shown.invariant.0)

pub returns-in_err-add-clause-err : goal.returns-in_err-add-clause-err
returns-in_err-add-clause-err g c =
    let start = g.K.Sink.held c.args.sink.now in
    let before = g.K.Sink.held c.loop-shown.sink in
    let after = g.K.Sink.held c.add.new.sink in
    on_err c.from_residual.result _
    (subst (λ xs. AppendsFront start after (c.args.collector.now ++ lines_text (flat_map (shown_lines c.args.self.now.history) xs)))
    (c.deref-shown-items.ensures.value ∙ ap (λ v. v.shown) c.self.view_is)
    (failed (shown_lines c.args.self.now.history) c.deref-shown-items.result.now start before after c.args.collector.now c.loop-shown.collector c.deref.result.now c.loop-shown.shown-index (shown.Event 0)
    c.loop-shown.invariant.0 c.in_err-add.ensures.err
    (c.deref.ensures.value ∙ c.in-Ok.ensures ∙ ap (λ h. lines_text (shown_lines h (get_or c.deref-shown-items.result.now c.loop-shown.shown-index (shown.Event 0)))) (c.history.ensures ∙ ap (λ v. v.history) c.self.view_is))
    c.loop-shown-test.true))

pub loop-shown-preserved : goal.loop-shown-preserved
loop-shown-preserved g c = (
  one_more (shown_lines c.args.self.now.history) c.deref-shown-items.result.now (g.K.Sink.held c.args.sink.now) (g.K.Sink.held c.loop-shown.sink) (g.K.Sink.held c.add.new.sink)
      c.args.collector.now c.loop-shown.collector c.add.new.self c.deref.result.now c.loop-shown.shown-index (shown.Event 0)
      c.loop-shown.invariant.0 c.in_ok-add.ensures.ok
      (c.deref.ensures.value ∙ c.in-Ok.ensures ∙ ap (λ h. lines_text (shown_lines h (get_or c.deref-shown-items.result.now c.loop-shown.shown-index (shown.Event 0)))) (c.history.ensures ∙ ap (λ v. v.history) c.self.view_is))
      c.loop-shown-test.true,
  omega (arith, c.loop-shown.invariant.1, c.in_ok-add.ensures.faults),
)
