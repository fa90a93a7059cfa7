use Rattle.std.proofs.Common.{◌≡◌, ◌++◌, ap, ◌∙◌}
use Rattle.std.specs.List.{flat_map}
use Rattle.dn_run_report.specs.Report.{head_lines, shown_lines, last_lines, lines_text, report_text}
use Rattle.dn_run_report.proofs.WritingLemmas.{on_err, ok_follows, err_follows, parts, head_failed, rows_failed, last_refused, last_failed, finished, unfinished}
use Rattle.dn_run_report.proofs.played.Played.write.Goals as goal

pub returns-in_err-add-clause-err : goal.returns-in_err-add-clause-err
returns-in_err-add-clause-err g c =
    let v = c.args.self.now in
    let start = g.K.Sink.held c.args.sink.now in
    let head = lines_text (head_lines v.group v.roster v.corrupt) in
    let rows = lines_text (flat_map (shown_lines v.history) v.shown) in
    let last = lines_text (last_lines v.audit) in
    let is = parts (head_lines v.group v.roster v.corrupt) (flat_map (shown_lines v.history) v.shown) (last_lines v.audit) in
    let piece = c.new-collector.result ++ c.deref.result.now in
    let same : piece ≡ head = ap (λ l. l ++ c.deref.result.now) c.new-collector.ensures ∙ c.deref.ensures.value ∙ c.in-Ok.ensures in
    on_err c.from_residual.result _ (head_failed start head rows last (report_text v) is (g.K.Sink.held c.add.new.sink) piece c.in_err-add.ensures.err same)

pub returns-in_err-add_shown-clause-err : goal.returns-in_err-add_shown-clause-err
returns-in_err-add_shown-clause-err g c =
    let v = c.args.self.now in
    let start = g.K.Sink.held c.args.sink.now in
    let head = lines_text (head_lines v.group v.roster v.corrupt) in
    let rows = lines_text (flat_map (shown_lines v.history) v.shown) in
    let last = lines_text (last_lines v.audit) in
    let is = parts (head_lines v.group v.roster v.corrupt) (flat_map (shown_lines v.history) v.shown) (last_lines v.audit) in
    let piece = c.new-collector.result ++ c.deref.result.now in
    let same : piece ≡ head = ap (λ l. l ++ c.deref.result.now) c.new-collector.ensures ∙ c.deref.ensures.value ∙ c.in-Ok.ensures in
    on_err c.from_residual-in_err-add_shown.result _
    (rows_failed start head rows last (report_text v) is (g.K.Sink.held c.add.new.sink) (g.K.Sink.held c.add_shown.new.sink) piece c.add.new.self
    c.in_ok-add.ensures.ok same c.in_err-add_shown.ensures.err)

pub returns-in_default-last_piece-clause-err : goal.returns-in_default-last_piece-clause-err
returns-in_default-last_piece-clause-err g c =
    let v = c.args.self.now in
    let start = g.K.Sink.held c.args.sink.now in
    let head = lines_text (head_lines v.group v.roster v.corrupt) in
    let rows = lines_text (flat_map (shown_lines v.history) v.shown) in
    let last = lines_text (last_lines v.audit) in
    let is = parts (head_lines v.group v.roster v.corrupt) (flat_map (shown_lines v.history) v.shown) (last_lines v.audit) in
    let piece = c.new-collector.result ++ c.deref.result.now in
    let same : piece ≡ head = ap (λ l. l ++ c.deref.result.now) c.new-collector.ensures ∙ c.deref.ensures.value ∙ c.in-Ok.ensures in
    last_refused start head rows last (report_text v) is (g.K.Sink.held c.add.new.sink) (g.K.Sink.held c.add_shown.new.sink) piece c.add.new.self c.add_shown.new.collector
    c.in_ok-add.ensures.ok same c.in_ok-add_shown.ensures.ok

pub returns-in_err-add-2-clause-err : goal.returns-in_err-add-2-clause-err
returns-in_err-add-2-clause-err g c =
    let v = c.args.self.now in
    let start = g.K.Sink.held c.args.sink.now in
    let head = lines_text (head_lines v.group v.roster v.corrupt) in
    let rows = lines_text (flat_map (shown_lines v.history) v.shown) in
    let last = lines_text (last_lines v.audit) in
    let is = parts (head_lines v.group v.roster v.corrupt) (flat_map (shown_lines v.history) v.shown) (last_lines v.audit) in
    let piece = c.new-collector.result ++ c.deref.result.now in
    let same : piece ≡ head = ap (λ l. l ++ c.deref.result.now) c.new-collector.ensures ∙ c.deref.ensures.value ∙ c.in-Ok.ensures in
    on_err c.from_residual-in_err-add-2.result _
    (last_failed start head rows last (report_text v) is (g.K.Sink.held c.add.new.sink) (g.K.Sink.held c.add_shown.new.sink) (g.K.Sink.held c.add-2.new.sink) piece c.add.new.self
    c.add_shown.new.collector c.deref-2.result.now c.in_ok-add.ensures.ok same c.in_ok-add_shown.ensures.ok (c.deref-2.ensures.value ∙ c.in-Ok-last_piece.ensures ∙ ap (λ w. lines_text (last_lines w.audit)) c.self.view_is) c.in_err-add-2.ensures.err)

pub returns-clause-ok : goal.returns-clause-ok
returns-clause-ok g c =
    let v = c.args.self.now in
    let start = g.K.Sink.held c.args.sink.now in
    let head = lines_text (head_lines v.group v.roster v.corrupt) in
    let rows = lines_text (flat_map (shown_lines v.history) v.shown) in
    let last = lines_text (last_lines v.audit) in
    let is = parts (head_lines v.group v.roster v.corrupt) (flat_map (shown_lines v.history) v.shown) (last_lines v.audit) in
    let piece = c.new-collector.result ++ c.deref.result.now in
    let same : piece ≡ head = ap (λ l. l ++ c.deref.result.now) c.new-collector.ensures ∙ c.deref.ensures.value ∙ c.in-Ok.ensures in
    ok_follows c.finish.result _ _ c.finish.ensures.ok
    (finished start head rows last (report_text v) is (g.K.Sink.held c.add.new.sink) (g.K.Sink.held c.add_shown.new.sink) (g.K.Sink.held c.add-2.new.sink) (g.K.Sink.held c.finish.new.sink)
    piece c.add.new.self c.add_shown.new.collector c.deref-2.result.now c.add-2.new.self c.in_ok-add.ensures.ok same c.in_ok-add_shown.ensures.ok
    (c.deref-2.ensures.value ∙ c.in-Ok-last_piece.ensures ∙ ap (λ w. lines_text (last_lines w.audit)) c.self.view_is) c.in_ok-add-2.ensures.ok)

pub returns-clause-err : goal.returns-clause-err
returns-clause-err g c =
    let v = c.args.self.now in
    let start = g.K.Sink.held c.args.sink.now in
    let head = lines_text (head_lines v.group v.roster v.corrupt) in
    let rows = lines_text (flat_map (shown_lines v.history) v.shown) in
    let last = lines_text (last_lines v.audit) in
    let is = parts (head_lines v.group v.roster v.corrupt) (flat_map (shown_lines v.history) v.shown) (last_lines v.audit) in
    let piece = c.new-collector.result ++ c.deref.result.now in
    let same : piece ≡ head = ap (λ l. l ++ c.deref.result.now) c.new-collector.ensures ∙ c.deref.ensures.value ∙ c.in-Ok.ensures in
    err_follows c.finish.result _ _ c.finish.ensures.err
    (unfinished start head rows last (report_text v) is (g.K.Sink.held c.add.new.sink) (g.K.Sink.held c.add_shown.new.sink) (g.K.Sink.held c.add-2.new.sink) (g.K.Sink.held c.finish.new.sink)
    piece c.add.new.self c.add_shown.new.collector c.deref-2.result.now c.add-2.new.self c.in_ok-add.ensures.ok same c.in_ok-add_shown.ensures.ok
    (c.deref-2.ensures.value ∙ c.in-Ok-last_piece.ensures ∙ ap (λ w. lines_text (last_lines w.audit)) c.self.view_is) c.in_ok-add-2.ensures.ok)
