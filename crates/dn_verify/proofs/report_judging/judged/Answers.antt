use Rattle.std.proofs.Common.{◌≡◌, ℕ, List, [], Bool, true, length, ap, sym, subst, refl, ◌∙◌, inl, inr, rules}
use Rattle.std.specs.Prelude.{map}
use Rattle.std.specs.List.{AllZip}
use Rattle.std.proofs.lemmas.Result.{err_from_is_err_and}
use Rattle.dn_wire.specs.declared.ids.Member.{Member}
use Rattle.dn_report.specs.declared.line.ReportLine.{ReportLine}
use Rattle.dn_verify.specs.declared.content.Content.{Content}
use Rattle.dn_verify.specs.declared.course.Ending.TheVariants.{Ended}
use Rattle.dn_verify.specs.declared.stop.Stop.TheVariants.{Broken}
use Rattle.dn_verify.specs.Acceptance.{IsReport}
use Rattle.dn_verify.specs.Course.{CourseView}
use Rattle.dn_verify.specs.Header.{IsHeader}
use Rattle.dn_verify.specs.Payloads.{AreContents, IsContent, Report, carried_in}
use Rattle.dn_verify.specs.Reading.{IsRead}
use Rattle.dn_verify.specs.Steps.{posts_of}
use Rattle.dn_verify.proofs.AcceptanceLemmas.{header_stops, steps_stop, end_stops}
use Rattle.dn_verify.proofs.ContentLemmas.{are_carried}
use Rattle.dn_verify.proofs.report_judging.judged.Goals as goal

pub steps-requires-clause-known : goal.steps-requires-clause-known
steps-requires-clause-known c =
    c.new-fold.ensures (length c.in_ok-header.header.roster.clients)
    (c.in_ok-chain.ensures.none ∙ ap (λ (n : ℕ). record { slots = n; held = [] }) c.clients-clients.ensures.value)

pub returns-in_err-header-clause-stops : goal.returns-in_err-header-clause-stops
returns-in_err-header-clause-stops c =
    let text = c.args.text.now in
    let ls = c.as_slice-lines.result.now in
    let whole = c.in_ok-report.report.whole in
    let read : IsRead text ls whole =
    subst (λ (xs : List ReportLine). IsRead text xs whole) (sym c.as_slice-lines.ensures.value) c.in_ok-report.ensures.read in
    let p = err_from_is_err_and c.from_residual-in_err-header.result c.from_residual-in_err-header.ensures.1 in
    rw (p.1, p.2) (header_stops text ls whole c.in_err-header.field-0.0 read c.in_err-header.ensures.stops)

pub returns-in_err-steps-clause-stops : goal.returns-in_err-steps-clause-stops
returns-in_err-steps-clause-stops c =
    let text = c.args.text.now in
    let ls = c.as_slice-lines.result.now in
    let whole = c.in_ok-report.report.whole in
    let read : IsRead text ls whole =
    subst (λ (xs : List ReportLine). IsRead text xs whole) (sym c.as_slice-lines.ensures.value) c.in_ok-report.ensures.read in
    let h = c.in_ok-header.header in
    let corrupt = c.as_slice-corrupt.result.now in
    let opened = c.as_slice-opened.result.now in
    let report : Report = record { roster = h.roster; corrupt = corrupt; payloads = posts_of ls; carried = map carried_in opened } in
    let zip : AllZip (IsContent h.roster) (posts_of ls) opened =
    subst (λ (cs : List Content). AllZip (IsContent h.roster) (posts_of ls) cs) (sym c.as_slice-opened.ensures.value) c.in_ok-contents.ensures.contents in
    let is : IsReport text ls whole report h.first = record {
      read = read;
      header = subst (λ (ms : List Member). IsHeader ls h.roster ms h.first) (sym c.as_slice-corrupt.ensures.value) c.in_ok-header.ensures.header;
      payloads = refl;
      carried = are_carried h.roster (posts_of ls) opened zip;
    } in
    let are : AreContents report opened = record { opened = zip; carried = refl } in
    let p = err_from_is_err_and c.from_residual-in_err-steps.result c.from_residual-in_err-steps.ensures.1 in
    rw (p.1, p.2) (steps_stop text ls whole report h.first is c.in_err-steps.field-0.0 (c.in_err-steps.ensures.passed report are refl refl))

pub returns-then-not-report-clause-stops : goal.returns-then-not-report-clause-stops
returns-then-not-report-clause-stops c =
    let text = c.args.text.now in
    let ls = c.as_slice-lines.result.now in
    let whole = c.in_ok-report.report.whole in
    let read : IsRead text ls whole =
    subst (λ (xs : List ReportLine). IsRead text xs whole) (sym c.as_slice-lines.ensures.value) c.in_ok-report.ensures.read in
    let h = c.in_ok-header.header in
    let corrupt = c.as_slice-corrupt.result.now in
    let opened = c.as_slice-opened.result.now in
    let report : Report = record { roster = h.roster; corrupt = corrupt; payloads = posts_of ls; carried = map carried_in opened } in
    let zip : AllZip (IsContent h.roster) (posts_of ls) opened =
    subst (λ (cs : List Content). AllZip (IsContent h.roster) (posts_of ls) cs) (sym c.as_slice-opened.ensures.value) c.in_ok-contents.ensures.contents in
    let is : IsReport text ls whole report h.first = record {
      read = read;
      header = subst (λ (ms : List Member). IsHeader ls h.roster ms h.first) (sym c.as_slice-corrupt.ensures.value) c.in_ok-header.ensures.header;
      payloads = refl;
      carried = are_carried h.roster (posts_of ls) opened zip;
    } in
    let are : AreContents report opened = record { opened = zip; carried = refl } in
    let at : c.misplaced.result ≡ Broken (length ls) 1 = search rules in
    let passed = c.in_ok-steps.ensures.passed report are refl refl in
    end_stops text ls whole report h.first is c.misplaced.result passed.0 passed.1 at (inl c.if-not-report.true)

pub returns-then-ne-clause-stops : goal.returns-then-ne-clause-stops
returns-then-ne-clause-stops c =
    let text = c.args.text.now in
    let ls = c.as_slice-lines.result.now in
    let whole = c.in_ok-report.report.whole in
    let read : IsRead text ls whole =
    subst (λ (xs : List ReportLine). IsRead text xs whole) (sym c.as_slice-lines.ensures.value) c.in_ok-report.ensures.read in
    let h = c.in_ok-header.header in
    let corrupt = c.as_slice-corrupt.result.now in
    let opened = c.as_slice-opened.result.now in
    let report : Report = record { roster = h.roster; corrupt = corrupt; payloads = posts_of ls; carried = map carried_in opened } in
    let zip : AllZip (IsContent h.roster) (posts_of ls) opened =
    subst (λ (cs : List Content). AllZip (IsContent h.roster) (posts_of ls) cs) (sym c.as_slice-opened.ensures.value) c.in_ok-contents.ensures.contents in
    let is : IsReport text ls whole report h.first = record {
      read = read;
      header = subst (λ (ms : List Member). IsHeader ls h.roster ms h.first) (sym c.as_slice-corrupt.ensures.value) c.in_ok-header.ensures.header;
      payloads = refl;
      carried = are_carried h.roster (posts_of ls) opened zip;
    } in
    let are : AreContents report opened = record { opened = zip; carried = refl } in
    let at : c.misplaced-then-ne.result ≡ Broken (length ls) 1 = search rules in
    let other : c.steps.new.course.ending ≡ Ended → ⊥ = search rules in
    let passed = c.in_ok-steps.ensures.passed report are refl refl in
    end_stops text ls whole report h.first is c.misplaced-then-ne.result passed.0 passed.1 at
    (inr (λ ends. other (ap (λ (x : CourseView). x.ending) c.in_ok-steps.ensures.goes ∙ ends)))

pub returns-clause-keeps : goal.returns-clause-keeps
returns-clause-keeps c =
    let text = c.args.text.now in
    let ls = c.as_slice-lines.result.now in
    let whole = c.in_ok-report.report.whole in
    let read : IsRead text ls whole =
    subst (λ (xs : List ReportLine). IsRead text xs whole) (sym c.as_slice-lines.ensures.value) c.in_ok-report.ensures.read in
    let h = c.in_ok-header.header in
    let corrupt = c.as_slice-corrupt.result.now in
    let opened = c.as_slice-opened.result.now in
    let report : Report = record { roster = h.roster; corrupt = corrupt; payloads = posts_of ls; carried = map carried_in opened } in
    let zip : AllZip (IsContent h.roster) (posts_of ls) opened =
    subst (λ (cs : List Content). AllZip (IsContent h.roster) (posts_of ls) cs) (sym c.as_slice-opened.ensures.value) c.in_ok-contents.ensures.contents in
    let is : IsReport text ls whole report h.first = record {
      read = read;
      header = subst (λ (ms : List Member). IsHeader ls h.roster ms h.first) (sym c.as_slice-corrupt.ensures.value) c.in_ok-header.ensures.header;
      payloads = refl;
      carried = are_carried h.roster (posts_of ls) opened zip;
    } in
    let are : AreContents report opened = record { opened = zip; carried = refl } in
    let ended : c.steps.new.course.ending ≡ Ended = search rules in
    let passed = c.in_ok-steps.ensures.passed report are refl refl in
    record {
      ls = ls;
      report = report;
      first = h.first;
      is = subst (λ (b : Bool). IsReport text ls b report h.first) c.if-not-report.false is;
      known = passed.0;
      passes = passed.1;
      ends = sym (ap (λ (x : CourseView). x.ending) c.in_ok-steps.ensures.goes) ∙ ended;
    }
