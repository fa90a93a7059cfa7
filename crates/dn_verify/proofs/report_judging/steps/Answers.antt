use Rattle.std.proofs.Common.{◌≡◌, ◌≤◌, ◌<◌, ◌+◌, ℕ, List, [], length, drop, ap, sym, subst, ◌∙◌, arith}
use Rattle.std.specs.Prelude.{slice_index}
use Rattle.std.proofs.lemmas.List.{get_or_read}
use Rattle.std.proofs.lemmas.Result.{err_from_is_err_and}
use Rattle.dn_roster.specs.Roster.{RosterView}
use Rattle.dn_seal.specs.Said.{SaidView}
use Rattle.dn_verify.specs.Breaks.{BreaksNone}
use Rattle.dn_verify.specs.Course.{CourseView, after}
use Rattle.dn_verify.specs.Kept.{course_of, known_of}
use Rattle.dn_verify.specs.Known.{no_known}
use Rattle.dn_verify.specs.Rules.{from_put}
use Rattle.dn_verify.specs.Steps.{IsPassed, Passes, behind_at, course_before, line_at}
use Rattle.dn_verify.proofs.CourseLemmas.{before_first, before_more}
use Rattle.dn_verify.proofs.KnownLemmas.{passes_more, passes_none}
use Rattle.dn_verify.proofs.StepLemmas.{stops_so}
use Rattle.dn_verify.proofs.report_judging.steps.Goals as goal

pub loop-at-init : goal.loop-at-init
loop-at-init c =
    let none : length c.new-heard.result.items ≡ 0 = ap length c.new-heard.ensures.items in
    record {
      heard = λ k d few. absurd (omega (arith, none, few));
      goes = c.requires.start ∙ sym (before_first c.args.lines.now c.args.first);
      passed = λ report are roster corrupt.
          passes_none report c.args.lines.now c.args.first (known_of c.args.fold.now c.new-heard.result.items)
          (ap (known_of c.args.fold.now) c.new-heard.ensures.items ∙ c.requires.known ∙ ap (λ (r : RosterView). no_known (length r.clients)) (sym roster));
    }

pub loop-at-preserved : goal.loop-at-preserved
loop-at-preserved c =
    let ls = c.args.lines.now in
    let at = c.loop-at.at in
    let above : c.args.first ≤ at = omega arith in
    let within : at < length ls = omega arith in
    let puts = c.in_ok-puts.puts.items in
    let few : at < length puts = omega (arith, c.in_ok-puts.puts.ok.0, c.in_ok-puts.ensures.len) in
    let put : slice_index puts at ≡ c.index.result.now = sym (get_or_read puts at c.index.result.now few c.index.ensures 0) in
    let from : from_put (behind_at ls at) ≡ drop c.index.result.now ls =
    c.in_ok-puts.ensures.puts at within ∙ ap (λ (p : ℕ). drop p ls) put in
    let known = known_of c.loop-at.fold c.loop-at.heard.items in
    record {
      heard = c.in_ok-step.ensures.heard;
      goes = c.in_ok-step.ensures.goes ∙ ap (λ (x : CourseView). after x (line_at ls at) (behind_at ls at)) c.loop-at.invariant.goes
          ∙ sym (before_more ls c.args.first at above);
      passed = λ report are roster corrupt.
          let passed : IsPassed report (course_of c.loop-at.course) known (line_at ls at) (behind_at ls at) (known_of c.step.new.fold c.step.new.heard.items) = record {
            keeps = c.in_ok-step.ensures.rule report are roster corrupt from;
            goes = c.in_ok-step.ensures.adds report are roster corrupt from;
          } in
          passes_more ls c.args.first at above report known (known_of c.step.new.fold c.step.new.heard.items) (c.loop-at.invariant.passed report are roster corrupt)
          (subst (λ (x : CourseView). IsPassed report x known (line_at ls at) (behind_at ls at) (known_of c.step.new.fold c.step.new.heard.items)) c.loop-at.invariant.goes passed);
    }

pub returns-in_err-step : goal.returns-in_err-step
returns-in_err-step c =
    let ls = c.args.lines.now in
    let at = c.loop-at.at in
    let above : c.args.first ≤ at = omega arith in
    let within : at < length ls = omega arith in
    let puts = c.in_ok-puts.puts.items in
    let few : at < length puts = omega (arith, c.in_ok-puts.puts.ok.0, c.in_ok-puts.ensures.len) in
    let put : slice_index puts at ≡ c.index.result.now = sym (get_or_read puts at c.index.result.now few c.index.ensures 0) in
    let from : from_put (behind_at ls at) ≡ drop c.index.result.now ls =
    c.in_ok-puts.ensures.puts at within ∙ ap (λ (p : ℕ). drop p ls) put in
    let known = known_of c.loop-at.fold c.loop-at.heard.items in
    let p = err_from_is_err_and c.from_residual-in_err-step.result c.from_residual-in_err-step.ensures.1 in
    rw (p.1, p.2) (record {
      passed = λ report are roster corrupt.
          stops_so report ls c.args.first at known c.in_err-step.field-0.0 (course_of c.loop-at.course) c.loop-at.invariant.goes above within
          (c.loop-at.invariant.passed report are roster corrupt) (c.in_err-step.ensures.rule report are roster corrupt from);
      goes = tt;
    })

pub returns : goal.returns
returns c =
    let ls = c.args.lines.now in
    let end : c.loop-at.at ≡ length ls = omega arith in
    let known = known_of c.loop-at.fold c.loop-at.heard.items in
    record {
      passed = λ report are roster corrupt.
          (known, subst (λ (n : ℕ). Passes report ls c.args.first n known) end (c.loop-at.invariant.passed report are roster corrupt));
      goes = c.loop-at.invariant.goes ∙ ap (course_before ls c.args.first) end;
    }
