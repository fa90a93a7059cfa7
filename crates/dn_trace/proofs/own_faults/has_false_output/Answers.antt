use Rattle.std.proofs.Common.{◌≡◌, ◌+◌, ◌<◌, length, [], get_or, not, sym, ap, ◌∙◌, subst, arith, inl, inr}
use Rattle.std.proofs.lemmas.Bool.{false≢true, iff_false, cases_Bool, not-true}
use Rattle.dn_layout.specs.Layout.{bits_of}
use Rattle.dn_trace.specs.Trial.{servers_of}
use Rattle.dn_trace.specs.Reasons.{ShowsWrong}
use Rattle.dn_trace.specs.Evidence.{IsSumBelow}
use Rattle.dn_trace.proofs.OwnLemmas.{sum_long, sum_more, output_from, output_to, long_right}
use Rattle.dn_trace.proofs.own_faults.has_false_output.Goals as goal

pub returns-in_default : goal.returns-in_default
returns-in_default c =
    let trial = c.args.case.now in
    let lt : c.loop-j.j < servers_of trial = omega (arith, c.servers-j-end.ensures) in
    ((λ t. absurd (false≢true t)), (λ f. absurd (c.in_default.ensures (get_or f.shown c.loop-j.j []) (f.first c.loop-j.j lt))))

pub returns-then-len : goal.returns-then-len
returns-then-len c =
    let trial = c.args.case.now in
    let j = c.loop-j.j in
    let lt : j < servers_of trial = omega (arith, c.servers-j-end.ensures) in
    let other : ¬ (length c.in-Some.s.now ≡ bits_of trial.layout) = λ e. c.if-len.true (c.len.ensures ∙ e ∙ sym (sum_long trial j c.loop-j.sum c.loop-j.invariant) ∙ sym c.len-in-loop-j.ensures) in
    ((λ t. absurd (false≢true t)), (λ f. absurd (long_right trial j c.in-Some.s.now c.in-Some.ensures other (f.right j lt))))

pub loop-j-preserved : goal.loop-j-preserved
loop-j-preserved c =
    let trial = c.args.case.now in
    let j = c.loop-j.j in
    let lt : j < servers_of trial = omega (arith, c.servers-j-end.ensures) in
    let right : ¬ ShowsWrong trial j = iff_false (c.requires.each j lt) c.if-show_wrong-j.false in
    subst (IsSumBelow trial (j + 1)) (sym c.xor_into.ensures)
    (sum_more trial j c.loop-j.sum c.in-Some.s.now c.loop-j.invariant c.in-Some.ensures right (sym c.len.ensures ∙ c.if-len.false ∙ c.len-in-loop-j.ensures))

pub returns : goal.returns
returns c =
    let trial = c.args.case.now in
    let whole : c.loop-j.j ≡ servers_of trial = omega (arith, c.servers-j-end.ensures) in
    let all = subst (λ j. IsSumBelow trial j c.loop-j.sum) whole c.loop-j.invariant in
    let body = ap (λ b. b.out) c.body-body.ensures.value in (
      (λ t. output_from trial c.loop-j.sum all (λ e. false≢true (sym (not-true c.equals.result t) ∙ c.equals.ensures.1 (e ∙ sym body)))),
      (λ f. elim (cases_Bool c.equals.result) [
        | inl same ↦ absurd (output_to trial c.loop-j.sum all (c.equals.ensures.0 same ∙ body) f)
        | inr differ ↦ ap not differ
      ]),
    )
