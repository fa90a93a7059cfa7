use Rattle.std.proofs.Common.{arith}
use Rattle.dn_script.specs.Script.{parts_of}
use Rattle.dn_notary.proofs.PartLemmas.{length_after, has_line}
use Rattle.dn_notary.proofs.JudgingLemmas.{no_more, steps_on}
use Rattle.dn_notary.proofs.judging.judge_entries.Goals as goal

pub loop-part-init : goal.loop-part-init
loop-part-init c = record { goes = λ v j. j; line = omega arith; count = omega arith }

pub judge_line-requires-clause-line : goal.judge_line-requires-clause-line
judge_line-requires-clause-line c =
    let shorter = length_after c.loop-part.rest.now c.in-Some.part.now c.in-Some.after.now c.in-Some.ensures.0 in
    omega (arith, c.loop-part.invariant.line)

pub returns-in-Some-2 : goal.returns-in-Some-2
returns-in-Some-2 c =
    let has = has_line c.loop-part.rest.now c.in-Some.part.now c.in-Some.after.now c.in-Some.ensures in
    c.loop-part.invariant.goes c.in-Some-2.verdict (rw c.in-Some-2.is at (c.in_ok-verdict.ensures (parts_of c.loop-part.rest.now) has))

pub overflow_add-line : goal.overflow_add-line
overflow_add-line c =
    let shorter = length_after c.loop-part.rest.now c.in-Some.part.now c.in-Some.after.now c.in-Some.ensures.0 in
    omega (arith, c.loop-part.invariant.line)

pub overflow_add-count : goal.overflow_add-count
overflow_add-count c =
    let shorter = length_after c.loop-part.rest.now c.in-Some.part.now c.in-Some.after.now c.in-Some.ensures.0 in
    omega (arith, c.loop-part.invariant.line, c.loop-part.invariant.count)

pub loop-part-smaller : goal.loop-part-smaller
loop-part-smaller c = let shorter = length_after c.loop-part.rest.now c.in-Some.part.now c.in-Some.after.now c.in-Some.ensures.0 in omega arith

pub loop-part-preserved : goal.loop-part-preserved
loop-part-preserved c =
    let shorter = length_after c.loop-part.rest.now c.in-Some.part.now c.in-Some.after.now c.in-Some.ensures.0 in
    let has = has_line c.loop-part.rest.now c.in-Some.part.now c.in-Some.after.now c.in-Some.ensures in
    record {
      goes = λ v j. c.loop-part.invariant.goes v
          (steps_on c.args.key.now (parts_of c.loop-part.rest.now) (parts_of c.in-Some.after.now) c.loop-part.line c.loop-part.count c.in_ok-verdict.field-0 c.in_default-2.not-Some
          (c.in_ok-verdict.ensures (parts_of c.loop-part.rest.now) has) v j);
      line = omega (arith, c.loop-part.invariant.line);
      count = omega (arith, c.loop-part.invariant.count);
    }

pub returns : goal.returns
returns c =
    rw c.no_line.ensures (c.loop-part.invariant.goes _ (no_more c.args.key.now c.loop-part.rest.now c.loop-part.line c.loop-part.count c.in_default.ensures))
