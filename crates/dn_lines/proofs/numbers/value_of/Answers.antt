use Rattle.std.proofs.Common.{◌+◌, arith, get_or}
use Rattle.std.proofs.lemmas.Str.{digit_value_digit}
use Rattle.std.proofs.lemmas.Str.Parse.{digit_at, digits_value-take-le}
use Rattle.std.proofs.lemmas.Int.Digits.{digits_value_more, digits_more}
use Rattle.dn_lines.proofs.numbers.value_of.Goals as goal

pub returns-then-not-is_ascii_digit : goal.returns-then-not-is_ascii_digit
returns-then-not-is_ascii_digit c = λ all.
    let digit = digit_at c.args.text.now c.loop-b.b-index all c.loop-b-test.true in
    let no = c.if-not-is_ascii_digit.ensures.cases in
    absurd (grind (arith, digit, no))

pub returns-then-next-from : goal.returns-then-next-from
returns-then-next-from c = λ all.
    let digit = digit_at c.args.text.now c.loop-b.b-index all c.loop-b-test.true in
    let more = digits_value_more 10 c.args.text.now c.loop-b.b-index c.loop-b-test.true in
    let least = digits_value-take-le 10 c.args.text.now (c.loop-b.b-index + 1) (omega arith) in
    omega (arith, more, least, digit_value_digit (get_or c.args.text.now c.loop-b.b-index 0) digit, c.loop-b.invariant.1)

pub loop-b-preserved : goal.loop-b-preserved
loop-b-preserved c =
    let digit = c.if-not-is_ascii_digit.ensures.cases in
    let bound = c.if-not-is_ascii_digit.ensures.bound in
    let more = digits_value_more 10 c.args.text.now c.loop-b.b-index c.loop-b-test.true in (
      digits_more 10 c.args.text.now c.loop-b.b-index c.loop-b-test.true c.loop-b.invariant.0 bound,
      omega (arith, more, digit_value_digit (get_or c.args.text.now c.loop-b.b-index 0) digit, c.loop-b.invariant.1),
      omega arith,
    )
