use Rattle.std.proofs.Common.{arith, sym, subst}
use Rattle.std.specs.Str.{all_ascii_digits}
use Rattle.std.specs.Str.Parse.{AllDigits}
use Rattle.std.proofs.lemmas.Bool.{false_from_ne_true}
use Rattle.std.proofs.lemmas.List.{take_all}
use Rattle.std.proofs.lemmas.Str.Parse.{digit_at}
use Rattle.std.proofs.lemmas.Int.Digits.{digits_more}
use Rattle.dn_script.proofs.JudgeLaws.{told}
use Rattle.dn_script.proofs.judging.digits_alone.Goals as goal

pub returns-then-not-is_ascii_digit : goal.returns-then-not-is_ascii_digit
returns-then-not-is_ascii_digit c =
    sym (false_from_ne_true (all_ascii_digits c.args.text.now) (λ all.
    let digit = digit_at c.args.text.now c.loop-b.b-index (told.to c.args.text.now all) c.loop-b-test.true in
    let other = c.if-not-is_ascii_digit.ensures.cases in
    absurd (grind (arith, digit, other))))

pub loop-b-preserved : goal.loop-b-preserved
loop-b-preserved c = digits_more 10 c.args.text.now c.loop-b.b-index c.loop-b-test.true c.loop-b.invariant c.if-not-is_ascii_digit.ensures.bound

pub returns : goal.returns
returns c = sym (told.from c.args.text.now (subst (AllDigits 10) (take_all c.loop-b.b-index c.args.text.now c.loop-b-test.false) c.loop-b.invariant))
