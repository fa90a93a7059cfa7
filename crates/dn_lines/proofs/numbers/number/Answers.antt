use Rattle.std.proofs.Common.{◌≡◌, ◌<◌, ◌∙◌, sym, ap, arith, subst, refl}
use Rattle.std.specs.Fmt.{decimal}
use Rattle.std.specs.Str.Parse.{AllDigits, digits_value}
use Rattle.std.proofs.lemmas.Bool.{false≢true}
use Rattle.std.proofs.lemmas.Fmt.{digits_decimal, digits_value-decimal, decimal-digits_value}
use Rattle.dn_lines.specs.Fields.{IsProper}
use Rattle.dn_lines.proofs.NumberLaws.{number_none, number_some, proper_decimal, own}
use Rattle.dn_lines.proofs.numbers.number.Goals as goal

pub returns-then-not-is_proper : goal.returns-then-not-is_proper
returns-then-not-is_proper c =
    sym (number_none c.args.low c.args.high c.args.text.now (omega arith)
    (λ v small above below e. false≢true (c.if-not-is_proper.ensures.1 (subst IsProper (sym e) (proper_decimal v small)))))

pub returns-in_err-value : goal.returns-in_err-value
returns-in_err-value c =
    c.from_residual.ensures
    ∙ sym (number_none c.args.low c.args.high c.args.text.now (omega arith)
    (λ v small above below e.
    let all : AllDigits 10 c.args.text.now = subst (AllDigits 10) (sym e) (digits_decimal own v small) in
    let value : digits_value 10 c.args.text.now ≡ v = ap (digits_value 10) e ∙ digits_value-decimal own v small in
    let over : c.args.high < digits_value 10 c.args.text.now = c.in_err-value.ensures all in
    omega arith))

pub returns-then-value-low : goal.returns-then-value-low
returns-then-value-low c =
    sym (number_none c.args.low c.args.high c.args.text.now (omega arith)
    (λ v small above below e.
    let value : digits_value 10 c.args.text.now ≡ v = ap (digits_value 10) e ∙ digits_value-decimal own v small in
    omega (arith, c.in_ok-value.ensures.1)))

pub returns : goal.returns
returns c =
    let facts = c.in_ok-value.ensures in
    let proper = c.if-not-is_proper.ensures.0 refl in
    let value : digits_value 10 c.args.text.now ≡ c.in_ok-value.value = sym facts.1 in
    let same : decimal (digits_value 10 c.args.text.now) ≡ c.args.text.now =
    decimal-digits_value own c.args.text.now facts.0 proper.some proper.no_zero (omega arith) in
    sym (number_some c.args.low c.args.high c.in_ok-value.value c.args.text.now (omega arith) (omega arith) facts.2 (sym same ∙ ap decimal value))
