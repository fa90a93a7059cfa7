use Rattle.std.proofs.Common.{◌<◌, refl, sym, ◌∙◌, arith}
use Rattle.std.specs.Str.Parse.{digits_value}
use Rattle.dn_script.proofs.JudgeLaws.{numeral_digits, above_high}
use Rattle.dn_script.proofs.judging.small.Goals as goal

pub returns-in_default : goal.returns-in_default
returns-in_default c =
    let numeral = sym c.is_numeral.ensures ∙ c.if-not-is_numeral.false in
    let over = c.in_default.ensures (numeral_digits c.args.text.now numeral) in
    let above : c.args.high < digits_value 10 c.args.text.now = omega (arith, over, c.from.ensures) in
    rw (numeral, above_high c.args.low c.args.high (digits_value 10 c.args.text.now) above) refl
