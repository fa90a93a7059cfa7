use Rattle.std.proofs.Common.{refl, arith}
use Rattle.std.specs.Str.Parse.{digits_value}
use Rattle.std.proofs.lemmas.Bool.{le-leb}
use Rattle.dn_script.proofs.JudgeLaws.{numeral_digits}
use Rattle.dn_script.proofs.judging.below.Goals as goal

pub returns-in_default : goal.returns-in_default
returns-in_default c =
    let over = c.in_default.ensures (numeral_digits c.args.text.now c.requires) in
    rw (le-leb c.args.limit (digits_value 10 c.args.text.now) (omega (arith, over, c.from.ensures))) refl
