use Rattle.std.proofs.Common.{sym, arith}
use Rattle.std.specs.Str.Parse.{digits_value}
use Rattle.std.proofs.lemmas.Bool.{ne_eqb}
use Rattle.dn_script.proofs.JudgeLaws.{numeral_digits}
use Rattle.dn_script.proofs.context.is_number_of.Goals as goal

pub returns-in-None : goal.returns-in-None
returns-in-None c =
    let over = c.in-None.ensures (numeral_digits c.args.text.now c.requires) in
    rw c.in-Client.is (sym (ne_eqb (digits_value 10 c.args.text.now) c.in-Client.i.0 (λ e. omega (arith, over, c.from-number.ensures))))
