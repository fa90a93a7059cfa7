use Rattle.std.proofs.Common.{◌≡◌, ◌∙◌, length, ap, sym, arith, Some}
use Rattle.dn_server.specs.declared.run.Sum.{Sum}
use Rattle.dn_rounds.proofs.going.revealed.Goals as goal

some_is : (a b : Sum) → Some a ≡ Some b → a ≡ b
some_is a b e = cc

pub reveal_of-requires : goal.reveal_of-requires
reveal_of-requires c =
    let sum = c.requires.sum in
    let same : sum.0 ≡ c.in-Some.sum = some_is sum.0 c.in-Some.sum (sym sum.1 ∙ c.in-Some.is) in
    let long : length c.in_ok-s.s ≡ c.args.parts.now.run.bits = ap length c.in_ok-s.ensures ∙ ap (λ (x : Sum). length x.s) (sym same) ∙ sum.2 in
    omega (arith, c.requires.bits, long)
