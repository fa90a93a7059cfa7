use Rattle.std.proofs.Common.{◌<◌, sym, arith}
use Rattle.std.proofs.lemmas.Bool.Decides.{nat_tests}
use Rattle.dn_client.proofs.Lists.{above_all}
use Rattle.dn_client.proofs.submitting.turn_of.Goals as goal

pub returns-else-eq : goal.returns-else-eq
returns-else-eq c =
    let above : c.in-Some.last.now.r.0 < c.args.r.0 = grind (arith, nat_tests) in
    above_all (λ m. m.r.0) c.args.made.now c.in-Some.last.now c.args.r.0 c.requires (sym c.in-Some.ensures.value) above
