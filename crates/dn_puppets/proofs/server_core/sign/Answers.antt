use Rattle.std.proofs.Common.{rules, arith}
use Rattle.dn_seal.specs.Dealt.{server}
use Rattle.dn_puppets.proofs.server_core.sign.Goals as goal

pub sign-requires : goal.sign-requires
sign-requires c =
    c.requires (server c.args.core.now.seat.number) (first_of (search rules, omega arith, omega (arith, c.number-number.type_inv, c.number-number.ensures)))
