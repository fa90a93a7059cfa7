use Rattle.std.proofs.Common.{◌≡◌, ◌≤◌, length, rules, arith}
use Rattle.dn_record_types.specs.declared.statement.WordTold.{WordTold}
use Rattle.dn_record_types.specs.declared.statement.WordTold.TheVariants.{Included, Late}
use Rattle.dn_record_types.specs.Records.{told_byte}
use Rattle.dn_seal.specs.Dealt.{server}
use Rattle.dn_seal.proofs.SizeLemmas.{can_sign}
use Rattle.dn_exchange.proofs.submitting.receipt.Goals as goal

told_few : (t : WordTold) → (1 ≤ told_byte t) × (told_byte t ≤ 2)
told_few Included = (omega arith, omega arith)
told_few Late = (omega arith, omega arith)

pub returns-clause-fits : goal.returns-clause-fits
returns-clause-fits c =
    let long : length c.args.digest ≡ 32 = search rules in
    can_sign (server c.args._own) _ c.ranges._own.fits (c.ranges.r.fits, (c.ranges.i.fits, (long, told_few c.args.told))) tt
