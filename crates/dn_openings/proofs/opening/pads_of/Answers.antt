use Rattle.std.proofs.Common.{◌≤◌, length, arith}
use Rattle.dn_record_types.specs.declared.statement.Statement.TheVariants as kinds
use Rattle.dn_seal.specs.Dealt.{server}
use Rattle.dn_seal.proofs.SizeLemmas.{can_sign}
use Rattle.dn_wire.specs.declared.limits.TheConstants.{MAX_BITS}
use Rattle.dn_openings.proofs.opening.pads_of.Goals as goal

pub returns-clause-fits : goal.returns-clause-fits
returns-clause-fits c =
    let long : length c.args.bits ≤ MAX_BITS = omega arith in
    can_sign (server c.args.own) (kinds.PadBits record { 0 = c.args.r } c.args.k c.args.bits) c.ranges.own.fits
    (c.ranges.r.fits, (c.ranges.k.fits, long)) tt
