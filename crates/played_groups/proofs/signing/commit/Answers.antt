use Rattle.std.proofs.Common.{◌≡◌, length, rules}
use Rattle.dn_rounds.proofs.Lengths.{can_commit}
use Rattle.played_groups.proofs.signing.commit.Goals as goal

pub returns : goal.returns
returns c =
    let long : length c.args.digest ≡ 32 = search rules in
    can_commit c.args._own record { 0 = c.args.r } c.args.digest c.ranges._own.fits c.ranges.r.fits long
