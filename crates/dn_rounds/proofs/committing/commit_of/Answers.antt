use Rattle.std.proofs.Common.{◌≡◌, length, rules}
use Rattle.dn_rounds.proofs.Lengths.{can_commit}
use Rattle.dn_rounds.proofs.committing.commit_of.Goals as goal

pub returns-clause-fits : goal.returns-clause-fits
returns-clause-fits c =
    let long : length c.args.digest ≡ 32 = search rules in
    can_commit c.args._own (record { 0 = c.args.r }) c.args.digest c.ranges._own.fits c.ranges.r.fits long
