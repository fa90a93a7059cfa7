use Rattle.dn_verify.proofs.OpeningLemmas.{opened_under}
use Rattle.dn_verify.proofs.opening.open.Goals as goal

pub returns-in-Ok : goal.returns-in-Ok
returns-in-Ok c =
    let h = c.in-Ok.ensures.opened in
    record { under = opened_under c.args.roster.now h.0 c.in-Ok.opened h.3; content = h }
