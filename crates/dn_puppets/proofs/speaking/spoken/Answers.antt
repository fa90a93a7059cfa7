use Rattle.std.proofs.Common.{◌≤◌, length, ap, arith}
use Rattle.dn_puppets.proofs.Signable.{short_signable}
use Rattle.dn_puppets.proofs.speaking.spoken.Goals as goal

pub returns-in-Ok-clause-signable : goal.returns-in-Ok-clause-signable
returns-in-Ok-clause-signable c =
    let long = ap length c.in-Ok.ensures.found.1 in
    short_signable c.in-Ok.statement c.in-Ok.ensures.found.0 (omega (arith, long))
