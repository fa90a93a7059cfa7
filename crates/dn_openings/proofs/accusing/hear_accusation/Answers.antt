use Rattle.std.proofs.Common.{ap}
use Rattle.dn_server.specs.declared.answer.Answer.TheVariants as given
use Rattle.dn_openings.specs.Accusing.{opens}
use Rattle.dn_openings.proofs.accusing.hear_accusation.Goals as goal

pub returns : goal.returns
returns g c =
    let found = c.in-Ok.ensures.accepted in
    let so = found.2 in
    opens found.0 found.1 so.layout c.in-Ok.valid c.in_ok-acts.acts.items so.accused so.holds so.new so.leaves
    (c.in_ok-acts.ensures found.0 found.1 so.accused.body) (ap (λ l. given.Acts l) c.of.ensures)
