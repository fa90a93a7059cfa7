use Rattle.dn_openings.proofs.DisciplineLemmas.{hears_keep, one_pads, one_shown}
use Rattle.dn_openings.proofs.laws.openings_keep_discipline.Goals as goal

pub returns-clause-hears : goal.returns-clause-hears
returns-clause-hears c = hears_keep

pub returns-clause-pads : goal.returns-clause-pads
returns-clause-pads c = one_pads

pub returns-clause-shown : goal.returns-clause-shown
returns-clause-shown c = one_shown
