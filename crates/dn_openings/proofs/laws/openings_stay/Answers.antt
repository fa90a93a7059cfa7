use Rattle.dn_openings.proofs.StayLemmas.{can_hear}
use Rattle.dn_openings.proofs.DisciplineLemmas.{leaves_can, leaves_keeps}
use Rattle.dn_openings.proofs.laws.openings_stay.Goals as goal

pub returns-clause-hears : goal.returns-clause-hears
returns-clause-hears c = can_hear

pub returns-clause-can : goal.returns-clause-can
returns-clause-can c = leaves_can

pub returns-clause-keeps : goal.returns-clause-keeps
returns-clause-keeps c = leaves_keeps
