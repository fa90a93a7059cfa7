use Rattle.dn_lines.proofs.FormLaws.{first_field, only_field}
use Rattle.dn_lines.proofs.fields.Fields.take.Goals as goal

pub returns-in-Some : goal.returns-in-Some
returns-in-Some c =
    let was = c.in_ok-line.was in let e = c.in-Some.ensures in let v = c.self.view_is in
    rw (← v, was) (first_field c.in_ok-line.line.now c.in-Some.first.now c.in-Some.rest.now e.0 e.1)

pub returns-in-None : goal.returns-in-None
returns-in-None c =
    let was = c.in_ok-line.was in let v = c.self.view_is in
    rw (← v, was) (only_field c.in_ok-line.line.now c.in-None.ensures)
