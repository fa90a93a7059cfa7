use Rattle.dn_lines.proofs.FormLaws.{cut_of_parts, cut_none}
use Rattle.dn_lines.proofs.cutting.halves.Goals as goal

pub returns-in_err-before : goal.returns-in_err-before
returns-in_err-before c = rw c.from_residual.ensures (cut_none c.args.byte c.args.text.now c.in_err-before.ensures)

pub returns : goal.returns
returns c =
    let parts = c.in_ok-before.ensures in
    rw parts.0 (cut_of_parts c.args.byte c.in_ok-before.before.now c.in_ok-before.behind.now parts.1)
