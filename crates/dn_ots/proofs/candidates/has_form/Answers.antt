use Rattle.std.proofs.Common.{◌≤◌, length, arith}
use Rattle.std.proofs.lemmas.List.{length-take-le}
use Rattle.dn_ots.proofs.ParameterLemmas.{limits}
use Rattle.dn_ots.proofs.candidates.has_form.Goals as goal

pub slice_bounds-eq-end : goal.slice_bounds-eq-end
slice_bounds-eq-end c =
    let l = limits c.args.params.code c.args.params.row.known in
    let n = c.args.params.row.length_is in
    let enough : 4 ≤ length c.args.sig.now = omega arith in
    omega (arith, length-take-le 4 c.args.sig.now enough)
