use Rattle.std.proofs.Common.{arith}
use Rattle.dn_ots.proofs.ParameterLemmas.{limits, field_within, fields_in_byte}
use Rattle.dn_ots.proofs.DigitLemmas.{coef_by_mask}
use Rattle.dn_ots.proofs.digits.coef.Goals as goal

pub overflow_mul-result : goal.overflow_mul-result
overflow_mul-result c = omega arith

pub nonzero_rem-result : goal.nonzero_rem-result
nonzero_rem-result c = rw c.args.params.row.width_is (fields_in_byte c.args.params.code c.args.params.row.known)

pub overflow_mul-result-2 : goal.overflow_mul-result-2
overflow_mul-result-2 c =
    let within = field_within c.args.params.code c.args.params.row.known c.args.i in
    rw c.args.params.row.width_is (omega arith)

pub overflow_add-result : goal.overflow_add-result
overflow_add-result c =
    let within = field_within c.args.params.code c.args.params.row.known c.args.i in
    rw c.args.params.row.width_is (omega arith)

pub overflow_sub-result : goal.overflow_sub-result
overflow_sub-result c = rw c.args.params.row.width_is (field_within c.args.params.code c.args.params.row.known c.args.i)

pub returns : goal.returns
returns c = rw c.args.params.row.width_is (coef_by_mask c.args.s.now c.args.i c.args.params.code c.last_step.result c.last_step.ensures)

pub nonzero_div-result-2 : goal.nonzero_div-result-2
nonzero_div-result-2 c = rw c.args.params.row.width_is (limits c.args.params.code c.args.params.row.known).positive

pub overflow_shr-result : goal.overflow_shr-result
overflow_shr-result c =
    let l = limits c.args.params.code c.args.params.row.known in
    let w = c.args.params.row.width_is in
    omega arith
