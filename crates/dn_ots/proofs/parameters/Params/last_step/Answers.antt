use Rattle.std.proofs.Common.{arith}
use Rattle.dn_ots.proofs.ParameterLemmas.{limits, last_step-byte}
use Rattle.dn_ots.proofs.parameters.Params.last_step.Goals as goal

pub overflow_sub-result : goal.overflow_sub-result
overflow_sub-result c = let l = limits c.args.self.code c.args.self.row.known in let w = c.args.self.row.width_is in omega arith

pub overflow_shr-result : goal.overflow_shr-result
overflow_shr-result c = let l = limits c.args.self.code c.args.self.row.known in let w = c.args.self.row.width_is in omega arith

pub returns : goal.returns
returns c = rw c.args.self.row.width_is (last_step-byte c.args.self.code c.args.self.row.known)
