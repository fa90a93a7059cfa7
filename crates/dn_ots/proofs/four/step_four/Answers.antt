use Rattle.std.proofs.Common.{lit<}
use Rattle.dn_ots.proofs.BlockLemmas.{below_four, head_of_step, value_of_step}
use Rattle.dn_ots.proofs.four.step_four.Goals as goal

pub returns-clause-head : goal.returns-clause-head
returns-clause-head c = below_four _
    (head_of_step _ c.with_step.result c.with_value.result c.args.j c.with_step.ensures.block c.with_step.ensures.long c.with_value.ensures.head)
    (head_of_step _ c.with_step-2.result c.with_value-2.result c.args.j c.with_step-2.ensures.block c.with_step-2.ensures.long c.with_value-2.ensures.head)
    (head_of_step _ c.with_step-3.result c.with_value-3.result c.args.j c.with_step-3.ensures.block c.with_step-3.ensures.long c.with_value-3.ensures.head)
    (head_of_step _ c.with_step-4.result c.with_value-4.result c.args.j c.with_step-4.ensures.block c.with_step-4.ensures.long c.with_value-4.ensures.head)

pub returns-clause-value : goal.returns-clause-value
returns-clause-value c = below_four _
    (value_of_step _ c.with_step.result c.with_value.result _ c.args.j c.with_step.ensures.block c.with_step.ensures.long (c.digest4-values.ensures 0 (lit< tt)) c.with_value.ensures.value)
    (value_of_step _ c.with_step-2.result c.with_value-2.result _ c.args.j c.with_step-2.ensures.block c.with_step-2.ensures.long (c.digest4-values.ensures 1 (lit< tt)) c.with_value-2.ensures.value)
    (value_of_step _ c.with_step-3.result c.with_value-3.result _ c.args.j c.with_step-3.ensures.block c.with_step-3.ensures.long (c.digest4-values.ensures 2 (lit< tt)) c.with_value-3.ensures.value)
    (value_of_step _ c.with_step-4.result c.with_value-4.result _ c.args.j c.with_step-4.ensures.block c.with_step-4.ensures.long (c.digest4-values.ensures 3 (lit< tt)) c.with_value-4.ensures.value)
