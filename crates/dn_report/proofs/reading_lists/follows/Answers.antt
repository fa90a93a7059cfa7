use Rattle.std.proofs.Common.{sym, ◌∙◌}
use Rattle.dn_report.proofs.OrderLaws.{passed, failed, ended}
use Rattle.dn_report.proofs.reading_lists.follows.Goals as goal

pub returns-then-not-comes_before : goal.returns-then-not-comes_before
returns-then-not-comes_before c = failed c.loop-member.last _ c.args.rest.now c.loop-member.member-index _ c.loop-member-test.true (sym c.comes_before.ensures ∙ c.if-not-comes_before.true) c.loop-member.invariant

pub loop-member-preserved : goal.loop-member-preserved
loop-member-preserved c = passed c.loop-member.last _ c.args.rest.now c.loop-member.member-index _ c.loop-member-test.true (sym c.comes_before.ensures ∙ c.if-not-comes_before.false) c.loop-member.invariant

pub returns : goal.returns
returns c = ended c.loop-member.last c.args.rest.now c.loop-member.member-index _ c.loop-member-test.false c.loop-member.invariant
