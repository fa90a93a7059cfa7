use Rattle.std.proofs.Common.{sym, ◌∙◌}
use Rattle.dn_lines.specs.Fields.{member}
use Rattle.dn_lines.specs.Form.{read_each}
use Rattle.dn_lines.proofs.Loop.{goes_on, refused, is_done}
use Rattle.dn_report.proofs.reading_lists.member_list.Goals as goal

pub returns-in_default-member : goal.returns-in_default-member
returns-in_default-member c =
    refused member.read c.loop-text.list.items c.in-Some.text.now c.loop-text.fields c.take.new.self (read_each member.read c.args.fields.now) c.in-Some.ensures (sym c.member.ensures ∙ c.in_default-member.is) c.loop-text.invariant

pub loop-text-preserved : goal.loop-text-preserved
loop-text-preserved c =
    rw c.in_ok-push.ensures.items (goes_on member.read c.loop-text.list.items c.in-Some.text.now c.loop-text.fields c.take.new.self c.in-Some-member.member (read_each member.read c.args.fields.now) c.in-Some.ensures (sym c.member.ensures ∙ c.in-Some-member.is) c.loop-text.invariant)

pub returns : goal.returns
returns c = is_done member.read c.loop-text.list.items c.loop-text.fields (read_each member.read c.args.fields.now) c.in_default.ensures c.loop-text.invariant
