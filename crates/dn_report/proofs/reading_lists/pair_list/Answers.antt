use Rattle.std.proofs.Common.{sym, ◌∙◌}
use Rattle.dn_report.specs.Forms.{pair}
use Rattle.dn_lines.specs.Form.{read_each}
use Rattle.dn_lines.proofs.Loop.{goes_on, refused, is_done}
use Rattle.dn_report.proofs.reading_lists.pair_list.Goals as goal

pub returns-in_default-pair : goal.returns-in_default-pair
returns-in_default-pair c =
    refused pair.read c.loop-text.list.items c.in-Some.text.now c.loop-text.fields c.take.new.self (read_each pair.read c.args.fields.now) c.in-Some.ensures (sym c.pair.ensures ∙ c.in_default-pair.is) c.loop-text.invariant

pub loop-text-preserved : goal.loop-text-preserved
loop-text-preserved c =
    rw c.in_ok-push.ensures.items (goes_on pair.read c.loop-text.list.items c.in-Some.text.now c.loop-text.fields c.take.new.self c.in-Some-pair.pair (read_each pair.read c.args.fields.now) c.in-Some.ensures (sym c.pair.ensures ∙ c.in-Some-pair.is) c.loop-text.invariant)

pub returns : goal.returns
returns c = is_done pair.read c.loop-text.list.items c.loop-text.fields (read_each pair.read c.args.fields.now) c.in_default.ensures c.loop-text.invariant
