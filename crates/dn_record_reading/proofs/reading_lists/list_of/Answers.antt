use Rattle.std.proofs.Common.{◌+◌, ◌-◌, ◌∙◌}
use Rattle.std.proofs.lemmas.Result.{err_from_is_err_and}
use Rattle.dn_record_types.specs.Lists.{read_list}
use Rattle.dn_record_reading.proofs.Loop.{with_front, begins, goes_on, ends, is_done}
use Rattle.dn_record_reading.proofs.reading_lists.list_of.Goals as goal

pub loop-init : goal.loop-init
loop-init g c = rw c.new-list.ensures.items (begins g.T.ReadItem.read g.T.ReadItem.next c.args.count 0 c.args.reader.now)

pub returns-in_err-item : goal.returns-in_err-item
returns-in_err-item g c =
    let p = err_from_is_err_and c.from_residual.result c.from_residual.ensures.1 in
    rw (p.1, p.2) (ends g.T.ReadItem.read g.T.ReadItem.next c.in_err-item.field-0.0 c.loop.list.items c.args.count c.loop.counter c.loop.floor c.loop.reader (read_list g.T.ReadItem.read g.T.ReadItem.next c.args.count 0 c.args.reader.now) c.loop-test.true c.in_err-item.ensures.value c.loop.invariant)

pub loop-preserved : goal.loop-preserved
loop-preserved g c =
    (λ i. with_front (c.in_ok-push.ensures.items i) (read_list g.T.ReadItem.read g.T.ReadItem.next (c.args.count - (c.loop.counter + 1)) (c.in_ok-item.ensures.floor i) c.read_item.new.reader))
    ∙ goes_on g.T.ReadItem.read g.T.ReadItem.next c.loop.list.items c.args.count c.loop.counter c.loop.floor c.loop.reader c.in_ok-item.item c.read_item.new.reader (read_list g.T.ReadItem.read g.T.ReadItem.next c.args.count 0 c.args.reader.now) c.loop-test.true c.in_ok-item.ensures.value c.loop.invariant

pub returns : goal.returns
returns g c = is_done g.T.ReadItem.read g.T.ReadItem.next c.loop.list.items c.args.count c.loop.counter c.loop.floor c.loop.reader (read_list g.T.ReadItem.read g.T.ReadItem.next c.args.count 0 c.args.reader.now) c.loop-test.false c.loop.invariant
