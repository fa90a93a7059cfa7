use Rattle.std.proofs.Common.{◌≡◌, ◌-◌}
use Rattle.dn_record_types.specs.Lists.{read_list}
use Rattle.dn_record_reading.proofs.Loop.{with_front}
use Rattle.dn_record_reading.proofs.reading_lists.list_of.Given as goal

abbrev pub invariant-loop : goal.invariant-loop
invariant-loop g l =
    with_front l.list.items (read_list g.T.ReadItem.read g.T.ReadItem.next (l.count - l.counter) l.floor l.reader)
    ≡ read_list g.T.ReadItem.read g.T.ReadItem.next l.count 0 l.initial.reader
