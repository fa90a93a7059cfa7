use Rattle.std.proofs.Common.{length}
use Rattle.dn_crew.specs.Shares.{IsGathered}
use Rattle.dn_crew.proofs.gathering.gather.Given as goal

abbrev pub invariant-loop-share : goal.invariant-loop-share
invariant-loop-share l =
    (goal.iterator-loop-share).can_next l.share-iterator ×
    (goal.iterator-loop-share).is_finite l.share-iterator ×
    IsGathered l.gate l._list l._workers (length l.yielded) l.fn.closer.closing l.fn.closer.refused l.all.pass l.all.draws.items l.all.repeats.items
