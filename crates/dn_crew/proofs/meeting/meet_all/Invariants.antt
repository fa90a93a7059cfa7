use Rattle.std.proofs.Common.{◌≡◌, List, None, length}
use Rattle.dn_board.specs.declared.letters.Letter.{Letter}
use Rattle.dn_server.specs.Server.{ServerView}
use Rattle.dn_crew.specs.Workers.{AreDone, IsMet}
use Rattle.dn_crew.proofs.meeting.meet_all.Given as goal

abbrev pub invariant-loop-worker : goal.invariant-loop-worker
invariant-loop-worker l =
    (goal.iterator-loop-worker).can_next l.worker-iterator ×
    (goal.iterator-loop-worker).is_finite l.worker-iterator ×
    (l.met.lock ≡ l.lock) × (l.met.turn ≡ None) ×
    ((first : List Letter) (cores : List ServerView) → AreDone l.lock l._roster l._servers first cores l._t l.fn.done.items → IsMet l.lock l._roster l._servers first cores l._t (length l.yielded) l.met)
