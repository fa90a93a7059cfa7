use Rattle.std.proofs.Common.{◌≡◌, ℕ, List}
use Rattle.dn_board.specs.declared.letters.Letter.{Letter}
use Rattle.dn_crew.specs.Workers.{IsAt}
use Rattle.dn_crew.proofs.working.take_turns.Given as goal

abbrev pub invariant-loop-turn : goal.invariant-loop-turn
invariant-loop-turn g l = record {
  seat : l.worker.core.seat ≡ l.fn.worker.core.seat;
  at : (first : List Letter) (w : ℕ) → IsAt l.lock l.roster l.servers first w l.fn.worker.core 0 l.fn.worker.pass l.fn.worker.core l.fn.worker.inbox.items
      → IsAt l.lock l.roster l.servers first w l.fn.worker.core l.turn l.worker.pass l.worker.core l.worker.inbox.items;
}
