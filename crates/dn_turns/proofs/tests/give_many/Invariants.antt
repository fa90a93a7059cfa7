use Rattle.std.proofs.Common.{◌≡◌, ◌≤◌, None}
use Rattle.dn_turns.proofs.tests.give_many.Given as goal

abbrev pub invariant-loop-entry : goal.invariant-loop-entry
invariant-loop-entry g l = record {
  lock : l.pass.lock ≡ l.lock;
  turn : l.pass.turn ≡ None;
  turns : l.turns ≤ l.entry;
}
