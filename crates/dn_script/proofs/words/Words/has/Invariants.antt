use Rattle.std.proofs.Common.{◌≡◌, ◌+◌, ◌≤◌, length}
use Rattle.dn_script.proofs.words.Words.has.Given as goal

abbrev pub invariant-loop-words : goal.invariant-loop-words
invariant-loop-words l = (l.count + length l.words ≡ length l.self) × (l.count ≤ l.high)

abbrev pub decreases-loop-words : goal.decreases-loop-words
decreases-loop-words l = length l.words
