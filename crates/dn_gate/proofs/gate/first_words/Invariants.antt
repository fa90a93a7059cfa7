use Rattle.std.proofs.Common.{◌≡◌, ◌+◌, ◌<◌, ℕ, length, get_or, take}
use Rattle.dn_gate.specs.Rule.{was}
use Rattle.dn_gate.specs.Pass.{numbers_of}
use Rattle.dn_gate.proofs.gate.first_words.Given as goal

abbrev pub invariant-loop-client : goal.invariant-loop-client
invariant-loop-client l = record {
  long : length l.words.items ≡ l.clients + 1;
  control : get_or l.words.items 0 0 ≡ 0;
  each : (i : ℕ) → i < l.clients → get_or l.words.items (i + 1) 0 ≡ was (numbers_of (take l.client-index l.before)) i;
}
