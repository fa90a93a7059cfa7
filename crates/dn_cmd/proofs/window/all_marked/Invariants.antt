use Rattle.std.proofs.Common.{◌≡◌, ℕ, Bool, map}
use Rattle.std.specs.Prelude.{filter}
use Rattle.dn_bits.specs.Bits.{below}
use Rattle.dn_cmd.proofs.window.all_marked.Given as goal

abbrev pub invariant-loop-client : goal.invariant-loop-client
invariant-loop-client l = (f : ℕ → Bool) → l.marks ≡ map f (below l.clients) → l.marked.items ≡ filter f (below l.client)
