use Rattle.std.proofs.Common.{◌≡◌, ◌<◌, ◌^◌, length}
use Rattle.std.specs.Prelude.{All}
use Rattle.dn_openings.specs.Evidence.{AreEnvelopes}
use Rattle.dn_openings.proofs.looking.envelopes.Given as goal

abbrev pub invariant-loop-j : goal.invariant-loop-j
invariant-loop-j l = AreEnvelopes l.kept l.place l.j l.list.items × (length l.list.items ≡ l.j) × All (λ e. length e < 2 ^ 32) l.list.items
