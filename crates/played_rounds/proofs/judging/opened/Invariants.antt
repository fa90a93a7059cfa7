use Rattle.std.proofs.Common.{All}
use Rattle.dn_seal.specs.Said.{IsUnder}
use Rattle.played_rounds.proofs.judging.opened.Given as goal

abbrev pub invariant-loop-envelope : goal.invariant-loop-envelope
invariant-loop-envelope l = All (IsUnder l.roster) l.heard.items
