use Rattle.std.proofs.Common.{All}
use Rattle.dn_seal.specs.Said.{IsUnder}
use Rattle.played_rounds.proofs.judging.repeated.Given as goal

abbrev pub invariant-loop-n : goal.invariant-loop-n
invariant-loop-n l = All (IsUnder l.roster) l.heard.items
