use Rattle.std.proofs.Common.{◌≡◌, map, take, get_or, []}
use Rattle.dn_rounds.proofs.committing.seeds_for.Given as goal

abbrev pub invariant-loop-row : goal.invariant-loop-row
invariant-loop-row l = l.all.items ≡ map (λ x. get_or l.seeds x.client.0 []) (take l.row-index l.listed)
