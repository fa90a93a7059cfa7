use Rattle.std.proofs.Common.{◌≡◌, map}
use Rattle.std.specs.List.{range_with_len}
use Rattle.dn_roster.specs.Owners.{client_id, numbered}
use Rattle.dn_roster.proofs.owners.numbered_clients.Given as goal

abbrev pub invariant-loop-i : goal.invariant-loop-i
invariant-loop-i l = l.clients.items ≡ map (λ i. numbered l.group.seed (client_id i)) (range_with_len 0 l.i)
