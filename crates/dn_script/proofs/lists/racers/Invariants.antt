use Rattle.std.proofs.Common.{◌≡◌, ◌+◌, ◌<◌, ◌^◌, length}
use Rattle.dn_script.specs.Judged.{honest_client, seen_as}
use Rattle.dn_script.specs.Row.{read_every}
use Rattle.dn_script.proofs.RowLaws.{with_front}
use Rattle.dn_script.proofs.lists.racers.Given as goal

abbrev pub invariant-loop-text : goal.invariant-loop-text
invariant-loop-text l =
    (with_front l.list.items (read_every (honest_client (seen_as l.group)) l.n l.words) ≡ read_every (honest_client (seen_as l.group)) l.first l.initial.words)
    × (l.n + length l.words < 2 ^ 32)

abbrev pub decreases-loop-text : goal.decreases-loop-text
decreases-loop-text l = length l.words
