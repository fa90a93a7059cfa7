use Rattle.std.proofs.Common.{◌≡◌}
use Rattle.dn_crew.specs.Live.{payloads_of, letters_between}
use Rattle.dn_crew.proofs.reading.read_from.Given as goal

abbrev pub invariant-loop-place : goal.invariant-loop-place
invariant-loop-place l = l.found.items ≡ payloads_of (letters_between l.board.first l.board.posts l.j.0 l.from l.place)
