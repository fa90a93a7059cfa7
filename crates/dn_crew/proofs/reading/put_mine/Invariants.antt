use Rattle.std.proofs.Common.{◌≡◌, ◌==◌, ◌++◌, take}
use Rattle.std.specs.List.{filter}
use Rattle.dn_crew.specs.Live.{payloads_of}
use Rattle.dn_crew.proofs.reading.put_mine.Given as goal

abbrev pub invariant-loop-letter : goal.invariant-loop-letter
invariant-loop-letter l = l.found.items ≡ l.fn.found.items ++ payloads_of (filter (λ m. m.to.0 == l.j.0) (take l.letter-index l.letters))
