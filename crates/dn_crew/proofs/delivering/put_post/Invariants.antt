use Rattle.std.proofs.Common.{◌≡◌, ◌++◌, take}
use Rattle.std.specs.List.{filter_map}
use Rattle.dn_crew.specs.Live.{letter_to}
use Rattle.dn_crew.proofs.delivering.put_post.Given as goal

abbrev pub invariant-loop-member : goal.invariant-loop-member
invariant-loop-member l = l.made.items ≡ l.fn.made.items ++ filter_map (letter_to l.servers l.from l.payload) (take l.member-index l.to)
