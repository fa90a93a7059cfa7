use Rattle.std.proofs.Common.{◌≡◌, ◌++◌, take}
use Rattle.dn_crew.specs.Live.{letters_of}
use Rattle.dn_crew.proofs.delivering.put_acts.Given as goal

abbrev pub invariant-loop-act : goal.invariant-loop-act
invariant-loop-act l = l.made.items ≡ l.fn.made.items ++ letters_of l.servers l.from (take l.act-index l.did)
