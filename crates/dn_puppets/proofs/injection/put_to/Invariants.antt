use Rattle.std.proofs.Common.{◌≡◌, ◌++◌, take}
use Rattle.dn_puppets.specs.Injections.{put_by}
use Rattle.dn_puppets.proofs.injection.put_to.Given as goal

abbrev pub invariant-loop-member : goal.invariant-loop-member
invariant-loop-member l = l.out.items ≡ l.initial.out.items ++ put_by l.from l.payload (take l.member-index l.to)
