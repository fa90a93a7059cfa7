use Rattle.std.proofs.Common.{◌≡◌, take}
use Rattle.dn_crew.proofs.posts.Posts.of.Given as goal

abbrev pub invariant-loop-each : goal.invariant-loop-each
invariant-loop-each l = l.held.items ≡ take l.each-index l.posts
