use Rattle.std.proofs.Common.{◌≡◌, take}
use Rattle.dn_crew.specs.Given.{reads_of}
use Rattle.dn_crew.proofs.given.Reads.of.Given as goal

abbrev pub invariant-loop-post : goal.invariant-loop-post
invariant-loop-post l = l.held.items ≡ reads_of (take l.post-index l.posts)
