use Rattle.std.proofs.Common.{◌≡◌, drop}
use Rattle.dn_report.specs.Forms.{follows}
use Rattle.dn_report.proofs.reading_lists.follows.Given as goal

abbrev pub invariant-loop-member : goal.invariant-loop-member
invariant-loop-member l = follows l.last (drop l.member-index l.rest) ≡ follows l.fn.first l.rest
