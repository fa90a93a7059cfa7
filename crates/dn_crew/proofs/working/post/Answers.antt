use Rattle.std.proofs.Common.{◌∙◌, ap, sym, length, arith}
use Rattle.dn_board.proofs.Places.{last_low}
use Rattle.dn_crew.proofs.working.post.Goals as goal

pub read_from-found-requires : goal.read_from-found-requires
read_from-found-requires c = omega (arith, c.last-read.ensures, last_low c.number.result c.log.result.now.posts, ap (λ b. length b.posts) (c.log.ensures ∙ sym c.log-2.ensures))
