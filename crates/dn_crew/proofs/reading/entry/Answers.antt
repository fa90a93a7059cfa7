use Rattle.std.proofs.Common.{◌∙◌, ap, sym, Some, arith}
use Rattle.dn_crew.proofs.LiveLemmas.{entry_at}
use Rattle.dn_crew.proofs.reading.entry.Goals as goal

pub returns-else-place-eq0 : goal.returns-else-place-eq0
returns-else-place-eq0 c = entry_at c.args.board.now.first c.args.board.now.posts c.args.place c.post.result.now (omega arith) (omega (arith, c.requires)) c.post.ensures ∙ ap Some (sym c.get.ensures)
