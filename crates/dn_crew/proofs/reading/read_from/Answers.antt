use Rattle.std.proofs.Common.{◌==◌, ◌∙◌, ◌++◌, ap, sym, arith}
use Rattle.std.specs.List.{filter}
use Rattle.dn_crew.specs.Live.{payloads_of}
use Rattle.dn_crew.proofs.LiveLemmas.{between_more}
use Rattle.dn_crew.proofs.reading.read_from.Goals as goal

pub loop-place-preserved : goal.loop-place-preserved
loop-place-preserved c =
    c.in_ok-put_mine.ensures ∙ ap (λ l. l ++ payloads_of (filter (λ m. m.to.0 == c.args.j.0) c.entry.result.now)) c.loop-place.invariant
    ∙ sym (between_more c.args.board.now.first c.args.board.now.posts c.args.j.0 c.args.from c.loop-place.place c.entry.result.now (omega arith) c.entry.ensures)
