use Rattle.std.proofs.Common.{sym, ◌∙◌}
use Rattle.dn_script.proofs.WordsLaws.{first_taken}
use Rattle.dn_script.proofs.words.Words.take.Goals as goal

pub returns : goal.returns
returns c =
    let v = c.self.view_is in
    sym v ∙ (sym c.without_gap-line.ensures.same
    ∙ first_taken c.without_gap-line.result.now c.split_at.result.0.now c.split_at.result.1.now c.word_length.result c.word_length.ensures.within
    (sym c.is_empty.ensures ∙ c.if-is_empty.false) c.without_gap-line.ensures.word c.word_length.ensures.word c.word_length.ensures.end c.split_at.ensures.front c.split_at.ensures.back)
