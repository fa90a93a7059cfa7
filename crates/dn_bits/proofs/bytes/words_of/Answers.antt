use Rattle.dn_bits.proofs.WordByteLemmas.{filled_more}
use Rattle.dn_bits.proofs.bytes.words_of.Goals as goal

pub loop-i-preserved : goal.loop-i-preserved
loop-i-preserved c =
    rw c.in_ok-push.ensures.items
    (filled_more c.loop-i.words.items c.args.bytes.now c.args.n c.loop-i.i c.word_at-word.result c.front_of.result c.loop-i.invariant
    c.word_at-word.ensures c.front_of.ensures)
