use Rattle.std.proofs.Common.{◌≡◌, ◌*◌, ◌++◌, length, ap, ◌∙◌, arith, take, map}
use Rattle.std.proofs.lemmas.List.FromFn.{take-map-range_with_len}
use Rattle.dn_bits.specs.Bits.{below}
use Rattle.dn_bits.specs.Words.{byte_of_words}
use Rattle.dn_bits.proofs.WordByteLemmas.{bytes_more}
use Rattle.dn_bits.proofs.bytes.bytes_of_words.Goals as goal

pub loop-word-preserved : goal.loop-word-preserved
loop-word-preserved c =
    c.in_ok-extend_from_slice.ensures.items ∙ ap (λ bytes. bytes ++ c.to_be_bytes.result) c.loop-word.invariant
    ∙ ap (λ bytes. map (byte_of_words c.args.words.now) (below (8 * c.loop-word.word-index)) ++ bytes) c.to_be_bytes.ensures
    ∙ bytes_more c.args.words.now c.loop-word.word-index

pub returns : goal.returns
returns c =
    let all : c.loop-word.word-index ≡ length c.args.words.now = omega arith in
    c.truncate.ensures.items ∙ ap (take c.args.count) c.loop-word.invariant
    ∙ take-map-range_with_len (byte_of_words c.args.words.now) 0 (8 * c.loop-word.word-index) c.args.count (omega (arith, c.requires))
