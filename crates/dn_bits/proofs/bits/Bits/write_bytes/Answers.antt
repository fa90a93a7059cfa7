use Rattle.std.proofs.Common.{◌++◌, map, ap, ◌∙◌, arith}
use Rattle.dn_bits.specs.Bits.{below, bytes_of}
use Rattle.dn_bits.specs.Words.{byte_of_words}
use Rattle.dn_bits.proofs.WordLemmas.{bytes_view}
use Rattle.dn_bits.proofs.bits.Bits.write_bytes.Goals as goal

pub returns-clause-ok : goal.returns-clause-ok
returns-clause-ok c =
    c.in_ok-extend_from_slice.ensures.items
    ∙ ap (λ bytes. c.args.out.now.items ++ bytes)
    (c.deref-2.ensures.value ∙ c.in_ok-bytes.ensures
    ∙ ap (λ words. map (byte_of_words words) (below c.div_ceil.result)) c.deref.ensures.value
    ∙ ap (λ count. map (byte_of_words c.self.inside.words.items) (below count)) (omega (arith, c.div_ceil.ensures))
    ∙ bytes_view c.self.inside.words.items c.self.inside.count c.self.invariant
    ∙ ap bytes_of c.self.view_is)
