use Rattle.std.proofs.Common.{arith}
use Rattle.dn_bits.proofs.WordByteLemmas.{word_from}
use Rattle.dn_bits.proofs.bytes.word_at.Goals as goal

pub returns-then-at-bytes : goal.returns-then-at-bytes
returns-then-at-bytes c = word_from c.args.bytes.now c.args.at _ (λ i. omega (arith, c.type_inv.bytes i)) c.from_be_bytes.ensures

pub returns-else-at-bytes : goal.returns-else-at-bytes
returns-else-at-bytes c =
    word_from c.args.bytes.now c.args.at _ (λ i. omega (arith, c.type_inv.bytes i)) (omega (arith, c.from_be_bytes-else-at-bytes.ensures))
