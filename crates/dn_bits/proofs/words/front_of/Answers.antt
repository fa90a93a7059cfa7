use Rattle.std.proofs.Common.{arith}
use Rattle.dn_bits.proofs.FrontLemmas.{front_bit}
use Rattle.dn_bits.proofs.words.front_of.Goals as goal

pub returns-then-count-lt64 : goal.returns-then-count-lt64
returns-then-count-lt64 c = λ k. front_bit c.args.word c.args.count k (omega arith) c.if-count-lt64.true
