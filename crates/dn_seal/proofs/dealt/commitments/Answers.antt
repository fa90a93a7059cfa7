use Rattle.std.proofs.Common.{map, ℕ}
use Rattle.std.specs.List.{range_with_len}
use Rattle.dn_seal.specs.Dealt.{commitment_dealt_to}
use Rattle.dn_seal.proofs.ListLemmas.{row_more}
use Rattle.dn_seal.proofs.dealt.commitments.Goals as goal

pub loop-i-preserved : goal.loop-i-preserved
loop-i-preserved c = row_more (λ (i : ℕ). map (commitment_dealt_to c.args.spec.now i) (range_with_len 0 c.args.spec.now.servers)) c.loop-i.seals.items _ c.loop-i.i c.loop-i.invariant c.in_ok-put_commitments.ensures
