use Rattle.std.proofs.Common.{◌≡◌, ◌++◌, List, ℕ, take, ap, ◌∙◌, arith}
use Rattle.dn_ots.specs.Chain.{leaf_head}
use Rattle.dn_ots.proofs.BlockLemmas.{take_put}
use Rattle.dn_ots.proofs.block.leaf_block.Goals as goal

pub returns : goal.returns
unfolding leaf_head
returns c =
    let front : take 16 c.put.new.block ≡ c.args.id.now = take_put _ c.put.new.block c.args.id.now 0 16 c.put.ensures (omega arith) (omega arith) in
    take_put c.put.new.block c.put-2.new.block _ 16 20 c.put-2.ensures (omega arith) (omega arith)
    ∙ ap (λ (x : List ℕ). x ++ c.to_be_bytes.result) front ∙ ap (λ (x : List ℕ). c.args.id.now ++ x) c.to_be_bytes.ensures
