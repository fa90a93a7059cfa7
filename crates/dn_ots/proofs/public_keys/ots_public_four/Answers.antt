use Rattle.std.proofs.Common.{◌≡◌, ◌∙◌, ◌+◌, [], ◌∷◌, lit<, refl, arith}
use Rattle.std.specs.Prelude.{slice_index_or}
use Rattle.dn_ots.specs.Ots.{ots_public}
use Rattle.dn_ots.proofs.ParameterLemmas.{limits}
use Rattle.dn_ots.proofs.BlockLemmas.{below_four}
use Rattle.dn_ots.proofs.KeyLemmas.{lane_none, lane_more, lane_all}
use Rattle.dn_ots.proofs.public_keys.ots_public_four.Goals as goal

pub overflow_cast-i : goal.overflow_cast-i
overflow_cast-i c =
    let l = limits c.args.params.code c.args.params.row.known in
    let p = c.args.params.row.count_is in
    omega arith

pub chains-init : goal.chains-init
chains-init c =
    let id = c.args.id.now in
    let seed = c.args.seed.now in
    let code = c.args.params.code in (
      lane_none id seed c.leaf_block.result c.leaf_hasher-first.result code c.args.q c.leaf_block.ensures c.leaf_hasher-first.ensures,
      lane_none id seed c.leaf_block-2.result c.leaf_hasher-second.result code (c.args.q + 1) c.leaf_block-2.ensures c.leaf_hasher-second.ensures,
      lane_none id seed c.leaf_block-3.result c.leaf_hasher-third.result code (c.args.q + 2) c.leaf_block-3.ensures c.leaf_hasher-third.ensures,
      lane_none id seed c.leaf_block-4.result c.leaf_hasher-fourth.result code (c.args.q + 3) c.leaf_block-4.ensures c.leaf_hasher-fourth.ensures,
    )

pub chains-preserved : goal.chains-preserved
chains-preserved c =
    let id = c.args.id.now in
    let seed = c.args.seed.now in
    let code = c.args.params.code in (
      lane_more id seed (slice_index_or c.chains.blocks 0 []) (slice_index_or c.start_four-started.result 0 []) (slice_index_or c.run_four-blocks.result 0 [])
          c.chains.first c.take_value.new.hasher code c.args.q c.chains.i c.last_step.result c.told-id c.chains.invariant.0
          (c.start_four-started.ensures.head 0 (lit< tt)) (c.start_four-started.ensures.value 0 (lit< tt))
          (c.run_four-blocks.ensures.head 0 (lit< tt)) (c.run_four-blocks.ensures.value 0 (lit< tt)) c.last_step.ensures c.take_value.ensures,
      lane_more id seed (slice_index_or c.chains.blocks 1 []) (slice_index_or c.start_four-started.result 1 []) (slice_index_or c.run_four-blocks.result 1 [])
          c.chains.second c.take_value-in-chains.new.hasher code (c.args.q + 1) c.chains.i c.last_step.result c.told-id c.chains.invariant.1
          (c.start_four-started.ensures.head 1 (lit< tt)) (c.start_four-started.ensures.value 1 (lit< tt))
          (c.run_four-blocks.ensures.head 1 (lit< tt)) (c.run_four-blocks.ensures.value 1 (lit< tt)) c.last_step.ensures c.take_value-in-chains.ensures,
      lane_more id seed (slice_index_or c.chains.blocks 2 []) (slice_index_or c.start_four-started.result 2 []) (slice_index_or c.run_four-blocks.result 2 [])
          c.chains.third c.take_value-in-chains-2.new.hasher code (c.args.q + 2) c.chains.i c.last_step.result c.told-id c.chains.invariant.2
          (c.start_four-started.ensures.head 2 (lit< tt)) (c.start_four-started.ensures.value 2 (lit< tt))
          (c.run_four-blocks.ensures.head 2 (lit< tt)) (c.run_four-blocks.ensures.value 2 (lit< tt)) c.last_step.ensures c.take_value-in-chains-2.ensures,
      lane_more id seed (slice_index_or c.chains.blocks 3 []) (slice_index_or c.start_four-started.result 3 []) (slice_index_or c.run_four-blocks.result 3 [])
          c.chains.fourth c.take_value-in-chains-3.new.hasher code (c.args.q + 3) c.chains.i c.last_step.result c.told-id c.chains.invariant.3
          (c.start_four-started.ensures.head 3 (lit< tt)) (c.start_four-started.ensures.value 3 (lit< tt))
          (c.run_four-blocks.ensures.head 3 (lit< tt)) (c.run_four-blocks.ensures.value 3 (lit< tt)) c.last_step.ensures c.take_value-in-chains-3.ensures,
    )

pub returns : goal.returns
returns c =
    let id = c.args.id.now in
    let seed = c.args.seed.now in
    let code = c.args.params.code in
    let end : c.chains.i ≡ c.args.params.p = omega arith in
    let all = end ∙ c.args.params.row.count_is in
    let same : c.args.q + 0 ≡ c.args.q = omega arith in
    below_four (λ k. slice_index_or (c.finalize.result ∷ c.finalize-2.result ∷ c.finalize-3.result ∷ c.finalize-4.result ∷ []) k [] ≡ ots_public code id (c.args.q + k) seed)
    (lane_all id seed (slice_index_or c.chains.blocks 0 []) c.finalize.result c.chains.first code c.args.q _ c.chains.i c.chains.invariant.0 c.finalize.ensures all same)
    (lane_all id seed (slice_index_or c.chains.blocks 1 []) c.finalize-2.result c.chains.second code (c.args.q + 1) _ c.chains.i c.chains.invariant.1 c.finalize-2.ensures all refl)
    (lane_all id seed (slice_index_or c.chains.blocks 2 []) c.finalize-3.result c.chains.third code (c.args.q + 2) _ c.chains.i c.chains.invariant.2 c.finalize-3.ensures all refl)
    (lane_all id seed (slice_index_or c.chains.blocks 3 []) c.finalize-4.result c.chains.fourth code (c.args.q + 3) _ c.chains.i c.chains.invariant.3 c.finalize-4.ensures all refl)
