use Rattle.std.proofs.Common.{◌≡◌, ◌∙◌, arith}
use Rattle.dn_ots.specs.Ots.{ots_public}
use Rattle.dn_ots.proofs.ParameterLemmas.{limits}
use Rattle.dn_ots.proofs.KeyLemmas.{opened, leaf_kept, went_on, held_none, held_more, key_from_held}
use Rattle.dn_ots.proofs.public_keys.ots_public.Goals as goal

pub overflow_cast-i : goal.overflow_cast-i
overflow_cast-i c =
    let l = limits c.args.params.code c.args.params.row.known in
    let p = c.args.params.row.count_is in
    omega arith

pub chains-init : goal.chains-init
chains-init c = (c.leaf_block-block.ensures, held_none c.leaf_hasher-hasher.result _ _ c.leaf_hasher-hasher.ensures)

pub chains-preserved : goal.chains-preserved
chains-preserved c =
    let id = c.args.id.now in
    let head = opened id c.chains.block c.start_chain.new.block c.args.q c.chains.i c.start_chain.ensures.head c.chains.invariant.0 in
    let value = went_on id c.args.seed.now c.start_chain.new.block c.run.new.block c.args.q c.chains.i c.last_step.result _ head c.start_chain.ensures.value c.run.ensures.value c.last_step.ensures in (
      leaf_kept id c.run.new.block c.args.q c.chains.i c.told-id (c.run.ensures.head ∙ head),
      held_more c.take_value.new.hasher _ _ _ c.chains.i (c.take_value.ensures _ c.chains.invariant.1) value,
    )

pub returns : goal.returns
unfolding ots_public
returns c =
    let end : c.chains.i ≡ c.args.params.p = omega arith in
    key_from_held c.args.id.now c.finalize.result c.args.q c.chains.i _ _ (c.finalize.ensures _ c.chains.invariant.1) (end ∙ c.args.params.row.count_is)
