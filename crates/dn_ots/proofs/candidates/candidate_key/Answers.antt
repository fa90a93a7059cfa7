use Rattle.std.proofs.Common.{◌≡◌, ◌∙◌, ◌+◌, ◌*◌, ◌-◌, ◌<◌, ℕ, take, drop, ap, refl, arith}
use Rattle.dn_ots.specs.Ots.{ots_candidate, randomizer_in, value_in}
use Rattle.dn_ots.specs.Parameters.{chain_count}
use Rattle.dn_ots.proofs.ParameterLemmas.{limits, chain_fields}
use Rattle.dn_ots.proofs.DigitLemmas.{coef_small}
use Rattle.dn_ots.proofs.KeyLemmas.{opened, leaf_kept, digit_is, rest_of, held_none, held_more, key_from_held}
use Rattle.dn_ots.proofs.candidates.candidate_key.Goals as goal

pub overflow_cast-i : goal.overflow_cast-i
overflow_cast-i c =
    let l = limits c.args.params.code c.args.params.row.known in
    let p = c.args.params.row.count_is in
    omega arith

pub slice_bounds-message_hash-end : goal.slice_bounds-message_hash-end
slice_bounds-message_hash-end c =
    let l = limits c.args.params.code c.args.params.row.known in
    let n = c.args.params.row.length_is in
    omega arith

pub chains-init : goal.chains-init
chains-init c = (c.leaf_block-block.ensures, held_none c.leaf_hasher-hasher.result _ _ c.leaf_hasher-hasher.ensures)

pub slice_bounds-open_chain-end : goal.slice_bounds-open_chain-end
slice_bounds-open_chain-end c =
    let l = limits c.args.params.code c.args.params.row.known in
    let n = c.args.params.row.length_is in
    let p = c.args.params.row.count_is in
    omega arith

pub coef-requires-clause-within : goal.coef-requires-clause-within
coef-requires-clause-within c =
    let lt : c.chains.i < chain_count c.args.params.code = omega (arith, c.args.params.row.count_is) in
    rw (c.args.params.row.width_is, c.with_checksum-digits.ensures.long) (chain_fields c.args.params.code c.args.params.row.known c.chains.i lt)

pub run-requires : goal.run-requires
run-requires c = rw (c.coef.ensures, c.last_step.ensures) (coef_small _ c.chains.i c.args.params.code c.args.params.row.known)

pub chains-preserved : goal.chains-preserved
chains-preserved c =
    let id = c.args.id.now in
    let head = opened id c.chains.block c.open_chain.new.block c.args.q c.chains.i c.open_chain.ensures.head c.chains.invariant.0 in
    let steps = digit_is c.args.params.code id (randomizer_in c.args.sig.now) _ c.args.msg.now c.with_checksum-digits.result c.message_hash.result
    c.args.q c.chains.i c.coef.result c.coef.ensures c.with_checksum-digits.ensures.value c.message_hash.ensures refl in
    let at = 36 + 32 * c.chains.i in
    let long : at + 32 - at ≡ 32 = omega arith in
    let part : drop 23 c.open_chain.new.block ≡ value_in c.args.sig.now c.chains.i =
    c.open_chain.ensures.value ∙ ap (λ (n : ℕ). take n (drop at c.args.sig.now)) long in
    let value = rest_of id c.open_chain.new.block c.run.new.block (value_in c.args.sig.now c.chains.i) c.args.q c.chains.i c.coef.result c.last_step.result _ _ head part c.run.ensures.value steps c.last_step.ensures in (
      leaf_kept id c.run.new.block c.args.q c.chains.i c.told-id (c.run.ensures.head ∙ head),
      held_more c.take_value.new.hasher _ _ _ c.chains.i (c.take_value.ensures _ c.chains.invariant.1) value,
    )

pub returns : goal.returns
unfolding ots_candidate
returns c =
    let end : c.chains.i ≡ c.args.params.p = omega arith in
    key_from_held c.args.id.now c.finalize.result c.args.q c.chains.i _ _ (c.finalize.ensures _ c.chains.invariant.1) (end ∙ c.args.params.row.count_is)
