use Rattle.std.proofs.Common.{◌≡◌, ◌∙◌, ◌<◌, ◌++◌, ℕ, List, take, drop, ap, arith, append_assoc}
use Rattle.std.specs.Int.{w32, to_be_bytes}
use Rattle.dn_ots.specs.Ots.{ots_signature, randomizer, joined}
use Rattle.dn_ots.specs.Parameters.{chain_count}
use Rattle.dn_ots.proofs.ParameterLemmas.{limits, chain_fields}
use Rattle.dn_ots.proofs.KeyLemmas.{opened, leaf_kept, went_on, tail_value, digit_is, sign_none, sign_more, signed}
use Rattle.dn_ots.proofs.signatures.append_signature.Goals as goal

pub overflow_cast-i : goal.overflow_cast-i
overflow_cast-i c =
    let l = limits c.args.params.code c.args.params.row.known in
    let p = c.args.params.row.count_is in
    omega arith

pub chains-init : goal.chains-init
chains-init c =
    let old = c.args.out.now.items in
    let code = to_be_bytes w32 c.args.params.code in
    let first : c.extend_from_slice.new.self.items ≡ old ++ code =
    c.in_ok-extend_from_slice.ensures.items ∙ ap (λ (x : List ℕ). old ++ x) c.to_be_bytes.ensures in
    let second : c.extend_from_slice-2.new.self.items ≡ old ++ code ++ randomizer c.args.id.now c.args.q c.args.seed.now =
    c.in_ok-extend_from_slice-2.ensures.items ∙ ap (λ (x : List ℕ). x ++ c.randomizer-c.result) first ∙ ap (λ (x : List ℕ). old ++ code ++ x) c.randomizer-c.ensures in
    (c.leaf_block-block.ensures, sign_none (old ++ code ++ randomizer c.args.id.now c.args.q c.args.seed.now) c.extend_from_slice-2.new.self.items _ second)

pub coef-requires-clause-within : goal.coef-requires-clause-within
coef-requires-clause-within c =
    let lt : c.chains.i < chain_count c.args.params.code = omega (arith, c.args.params.row.count_is) in
    rw (c.args.params.row.width_is, c.with_checksum-digits.ensures.long) (chain_fields c.args.params.code c.args.params.row.known c.chains.i lt)

pub chains-preserved : goal.chains-preserved
chains-preserved c =
    let id = c.args.id.now in
    let head = opened id c.chains.block c.start_chain.new.block c.args.q c.chains.i c.start_chain.ensures.head c.chains.invariant.0 in
    let steps = digit_is c.args.params.code id (randomizer id c.args.q c.args.seed.now) _ c.args.msg.now c.with_checksum-digits.result c.message_hash.result
    c.args.q c.chains.i c.coef.result c.coef.ensures c.with_checksum-digits.ensures.value c.message_hash.ensures c.randomizer-c.ensures in
    let value = went_on id c.args.seed.now c.start_chain.new.block c.run.new.block c.args.q c.chains.i c.coef.result _ head c.start_chain.ensures.value c.run.ensures.value steps in (
      leaf_kept id c.run.new.block c.args.q c.chains.i c.told-id (c.run.ensures.head ∙ head),
      sign_more (c.args.out.now.items ++ to_be_bytes w32 c.args.params.code ++ randomizer id c.args.q c.args.seed.now) c.extend_from_slice-in-chains.new.self.items _
          (signed c.args.params.code id c.args.q c.args.seed.now c.args.msg.now) c.chains.i
          (c.in_ok-extend_from_slice-3.ensures.items ∙ ap (λ (x : List ℕ). x ++ take 32 (drop 23 c.run.new.block)) c.chains.invariant.1) (tail_value c.run.new.block c.run.array_long ∙ value),
    )

pub returns : goal.returns
unfolding ots_signature
returns c =
    let old = c.args.out.now.items in
    let code = to_be_bytes w32 c.args.params.code in
    let random = randomizer c.args.id.now c.args.q c.args.seed.now in
    let values = signed c.args.params.code c.args.id.now c.args.q c.args.seed.now c.args.msg.now in
    let end : c.chains.i ≡ c.args.params.p = omega arith in
    c.chains.invariant.1 ∙ ap (λ (n : ℕ). old ++ code ++ random ++ joined values n) (end ∙ c.args.params.row.count_is)
    ∙ ap (λ (x : List ℕ). x ++ joined values (chain_count c.args.params.code)) (append_assoc old code random)
    ∙ append_assoc old (code ++ random) (joined values (chain_count c.args.params.code))
