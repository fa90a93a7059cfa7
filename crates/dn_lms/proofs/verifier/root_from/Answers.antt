use Rattle.std.proofs.Common.{◌+◌, ◌/◌, ◌∙◌, ℕ, List, length, take, sym, ap, arith}
use Rattle.dn_ots.specs.Ots.{ots_candidate}
use Rattle.dn_lms_definitions.proofs.Laws.{sizes}
use Rattle.dn_lms.specs.Signature.{lms_length}
use Rattle.dn_lms.proofs.VerifyLemmas.{ots_part, length-ots_part, take-ots_part, path_part_is, path_levels, root_is}
use Rattle.dn_lms.proofs.verifier.root_from.Goals as goal

pub number_at-q-requires : goal.number_at-q-requires
unfolding lms_length
number_at-q-requires c = omega (arith, c.requires.long)

pub slice_bounds-candidate-end : goal.slice_bounds-candidate-end
unfolding lms_length
slice_bounds-candidate-end c = omega (arith, c.requires.long, c.args.params.row.length_is)

pub returns-in_err-key : goal.returns-in_err-key
returns-in_err-key c =
    let code = c.args.params.code in
    let part = ots_part c.args.sig.now code c.args.params.sig_len c.args.params.row.length_is in
    rw c.from_residual.ensures (λ same. c.in_err-key.ensures.exact (
      ap length part ∙ length-ots_part c.args.sig.now c.args.lms code c.requires.long ∙ sym c.args.params.row.length_is,
      ap (take 4) part ∙ take-ots_part c.args.sig.now code c.args.params.row.known ∙ same,
    ))

pub overflow_add-r : goal.overflow_add-r
overflow_add-r c = let s = sizes c.args.lms c.requires.known in omega (arith, c.requires.leaf)

pub slice_bounds-climb-count : goal.slice_bounds-climb-count
unfolding lms_length
slice_bounds-climb-count c = omega (arith, c.requires.long, c.args.params.row.length_is)

pub slice_bounds-climb-start : goal.slice_bounds-climb-start
unfolding lms_length
slice_bounds-climb-start c = omega (arith, c.requires.long, c.args.params.row.length_is)

pub returns : goal.returns
returns c =
    let code = c.args.params.code in
    let part = ots_part c.args.sig.now code c.args.params.sig_len c.args.params.row.length_is in
    let path = path_part_is c.args.sig.now code c.args.params.sig_len c.args.params.row.length_is in
    let key = c.in_ok-key.ensures.exact.1 ∙ ap (ots_candidate code c.args.id.now c.number_at-q.result c.args.msg.now) part in
    let r = c.leaves_of.ensures in (
      sym (take-ots_part c.args.sig.now code c.args.params.row.known) ∙ sym (ap (take 4) part) ∙ c.in_ok-key.ensures.exact.0.1,
      root_is c.args.lms code c.args.id.now c.args.msg.now c.args.sig.now c.in_ok-key.key c.leaf_hash.result _ c.climb.result c.number_at-q.result
          (c.leaves_of.result + c.number_at-q.result) _ c.number_at-q.ensures (ap (λ (n : ℕ). n + c.number_at-q.result) r) key c.leaf_hash.ensures path
          (ap (λ (x : List ℕ). length x / 32) path ∙ path_levels c.args.sig.now c.args.lms code c.requires.long) c.climb.ensures,
    )
