use Rattle.std.proofs.Common.{rules, ◌≡◌, ◌∙◌, ◌*◌, ◌<◌, ℕ, List, length, take, sym, ap, get_or, subst}
use Rattle.std.specs.Prelude.{Bool, Result}
use Rattle.std.proofs.lemmas.List.{take_all}
use Rattle.std.specs.Fork.{slice_chunk}
use Rattle.dn_memory.specs.declared.NoMemory.{NoMemory}
use Rattle.dn_bits.specs.Bits.{xor_bits, sum_bits}
use Rattle.dn_combine.specs.Parts.{pads_of, IsPart}
use Rattle.dn_combine.proofs.Sums.{length-sum_all, sum-both, reaches}
use Rattle.dn_combine.proofs.combining.server_sum.Goals as goal

pub add_parts-requires : goal.add_parts-requires
add_parts-requires g c = λ k d lt.
    let items_is = c.deref.ensures.value in
    let fact = (c.in_ok-parts.ensures.each k d (subst (λ n. k < n) (ap length items_is) lt)).1 in
    let long = ap length c.in_ok-sum.ensures ∙ length-sum_all c.args.n c.args.held.now c.requires.long in
    let r = c.args.r.0 in
    subst (λ n. IsPart (slice_chunk c.args.seeds.now c.max-size.result k) r n (get_or c.deref.result.now k d)) (sym long)
    (subst (λ (l : List (Result (List Bool) NoMemory)). IsPart (slice_chunk c.args.seeds.now c.max-size.result k) r c.args.n (get_or l k d)) (sym items_is)
    (subst (λ (s : List (List ℕ)). IsPart s r c.args.n (get_or c.in_ok-parts.parts.items k d)) fact.argument_is.value (let called = fact.call in called)))

pub returns : goal.returns
returns g c =
    let n = c.args.n in
    let held = c.args.held.now in
    let seeds = c.args.seeds.now in
    let size = c.max-size.result in
    let r = c.args.r.0 in
    let long = ap length c.in_ok-sum.ensures ∙ length-sum_all n held c.requires.long in
    let some : 0 < size = search rules in
    let parts = c.deref.result.now in
    let all : take (length parts * size) seeds ≡ seeds = take_all (length parts * size) seeds (reaches (length parts) (length seeds) size some (search rules)) in
    c.in_ok-add_parts.ensures
    ∙ ap (λ k. xor_bits c.in_ok-sum.sum (sum_bits k (pads_of (take (length parts * size) seeds) r k))) long
    ∙ ap (λ (s : List (List ℕ)). xor_bits c.in_ok-sum.sum (sum_bits n (pads_of s r n))) all
    ∙ ap (λ x. xor_bits x (sum_bits n (pads_of seeds r n))) c.in_ok-sum.ensures
    ∙ sum-both n r seeds held c.requires.long
