use Rattle.std.proofs.Common.{◌≡◌, ◌∙◌, refl, arith}
use Rattle.std.proofs.lemmas.List.{take_at}
use Rattle.dn_lms.specs.Key.{Key}
use Rattle.dn_lms.specs.Filled.{HasLeaves}
use Rattle.dn_lms_definitions.proofs.Laws.{sizes}
use Rattle.dn_lms.proofs.tree.tree_of.Goals as goal

pub fill_inner-requires : goal.fill_inner-requires
fill_inner-requires c =
    let s = sizes c.args.lms c.requires in
    let has = c.fill_leaves.ensures in
    rw c.deref_mut-2.ensures.value (rw (take_at c.fill_leaves.new.tree _ c.in_ok-tree.tree.len (omega (arith, has.size, c.in_ok-tree.ensures.len))) (omega (arith, has.size)))

pub returns : goal.returns
returns c =
    let key : Key = record { lms = c.args.lms; ots = c.args.params.code; id = c.args.id.now; seed = c.args.seed.now } in
    let has = c.fill_leaves.ensures in
    let given : c.deref_mut-2.result.now ≡ c.fill_leaves.new.tree =
    c.deref_mut-2.ensures.value ∙ take_at c.fill_leaves.new.tree _ c.in_ok-tree.tree.len (omega (arith, has.size, c.in_ok-tree.ensures.len)) in
    let leaves : HasLeaves key c.deref_mut-2.result.now = rw given has in
    let tree = c.fill_inner.ensures key c.requires refl leaves.size leaves in
    rw (take_at c.fill_inner.new.tree _ c.in_ok-tree.tree.len (omega (arith, tree.size, c.in_ok-tree.ensures.len))) tree
