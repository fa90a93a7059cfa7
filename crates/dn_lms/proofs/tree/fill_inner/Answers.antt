use Rattle.std.proofs.Common.{◌≡◌, ◌-◌, ◌/◌, ◌∙◌, length, refl, arith}
use Rattle.std.proofs.lemmas.List.{length-set}
use Rattle.dn_lms_definitions.proofs.Laws.{sizes}
use Rattle.dn_lms.proofs.TreeLemmas.{above_leaves, above_more}
use Rattle.dn_lms.proofs.tree.fill_inner.Goals as goal

pub nodes-init : goal.nodes-init
nodes-init c = (
  refl,
  λ key known id long has.
      let s = sizes key.lms known in
      above_leaves key c.args.tree.now _ (omega arith) has,
)

pub element_of_lent-inner_hash : goal.element_of_lent-inner_hash
element_of_lent-inner_hash c = omega (arith, c.nodes.invariant.0)

pub element_of_lent-inner_hash-in-nodes : goal.element_of_lent-inner_hash-in-nodes
element_of_lent-inner_hash-in-nodes c = omega (arith, c.nodes.invariant.0)

pub nodes-preserved : goal.nodes-preserved
nodes-preserved c = (
  length-set c.nodes.tree _ c.inner_hash-value.result ∙ c.nodes.invariant.0,
  λ key known id long has.
      let s = sizes key.lms known in
      let above = c.nodes.invariant.1 key known id long has in
      above_more key c.nodes.tree c.inner_hash-value.result _ _ (omega arith) (omega arith) above (rw id c.inner_hash-value.ensures),
)

pub shape_of-tree : goal.shape_of-tree
shape_of-tree c = c.nodes.invariant.0

pub returns : goal.returns
returns c = λ key known id long has.
    let s = sizes key.lms known in
    let none : length c.args.tree.now / 2 - c.nodes.done ≡ 0 = omega arith in
    rw none at (c.nodes.invariant.1 key known id long has)
