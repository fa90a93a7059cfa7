use Rattle.std.proofs.Common.{◌≡◌, ◌<◌, ◌+◌, ◌/◌, ◌^◌, ◌∙◌, ◌++◌, List, ℕ, get_or, [], ap, refl, arith, append-nil}
use Rattle.dn_ots.proofs.KeyLemmas.{joined_none, sign_more}
use Rattle.dn_lms.specs.Key.{height, leaves_of}
use Rattle.dn_lms.specs.Tree.{path_node, sibling}
use Rattle.dn_lms_definitions.proofs.Laws.{sizes}
use Rattle.dn_lms.proofs.TreeLemmas.{way_small, sibling_small, path_node_read}
use Rattle.dn_lms.proofs.tree.append_path.Goals as goal

pub overflow_add-leaf : goal.overflow_add-leaf
overflow_add-leaf c = let s = sizes c.args.lms c.requires.known in omega arith

pub levels-init : goal.levels-init
levels-init c = λ key lms has. rw (joined_none, append-nil) refl

pub overflow_shr-leaf : goal.overflow_shr-leaf
overflow_shr-leaf c = let s = sizes c.args.lms c.requires.known in omega arith

pub sibling-requires : goal.sibling-requires
sibling-requires c =
    let s = sizes c.args.lms c.requires.known in
    let below : c.levels.i < height c.args.lms = omega arith in
    rw c.leaves_of.ensures (omega (arith, way_small c.args.lms c.args.q c.levels.i c.requires.leaf below))

pub bounds-tree-sibling : goal.bounds-tree-sibling
bounds-tree-sibling c =
    let below : c.levels.i < height c.args.lms = omega arith in
    rw (c.sibling.ensures, c.leaves_of.ensures, c.requires.size) (sibling_small c.args.lms c.args.q c.levels.i c.requires.leaf below)

pub levels-preserved : goal.levels-preserved
levels-preserved c = λ key lms has.
    let below : c.levels.i < height key.lms = rw lms (omega arith) in
    let leaf : c.args.q < leaves_of key.lms = rw lms c.requires.leaf in
    let at : c.sibling.result ≡ sibling ((leaves_of key.lms + c.args.q) / 2 ^ c.levels.i) = rw (lms, ← c.leaves_of.ensures) c.sibling.ensures in
    let node = path_node_read key c.args.tree.now c.args.q c.levels.i has leaf below in
    sign_more c.args.out.now.items c.extend_from_slice.new.self.items _ (path_node key c.args.q) c.levels.i
    (c.in_ok-extend_from_slice.ensures.items ∙ ap (λ (x : List ℕ). x ++ get_or c.args.tree.now c.sibling.result []) (c.levels.invariant key lms has))
    (ap (λ (n : ℕ). get_or c.args.tree.now n []) at ∙ node)
