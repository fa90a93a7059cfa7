use Rattle.std.proofs.Common.{◌≡◌, ◌∙◌, length, [], ◌<◌, refl, arith}
use Rattle.std.proofs.lemmas.List.{get_or_read}
use Rattle.dn_lms_definitions.proofs.Laws.{sizes}
use Rattle.dn_lms.specs.Tree.{root}
use Rattle.dn_lms.specs.Pair.{key_of}
use Rattle.dn_lms.specs.Signature.{public_key}
use Rattle.dn_lms.proofs.TreeLemmas.{root_in}
use Rattle.dn_lms.proofs.PairLemmas.{four_pieces, same_pieces}
use Rattle.dn_lms.proofs.pair.KeyPairSigKey.public.Goals as goal

pub index-requires : goal.index-requires
index-requires c =
    let s = sizes c.self.inside.lms c.self.invariant.key.lms_known in
    omega (arith, c.self.invariant.tree.size, c.self.inside.tree.ok)

pub returns : goal.returns
unfolding public_key
returns c =
    let s = sizes c.self.inside.lms c.self.invariant.key.lms_known in
    let tree = c.self.inside.tree.items in
    let second : 1 < length tree = omega (arith, c.self.invariant.tree.size) in
    let top : c.index.result.now ≡ root (key_of c.self.inside) =
    get_or_read tree 1 c.index.result.now second c.index.ensures [] ∙ root_in (key_of c.self.inside) tree c.self.invariant.tree in
    rw (← c.self.view_is) (four_pieces c.in_ok-public.public.items c.extend_from_slice.new.self.items c.extend_from_slice-2.new.self.items c.extend_from_slice-3.new.self.items
    c.extend_from_slice-4.new.self.items _ _ _ _ c.in_ok-public.ensures.items c.in_ok-extend_from_slice.ensures.items c.in_ok-extend_from_slice-2.ensures.items
    c.in_ok-extend_from_slice-3.ensures.items c.in_ok-extend_from_slice-4.ensures.items
    ∙ same_pieces _ _ c.self.inside.id _ _ _ _ _ c.to_be_bytes.ensures c.to_be_bytes-2.ensures refl top)
