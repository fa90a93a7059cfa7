use Rattle.std.proofs.Common.{◌/◌, ◌<◌, ◌≡◌, sym, ap, subst, ◌∙◌}
use Rattle.dn_hss_definitions.specs.Hss.{hss_count, hss_signature, tree_leaves, second_of}
use Rattle.dn_lms_definitions.specs.Signature.{lms_signature}
use Rattle.dn_hss.specs.Origin.{key_from}
use Rattle.dn_hss.proofs.KeyLemmas.{counts, tree_small, leaf_small, signature_made}
use Rattle.dn_hss.proofs.key.HssKey.signed_by.Goals as goal

pub nonzero_div-q : goal.nonzero_div-q
nonzero_div-q c =
    (counts (key_from c.self.inside.origin) c.self.inside.top c.leaves-leaves.result c.self.invariant.key c.self.invariant.top c.leaves-leaves.ensures.count).some

pub sign_at-requires : goal.sign_at-requires
sign_at-requires c =
    let n = counts (key_from c.self.inside.origin) c.self.inside.top c.leaves-leaves.result c.self.invariant.key c.self.invariant.top c.leaves-leaves.ensures.count in
    let within = subst (λ key. c.args.q < hss_count key) (sym c.self.view_is) c.requires.within in
    tree_small (key_from c.self.inside.origin) c.self.inside.top c.leaves-leaves.result c.args.q c.self.invariant.key c.self.invariant.top n.leaves within

pub nonzero_rem-q : goal.nonzero_rem-q
nonzero_rem-q c =
    (counts (key_from c.self.inside.origin) c.self.inside.top c.leaves-leaves.result c.self.invariant.key c.self.invariant.top c.leaves-leaves.ensures.count).some

pub sign_at-requires-2 : goal.sign_at-requires-2
sign_at-requires-2 c =
    let n = counts (key_from c.self.inside.origin) c.self.inside.top c.leaves-leaves.result c.self.invariant.key c.self.invariant.top c.leaves-leaves.ensures.count in
    let second = subst (λ key. c.args.second.now ≡ second_of key (c.args.q / tree_leaves key)) (sym c.self.view_is) c.requires.second in
    leaf_small (key_from c.self.inside.origin) c.args.second.now _ c.leaves-leaves.result c.args.q c.self.invariant.key second n.leaves

pub returns : goal.returns
returns c =
    let n = counts (key_from c.self.inside.origin) c.self.inside.top c.leaves-leaves.result c.self.invariant.key c.self.invariant.top c.leaves-leaves.ensures.count in
    let second = subst (λ key. c.args.second.now ≡ second_of key (c.args.q / tree_leaves key)) (sym c.self.view_is) c.requires.second in
    signature_made (key_from c.self.inside.origin) c.self.inside.top c.args.second.now c.leaves-leaves.result c.args.q c.args.msg.now
    c.to_be_bytes.result c.deref-2.result.now c.deref-3.result.now c.deref-4.result.now c.new-sig.result.items
    c.extend_from_slice.new.self.items c.extend_from_slice-2.new.self.items c.extend_from_slice-3.new.self.items c.extend_from_slice-4.new.self.items
    n.leaves c.self.invariant.top second c.to_be_bytes.ensures (c.deref-3.ensures.value ∙ c.in_ok-public.ensures)
    (c.deref-2.ensures.value ∙ c.in_ok-by_top.ensures ∙ ap (λ p. lms_signature c.self.inside.top (c.args.q / c.leaves-leaves.result) p) (c.deref.ensures.value ∙ sym c.deref-3.ensures.value))
    (c.deref-4.ensures.value ∙ c.in_ok-by_second.ensures) c.new-sig.ensures.items
    c.in_ok-extend_from_slice.ensures.items c.in_ok-extend_from_slice-2.ensures.items c.in_ok-extend_from_slice-3.ensures.items c.in_ok-extend_from_slice-4.ensures.items
    ∙ ap (λ key. hss_signature key c.args.q c.args.msg.now) c.self.view_is
