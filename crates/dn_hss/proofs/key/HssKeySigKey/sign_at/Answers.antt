use Rattle.std.proofs.Common.{ℕ, ◌/◌, ◌<◌, sym, ap, refl, subst, ◌∙◌, arith}
use Rattle.dn_hss_definitions.specs.Hss.{hss_count, tree_leaves, second_of}
use Rattle.dn_hss.specs.Origin.{key_from}
use Rattle.dn_hss.proofs.KeyLemmas.{counts, tree_number, same_second}
use Rattle.dn_hss.proofs.key.HssKeySigKey.sign_at.Goals as goal

pub nonzero_div-t : goal.nonzero_div-t
nonzero_div-t c =
    (counts (key_from c.self.inside.origin) c.self.inside.top c.leaves.result c.self.invariant.key c.self.invariant.top c.leaves.ensures.count).some

pub index-requires : goal.index-requires
index-requires c =
    let n = counts (key_from c.self.inside.origin) c.self.inside.top c.leaves.result c.self.invariant.key c.self.invariant.top c.leaves.ensures.count in
    let within = subst (λ key. c.args.q < hss_count key) (sym c.self.view_is) c.requires in
    let small = tree_number (key_from c.self.inside.origin) c.leaves.result c.args.q c.self.invariant.key n.leaves within in
    omega (arith, small, c.self.invariant.places, c.self.inside.seconds.ok)

pub signed_by-requires-clause-second : goal.signed_by-requires-clause-second
signed_by-requires-clause-second c =
    let n = counts (key_from c.self.inside.origin) c.self.inside.top c.leaves.result c.self.invariant.key c.self.invariant.top c.leaves.ensures.count in
    let same = c.if-is_of.ensures.0 refl in
    rw (← c.self.view_is)
    (same_second c.in-Some.second.now.origin c.self.inside.origin c.in-Some.second.now.t (c.args.q / tree_leaves (key_from c.self.inside.origin)) c.in-Some.second.now.tree
    c.in-Some.second.now.made same.0 (same.1 ∙ ap (λ (k : ℕ). c.args.q / k) n.leaves))

pub signed_by-requires-2-clause-second : goal.signed_by-requires-2-clause-second
signed_by-requires-2-clause-second c =
    let n = counts (key_from c.self.inside.origin) c.self.inside.top c.leaves.result c.self.invariant.key c.self.invariant.top c.leaves.ensures.count in
    c.in_ok-tree.ensures ∙ ap (λ (k : ℕ). second_of c.args.self.now (c.args.q / k)) (n.leaves ∙ ap tree_leaves c.self.view_is)

pub keep-requires-clause-within : goal.keep-requires-clause-within
keep-requires-clause-within c =
    let n = counts (key_from c.self.inside.origin) c.self.inside.top c.leaves.result c.self.invariant.key c.self.invariant.top c.leaves.ensures.count in
    let within = subst (λ key. c.args.q < hss_count key) (sym c.self.view_is) c.requires in
    rw (← c.self.view_is) (tree_number (key_from c.self.inside.origin) c.leaves.result c.args.q c.self.invariant.key n.leaves within)
