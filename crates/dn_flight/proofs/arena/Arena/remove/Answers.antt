use Rattle.std.proofs.Common.{arith, ◌≡◌, ◌==◌, ◌<◌, ◌≤◌, ℕ, ◌++◌, cond, ap, sym, subst, ◌∙◌}
use Rattle.std.proofs.lemmas.Option.{get_or_from_slice_get}
use Rattle.dn_nodes.specs.declared.node.Node.{Node}
use Rattle.dn_flight.specs.Arena.{none, node_at, ends_at, free_node, IsKnown}
use Rattle.dn_flight.specs.Side.{key_of, before_of, after_of}
use Rattle.dn_flight.specs.Whole.{IsWhole, unlinked, unended}
use Rattle.dn_flight.specs.declared.side.Side.TheVariants.{To, From}
use Rattle.dn_flight.proofs.Removed.{place_low, before_low, after_low, has_end, known, free_low, msgs_same, whole_removed}
use Rattle.dn_flight.proofs.arena.Arena.remove.Goals as goal

pub get-node-requires : goal.get-node-requires
get-node-requires g c =
    let r = c.requires.whole in
    let nodes = c.args.self.now.links.nodes in
    let heads = c.args.self.now.links.heads.held in
    omega (arith, place_low (node_at nodes) (node_at nodes) (ends_at heads) (ends_at heads) c.args.self.now.free r.3 r.0 r.1 r.2 r.5.whole, r.4, r.5.long)

pub unlink-requires : goal.unlink-requires
unlink-requires g c =
    let r = c.requires.whole in
    let nodes = c.args.self.now.links.nodes in
    let heads = c.args.self.now.links.heads.held in
    let here : c.get-node.result ≡ node_at nodes r.1.1 = sym (get_or_from_slice_get nodes c.args.place c.get-node.result (free_node none) c.get-node.ensures.node) ∙ ap (node_at nodes) (sym r.4) in
    record {
      place = (
        subst (λ (x : Node). x.to_before ≤ none) (sym here) (before_low (node_at nodes) (node_at nodes) (ends_at heads) (ends_at heads) c.args.self.now.free r.3 r.0 r.1 r.2 r.5.whole To),
        subst (λ (x : Node). x.to_after ≤ none) (sym here) (after_low (node_at nodes) (node_at nodes) (ends_at heads) (ends_at heads) c.args.self.now.free r.3 r.0 r.1 r.2 r.5.whole To),
        omega (arith, r.5.long),
        subst (IsKnown heads) (sym (c.member_number-to.ensures ∙ ap (key_of To) here)) (known To heads (key_of To (node_at nodes r.1.1)) (has_end (node_at nodes) (node_at nodes) (ends_at heads) (ends_at heads) c.args.self.now.free r.3 r.0 r.1 r.2 r.5.whole To)),
      );
    }

pub unlink-requires-2 : goal.unlink-requires-2
unlink-requires-2 g c =
    let r = c.requires.whole in
    let nodes = c.args.self.now.links.nodes in
    let heads = c.args.self.now.links.heads.held in
    let here : c.get-node.result ≡ node_at nodes r.1.1 = sym (get_or_from_slice_get nodes c.args.place c.get-node.result (free_node none) c.get-node.ensures.node) ∙ ap (node_at nodes) (sym r.4) in
    record {
      place = (
        subst (λ (x : Node). x.from_before ≤ none) (sym here) (before_low (node_at nodes) (node_at nodes) (ends_at heads) (ends_at heads) c.args.self.now.free r.3 r.0 r.1 r.2 r.5.whole From),
        subst (λ (x : Node). x.from_after ≤ none) (sym here) (after_low (node_at nodes) (node_at nodes) (ends_at heads) (ends_at heads) c.args.self.now.free r.3 r.0 r.1 r.2 r.5.whole From),
        omega (arith, r.5.long, c.unlink.ensures.long),
        c.unlink.ensures.stay c.member_number-from.result (subst (IsKnown heads) (sym (c.member_number-from.ensures ∙ ap (key_of From) here)) (known From heads (key_of From (node_at nodes r.1.1)) (has_end (node_at nodes) (node_at nodes) (ends_at heads) (ends_at heads) c.args.self.now.free r.3 r.0 r.1 r.2 r.5.whole From))),
      );
    }

pub release-requires : goal.release-requires
release-requires g c =
    let r = c.requires.whole in
    let nodes = c.args.self.now.links.nodes in
    let heads = c.args.self.now.links.heads.held in (
      omega (arith, place_low (node_at nodes) (node_at nodes) (ends_at heads) (ends_at heads) c.args.self.now.free r.3 r.0 r.1 r.2 r.5.whole, r.4),
      c.unlink-2.ensures.long ∙ c.unlink.ensures.long ∙ r.5.long,
      free_low (node_at nodes) (node_at nodes) (ends_at heads) (ends_at heads) c.args.self.now.free r.3 r.0 r.1 r.2 r.5.whole,
    )

pub returns-clause-node : goal.returns-clause-node
returns-clause-node g c = sym (get_or_from_slice_get c.args.self.now.links.nodes c.args.place c.get-node.result (free_node none) c.get-node.ensures.node)

pub returns-clause-whole : goal.returns-clause-whole
returns-clause-whole g c = λ b e a next at w.
    let nodes = c.args.self.now.links.nodes in
    let nodes' = c.release.new.self.links.nodes in
    let heads = c.args.self.now.links.heads.held in
    let heads' = c.release.new.self.links.heads.held in
    let free : ℕ = c.args.self.now.free in
    let node : Node = c.get-node.result in
    let here : node ≡ node_at nodes e.1 = sym (get_or_from_slice_get nodes c.args.place c.get-node.result (free_node none) c.get-node.ensures.node) ∙ ap (node_at nodes) (sym at) in
    let long = c.release.ensures.long ∙ c.unlink-2.ensures.long ∙ c.unlink.ensures.long in
    let at_each = (λ (p : ℕ) (low : p < none).
    c.release.ensures.nodes p low
    ∙ ap (λ (x : Node). cond (p == c.args.place) (free_node free) x) (c.unlink-2.ensures.nodes p low ∙ ap (λ (x : Node). unlinked From node.from_before node.from_after p x) (c.unlink.ensures.nodes p low))
    ∙ (λ j. cond (p == sym at j) (free_node free) (unlinked From (before_of From (here j)) (after_of From (here j)) p (unlinked To (before_of To (here j)) (after_of To (here j)) p (node_at nodes p))))) in
    let ends_each = (λ (q : ℕ).
    ap (λ h. ends_at h.held q) c.release.ensures.rest.0
    ∙ c.unlink-2.ensures.heads q ∙ ap (λ x. unended From node.from_before node.from_after c.member_number-from.result q x) (c.unlink.ensures.heads q)
    ∙ (λ j. unended From node.from_before node.from_after (c.member_number-from.ensures j) q (unended To node.to_before node.to_after (c.member_number-to.ensures j) q (ends_at heads q)))
    ∙ (λ j. unended From (before_of From (here j)) (after_of From (here j)) (key_of From (here j)) q (unended To (before_of To (here j)) (after_of To (here j)) (key_of To (here j)) q (ends_at heads q)))) in
    let now = whole_removed (node_at nodes) (node_at nodes') (ends_at heads) (ends_at heads') free next b e a w.whole at_each ends_each in
    (record { long = long ∙ w.long; whole = subst (λ (k : ℕ). IsWhole (node_at nodes') (ends_at heads') k (b ++ a) next) (at ∙ sym c.release.ensures.rest.1) now }, msgs_same (node_at nodes) (node_at nodes') (ends_at heads) (ends_at heads') free next b e a w.whole at_each ends_each)
