use Rattle.std.proofs.Common.{arith, ◌==◌, ◌<◌, ◌≤◌, ◌+◌, ◌++◌, ◌∷◌, [], ℕ, cond, length, length-set, ap, sym, subst, ◌∙◌}
use Rattle.std.proofs.lemmas.Option.{get_or_from_slice_get}
use Rattle.dn_nodes.specs.declared.node.Node.{Node}
use Rattle.dn_flight.specs.Arena.{none, node_at, ends_at, free_node, member_number, IsKnown}
use Rattle.dn_flight.specs.Whole.{IsWhole, appended, end_moved}
use Rattle.dn_flight.specs.declared.side.Side.TheVariants.{To, From}
use Rattle.dn_flight.proofs.Put.{node_set, last_low, whole_put, msgs_put}
use Rattle.dn_flight.proofs.arena.Arena.insert.Goals as goal

pub append-requires : goal.append-requires
append-requires g c =
    let r = c.requires.whole in
    let nodes = c.args.self.now.links.nodes in
    let heads = c.args.self.now.links.heads.held in
    let node : Node = record { id = c.args.id; from = c.args.from; to = c.args.to; payload = c.args.payload; to_before = c.get-to_ends.result.to_last; to_after = none; from_before = c.get-from_ends.result.from_last; from_after = none } in
    record {
      place = (
        subst (λ e. e.to_last ≤ none) (sym (c.get-to_ends.ensures ∙ ap (ends_at heads) c.member_number-to_key.ensures)) (last_low (node_at nodes) (node_at nodes) (ends_at heads) (ends_at heads) c.args.self.now.free c.args.id c.args.from c.args.to c.args.payload r.0 r.1.whole c.requires.room To (member_number c.args.to)),
        omega (arith, r.1.long, ap length c.set.ensures.nodes, length-set nodes c.args.self.now.free node),
        subst (IsKnown heads) (sym c.member_number-to_key.ensures) c.requires.known.0,
      );
    }

pub append-requires-2 : goal.append-requires-2
append-requires-2 g c =
    let r = c.requires.whole in
    let nodes = c.args.self.now.links.nodes in
    let heads = c.args.self.now.links.heads.held in
    let node : Node = record { id = c.args.id; from = c.args.from; to = c.args.to; payload = c.args.payload; to_before = c.get-to_ends.result.to_last; to_after = none; from_before = c.get-from_ends.result.from_last; from_after = none } in
    record {
      place = (
        subst (λ e. e.from_last ≤ none) (sym (c.get-from_ends.ensures ∙ ap (ends_at heads) c.member_number-from_key.ensures)) (last_low (node_at nodes) (node_at nodes) (ends_at heads) (ends_at heads) c.args.self.now.free c.args.id c.args.from c.args.to c.args.payload r.0 r.1.whole c.requires.room From (member_number c.args.from)),
        omega (arith, r.1.long, c.append.ensures.long, ap length c.set.ensures.nodes, length-set nodes c.args.self.now.free node),
        c.append.ensures.stay c.member_number-from_key.result (subst (IsKnown heads) (sym c.member_number-from_key.ensures) c.requires.known.1),
      );
    }

pub returns-clause-whole : goal.returns-clause-whole
returns-clause-whole g c = λ es w.
    let nodes = c.args.self.now.links.nodes in
    let nodes' = c.append-2.new.self.nodes in
    let heads = c.args.self.now.links.heads.held in
    let heads' = c.append-2.new.self.heads.held in
    let free : ℕ = c.args.self.now.free in
    let node : Node = record { id = c.args.id; from = c.args.from; to = c.args.to; payload = c.args.payload; to_before = c.get-to_ends.result.to_last; to_after = none; from_before = c.get-from_ends.result.from_last; from_after = none } in
    let te = c.get-to_ends.ensures ∙ ap (ends_at heads) c.member_number-to_key.ensures in
    let fe = c.get-from_ends.ensures ∙ ap (ends_at heads) c.member_number-from_key.ensures in
    let inside : free < length nodes = omega (arith, w.long, c.requires.room) in
    let long = c.append-2.ensures.long ∙ c.append.ensures.long ∙ ap length c.set.ensures.nodes ∙ length-set nodes free node in
    let at_each = (λ (p : ℕ) (low : p < none).
    c.append-2.ensures.nodes p low
    ∙ ap (λ (x : Node). appended From c.get-from_ends.result.from_last free p x) (c.append.ensures.nodes p low ∙ ap (λ (x : Node). appended To c.get-to_ends.result.to_last free p x) (ap (λ l. node_at l p) c.set.ensures.nodes ∙ node_set nodes free p node inside))
    ∙ (λ j. appended From (fe j).from_last free p (appended To (te j).to_last free p (cond (p == free) (record { id = c.args.id; from = c.args.from; to = c.args.to; payload = c.args.payload; to_before = (te j).to_last; to_after = none; from_before = (fe j).from_last; from_after = none }) (node_at nodes p))))) in
    let ends_each = (λ (q : ℕ).
    c.append-2.ensures.heads q ∙ ap (λ x. end_moved From c.get-from_ends.result.from_last c.member_number-from_key.result free q x) (c.append.ensures.heads q)
    ∙ (λ j. end_moved From (fe j).from_last (c.member_number-from_key.ensures j) free q (end_moved To (te j).to_last (c.member_number-to_key.ensures j) free q (ends_at heads q)))) in
    let now = whole_put (node_at nodes) (node_at nodes') (ends_at heads) (ends_at heads') free c.args.id c.args.from c.args.to c.args.payload es w.whole c.requires.room at_each ends_each in (
      record { long = long ∙ w.long; whole = subst (λ (k : ℕ). IsWhole (node_at nodes') (ends_at heads') k (es ++ (c.args.id, free) ∷ []) (c.args.id + 1)) (ap (λ (x : Node). x.to_after) (get_or_from_slice_get nodes free c.get-head.result (free_node none) c.get-head.ensures.node)) now },
      msgs_put (node_at nodes) (node_at nodes') (ends_at heads) (ends_at heads') free c.args.id c.args.from c.args.to c.args.payload es w.whole c.requires.room at_each ends_each,
    )
