use Rattle.std.proofs.Common.{arith, ◌==◌, ◌<◌, ◌++◌, ℕ, cond, count_by, filter, not, length, ap, sym, subst, ◌∙◌}
use Rattle.std.specs.BTreeMap.{is_at}
use Rattle.std.specs.Map.{remove_entry}
use Rattle.std.specs.Ordering.{nat_cmp}
use Rattle.dn_nodes.specs.declared.node.Node.{Node}
use Rattle.dn_flight.specs.Arena.{none, node_at, ends_at, member_number, free_node, without_from}
use Rattle.dn_flight.specs.Flight.{is_from}
use Rattle.dn_flight.specs.Whole.{msgs_at, unlinked, unended}
use Rattle.dn_flight.specs.declared.side.Side.TheVariants.{To}
use Rattle.dn_flight.proofs.Leaving.{IsLeaving, found, v', y', place_below, free_below, before_below, after_below, receiver_end, entry_goes, fewer_entries, leaves_more, others_stay, one_less, whole_left, all_stay, none_left}
use Rattle.dn_flight.proofs.Removed.{known}
use Rattle.dn_flight.proofs.flight.Flight.drop_from.Goals as goal

pub detach-node-requires-clause-place : goal.detach-node-requires-clause-place
detach-node-requires-clause-place g c =
    let i = c.loop-place.invariant in
    let f = c.loop-place.self-inside in
    let at = place_below c.args.m (node_at f.arena.links.nodes) (ends_at f.arena.links.heads.held) f.arena.free f.places.entries f.next c.loop-place.place i.nodes i.ends i.leaving c.loop-place-test.true in
    let free = free_below c.args.m (node_at f.arena.links.nodes) (ends_at f.arena.links.heads.held) f.arena.free f.places.entries f.next c.loop-place.place i.nodes i.ends i.leaving c.loop-place-test.true in
    (at, i.long, free)

pub detach-node-requires-clause-near : goal.detach-node-requires-clause-near
detach-node-requires-clause-near g c =
    let i = c.loop-place.invariant in
    let f = c.loop-place.self-inside in
    let n = node_at f.arena.links.nodes in
    let x = ends_at f.arena.links.heads.held in (
      before_below c.args.m n x f.arena.free f.places.entries f.next c.loop-place.place i.nodes i.ends i.leaving c.loop-place-test.true,
      after_below c.args.m n x f.arena.free f.places.entries f.next c.loop-place.place i.nodes i.ends i.leaving c.loop-place-test.true,
      known To f.arena.links.heads.held (member_number (n c.loop-place.place).to) (receiver_end c.args.m n x f.arena.free f.places.entries f.next c.loop-place.place i.nodes i.ends i.leaving c.loop-place-test.true),
    )

pub loop-place-smaller : goal.loop-place-smaller
loop-place-smaller g c =
    let i = c.loop-place.invariant in
    let f = c.loop-place.self-inside in
    let n = node_at f.arena.links.nodes in
    let x = ends_at f.arena.links.heads.held in
    let here = c.detach-node.ensures.node in
    let goes = c.remove.ensures.entries ∙ (λ j. remove_entry (is_at (nat_cmp (here j).id)) f.places.entries) ∙ entry_goes c.args.m n x f.arena.free f.places.entries f.next c.loop-place.place i.nodes i.ends i.leaving c.loop-place-test.true in
    omega (arith, ap length goes, fewer_entries c.args.m n x f.arena.free f.places.entries f.next c.loop-place.place i.nodes i.ends i.leaving c.loop-place-test.true)

pub loop-place-preserved : goal.loop-place-preserved
loop-place-preserved g c =
    let i = c.loop-place.invariant in
    let f = c.loop-place.self-inside in
    let m = c.args.m in
    let n = node_at f.arena.links.nodes in
    let x = ends_at f.arena.links.heads.held in
    let n' = node_at c.detach-node.new.self.links.nodes in
    let x' = ends_at c.detach-node.new.self.links.heads.held in
    let free : ℕ = f.arena.free in
    let place : ℕ = c.loop-place.place in
    let es = f.places.entries in
    let more = c.loop-place-test.true in
    let at = found m n x free es f.next place i.nodes i.ends i.leaving more in
    let left = at.0 ++ at.2 in
    let v = v' m n x free es f.next place i.nodes i.ends i.leaving more in
    let y = y' m n x free es f.next place i.nodes i.ends i.leaving more in
    let here = c.detach-node.ensures.node in
    let goes = c.remove.ensures.entries ∙ (λ j. remove_entry (is_at (nat_cmp (here j).id)) es) ∙ entry_goes m n x free es f.next place i.nodes i.ends i.leaving more in
    let done = leaves_more m n x free es f.next place i.nodes i.ends i.leaving more n' x'
    (λ (p : ℕ) (low : p < none). c.detach-node.ensures.nodes p low ∙ (λ j. cond (p == place) (free_node free) (unlinked To (here j).to_before (here j).to_after p (n p))))
    (λ (q : ℕ). c.detach-node.ensures.ends q ∙ (λ j. unended To (here j).to_before (here j).to_after (member_number (here j).to) q (x q))) in
    record {
      long = c.detach-node.ensures.long ∙ i.long;
      nodes = v;
      ends = y;
      leaving = subst (λ l. IsLeaving m n' x' c.detach-node.new.self.free l f.next c.detach-node.result.from_after v y) (sym goes)
          (subst (λ (k : ℕ). IsLeaving m n' x' k left f.next c.detach-node.result.from_after v y) (sym c.detach-node.ensures.free)
          (subst (λ (z : Node). IsLeaving m n' x' place left f.next z.from_after v y) (sym here) done));
      next = i.next;
      stay = ap (λ l. filter (λ z. not (is_from m z)) (msgs_at v l)) goes ∙ others_stay m n x free es f.next place i.nodes i.ends i.leaving more ∙ i.stay;
      gone = omega (arith, i.gone, ap (λ l. count_by (is_from m) (msgs_at v l)) goes, one_less m n x free es f.next place i.nodes i.ends i.leaving more);
      few = omega (arith, i.few, ap length goes, fewer_entries m n x free es f.next place i.nodes i.ends i.leaving more);
      cost = (omega (arith, i.cost.0, c.detach-node.ensures.cost.0), omega (arith, i.cost.1, c.detach-node.ensures.cost.1));
    }

pub invariant_of-self : goal.invariant_of-self
invariant_of-self g c =
    let i = c.loop-place.invariant in
    let f = c.loop-place.self-inside in
    let x' = ends_at c.end_from.new.self.held in
    record {
      long = i.long;
      whole = whole_left c.args.m (node_at f.arena.links.nodes) (ends_at f.arena.links.heads.held) f.arena.free f.places.entries f.next c.loop-place.place i.nodes i.ends i.leaving c.loop-place-test.false x'
          (λ (q : ℕ). c.end_from.ensures q ∙ ap (λ (k : ℕ). cond (q == k) (without_from (ends_at f.arena.links.heads.held q)) (ends_at f.arena.links.heads.held q)) c.member_number-key.ensures);
    }

pub returns-clause-left : goal.returns-clause-left
returns-clause-left g c =
    let i = c.loop-place.invariant in
    let f = c.loop-place.self-inside in (
      sym (sym i.stay ∙ all_stay c.args.m (node_at f.arena.links.nodes) (ends_at f.arena.links.heads.held) f.arena.free f.places.entries f.next c.loop-place.place i.nodes i.ends i.leaving c.loop-place-test.false),
      i.next,
    )

pub returns-clause-count : goal.returns-clause-count
returns-clause-count g c =
    let i = c.loop-place.invariant in
    let f = c.loop-place.self-inside in
    omega (arith, i.gone, none_left c.args.m (node_at f.arena.links.nodes) (ends_at f.arena.links.heads.held) f.arena.free f.places.entries f.next c.loop-place.place i.nodes i.ends i.leaving c.loop-place-test.false)
