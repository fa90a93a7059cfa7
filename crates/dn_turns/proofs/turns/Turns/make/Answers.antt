use Rattle.std.proofs.Common.{rules, arith, ap, sym, subst, ◌∙◌, ◌++◌, ◌∷◌, [], ◌-◌, ◌≡◌, ℕ, Some, None, IfSome, slice_get}
use Rattle.dn_counts.specs.Numbers.{range}
use Rattle.dn_turns.specs.Rule.{view}
use Rattle.dn_turns.specs.Turns.{IsFresh}
use Rattle.dn_counts.proofs.Numbered.{range_one, all_more}
use Rattle.dn_turns.proofs.Made.{starts_at, cuts_at, made_pass, made_fresh, first_cut, rest_cut, all_ready}
use Rattle.dn_turns.proofs.turns.Turns.make.Goals as goal

pub new-requires : goal.new-requires
new-requires g c = starts_at g.L.Log.list g.L.Log.base _ c.args.log _ _ (c.push_reserved.ensures.items ∙ ap (λ l. l ++ Some c.args.log ∷ []) c.in_ok-slots.ensures.items) c.of.ensures

pub split_seat-seat-requires : goal.split_seat-seat-requires
split_seat-seat-requires g c = let i = c.loop-number.invariant in (search rules, search rules, cuts_at g.L.Log.list g.L.Log.base _ _ _ _ _ _ _ c.loop-number.first.me i.first (omega arith))

pub invariant_of-push_reserved : goal.invariant_of-push_reserved
invariant_of-push_reserved g c = let i = c.loop-number.invariant in
    made_pass g.L.Log.list g.L.Log.base _ _ _ _ _ (first_cut g.L.Log.list g.L.Log.base _ _ _ _ _ c.loop-number.first.me _ (omega arith) i.first c.split_seat-seat.ensures.4)

pub loop-number-preserved : goal.loop-number-preserved
loop-number-preserved g c =
    let i = c.loop-number.invariant in
    let made = c.split_seat-seat.ensures in
    record {
      table = search rules;
      first = rest_cut g.L.Log.list g.L.Log.base _ _ _ _ _ _ c.loop-number.first.me _ (omega arith) (omega arith) i.first made.2;
      all = subst (λ xs. (k : ℕ) → IfSome (slice_get xs k) (IsFresh record { table = c.in-Ok.made.0.shared.table_id; passes = c.args.passes } (g.L.Log.base c.args.log) (g.L.Log.list c.args.log) k)) (sym c.push_reserved-in-loop-number.ensures.items)
          (all_more _ _ _ _ i.long i.all (made_fresh g.L.Log.list g.L.Log.base _ _ _ _ _ _ _ _ (made.3 ∙ i.table) (first_cut g.L.Log.list g.L.Log.base _ _ _ _ _ c.loop-number.first.me _ (omega arith) i.first made.4)));
      long = search rules;
      room = search rules;
      passes = search rules;
      words = search rules;
      slots = search rules;
    }

pub returns-clause-fresh : goal.returns-clause-fresh
returns-clause-fresh g c =
    let i = c.loop-number.invariant in
    let base = g.L.Log.base c.args.log in
    let log = g.L.Log.list c.args.log in
    let n : ℕ = c.loop-number.number in
    let one : range n (c.args.passes - n) ≡ n ∷ [] = range_one n (c.args.passes - n) (omega arith) in
    let last = made_fresh g.L.Log.list g.L.Log.base c.in-Ok.made.0.shared.table_id c.loop-number.first.table_id c.loop-number.first.id c.args.passes n base log c.loop-number.first.me i.table (i.first ∙ ap (λ ns. (view c.args.passes (Some base) ns 0 None None log None [], [])) one) in
    subst (λ (q : ℕ). (k : ℕ) → IfSome (slice_get c.push_reserved-2.new.self.items k) (IsFresh record { table = c.in-Ok.made.0.shared.table_id; passes = q } base log k)) (sym i.passes)
    (subst (λ xs. (k : ℕ) → IfSome (slice_get xs k) (IsFresh record { table = c.in-Ok.made.0.shared.table_id; passes = c.args.passes } base log k)) (sym c.push_reserved-2.ensures.items)
    (all_more _ _ _ _ i.long i.all last))

pub returns-clause-ready : goal.returns-clause-ready
returns-clause-ready g c = all_ready _ (g.L.Log.base c.args.log) (g.L.Log.list c.args.log) _ (returns-clause-fresh g c)
