use Rattle.std.proofs.Common.{rules, arith, ap, sym, subst, ◌∙◌, ◌∷◌, [], ◌-◌, ◌≡◌, ℕ, IfSome, slice_get}
use Rattle.dn_counts.specs.Numbers.{range}
use Rattle.dn_gate.specs.Pass.{GateId, IsFresh, IsNew, numbers_of}
use Rattle.dn_gate.proofs.Joins.{starts_at}
use Rattle.dn_counts.proofs.Numbered.{range_one, all_more}
use Rattle.dn_gate.proofs.Made.{idle_view, cuts_at, made_pass, made_fresh, first_cut, rest_cut, all_at, new_of}
use Rattle.dn_gate.proofs.gate.Gate.make.Goals as goal

pub vacant-requires : goal.vacant-requires
vacant-requires g c = starts_at _ c.args.clients c.args.passes (numbers_of c.args.before.now) _ c.in_ok-words.words.items _ (search rules) (search rules) c.in_ok-words.ensures.long c.in_ok-words.ensures.control c.in_ok-words.ensures.each

pub split_seat-seat-requires : goal.split_seat-seat-requires
split_seat-seat-requires g c = let i = c.loop-number.invariant in (search rules, search rules, cuts_at _ _ _ _ _ _ _ _ _ c.loop-number.first.me i.first (omega arith))

pub invariant_of-push_reserved : goal.invariant_of-push_reserved
invariant_of-push_reserved g c = let i = c.loop-number.invariant in
    made_pass _ _ _ _ _ (first_cut _ _ _ _ _ c.loop-number.first.me _ (omega arith) i.first c.split_seat-seat.ensures.4)

pub loop-number-preserved : goal.loop-number-preserved
loop-number-preserved g c =
    let i = c.loop-number.invariant in
    let made = c.split_seat-seat.ensures in
    record {
      table = search rules;
      first = rest_cut _ _ _ _ _ _ c.loop-number.first.me _ (omega arith) (omega arith) i.first made.2;
      all = subst (λ xs. (k : ℕ) → IfSome (slice_get xs k) (IsFresh record { table = c.in_ok-table.table.shared.table_id; clients = c.args.clients; passes = c.args.passes; before = numbers_of c.args.before.now } k)) (sym c.push_reserved.ensures.items)
          (all_more _ _ _ _ i.long i.all (made_fresh _ _ _ _ _ _ _ _ (made.3 ∙ i.table) (first_cut _ _ _ _ _ c.loop-number.first.me _ (omega arith) i.first made.4)));
      long = search rules;
      room = search rules;
      clients = search rules;
      passes = search rules;
      before = search rules;
      words = search rules;
    }

pub returns-clause-fresh : goal.returns-clause-fresh
returns-clause-fresh g c =
    let i = c.loop-number.invariant in
    let n : ℕ = c.loop-number.number in
    let table = c.in_ok-table.table.shared.table_id in
    let id : GateId = record { table = table; clients = c.args.clients; passes = c.args.passes; before = numbers_of c.args.before.now } in
    let one : range n (c.args.passes - n) ≡ n ∷ [] = range_one n (c.args.passes - n) (omega arith) in
    let last = made_fresh table c.loop-number.first.table_id c.loop-number.first.id c.args.passes c.args.clients n (numbers_of c.args.before.now) c.loop-number.first.me i.table (i.first ∙ ap (λ ns. (idle_view c.args.passes c.args.clients (numbers_of c.args.before.now) ns, [])) one) in
    subst (λ (q : GateId). (k : ℕ) → IfSome (slice_get c.push_reserved-2.new.self.items k) (IsFresh q k)) (λ j. record { table = table; clients = sym i.clients j; passes = sym i.passes j; before = numbers_of (sym i.before j) })
    (subst (λ xs. (k : ℕ) → IfSome (slice_get xs k) (IsFresh id k)) (sym c.push_reserved-2.ensures.items) (all_more _ _ _ _ i.long i.all last))

pub returns-clause-new : goal.returns-clause-new
returns-clause-new g c = all_at (IsFresh _) (IsNew _) (new_of _) c.push_reserved-2.new.self.items (
    let i = c.loop-number.invariant in
    let n : ℕ = c.loop-number.number in
    let table = c.in_ok-table.table.shared.table_id in
    let id : GateId = record { table = table; clients = c.args.clients; passes = c.args.passes; before = numbers_of c.args.before.now } in
    let one : range n (c.args.passes - n) ≡ n ∷ [] = range_one n (c.args.passes - n) (omega arith) in
    let last = made_fresh table c.loop-number.first.table_id c.loop-number.first.id c.args.passes c.args.clients n (numbers_of c.args.before.now) c.loop-number.first.me i.table (i.first ∙ ap (λ ns. (idle_view c.args.passes c.args.clients (numbers_of c.args.before.now) ns, [])) one) in
    subst (λ (q : GateId). (k : ℕ) → IfSome (slice_get c.push_reserved-2.new.self.items k) (IsFresh q k)) (λ j. record { table = table; clients = sym i.clients j; passes = sym i.passes j; before = numbers_of (sym i.before j) })
    (subst (λ xs. (k : ℕ) → IfSome (slice_get xs k) (IsFresh id k)) (sym c.push_reserved-2.ensures.items) (all_more _ _ _ _ i.long i.all last))
    )
