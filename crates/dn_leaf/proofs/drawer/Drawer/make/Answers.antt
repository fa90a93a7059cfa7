use Rattle.std.proofs.Common.{rules, arith, sym, ◌∙◌, ◌-◌, [], None}
use Rattle.dn_leaf.specs.Rule.{view}
use Rattle.dn_leaf.proofs.Keeps.{cuts}
use Rattle.dn_leaf.proofs.drawer.Drawer.make.Goals as goal

pub split_seat-seat-requires : goal.split_seat-seat-requires
split_seat-seat-requires c =
    let i = c.loop.invariant in
    let key = c.in_ok-table.table.shared.key in
    (search rules, search rules, cuts key.count key.passes c.loop.first.id (c.args.passes - c.loop.counter) c.loop.first.me (i.first ∙ (λ j. (view (sym i.count j) (sym i.passes j) (c.args.passes - c.loop.counter) [] None, []))) (omega arith))
