use Rattle.std.proofs.Common.{arith, ◌<◌, sym, subst, length}
use Rattle.dn_window.specs.Window.{clients_of}
use Rattle.dn_window.proofs.HistoryLemmas.{count_by-below}
use Rattle.dn_window.proofs.window.Window.enter.Goals as goal

-- a client that isn't marked is one more than those counted
pub overflow_add-self : goal.overflow_add-self
overflow_add-self c =
    let kept = c.self.invariant in
    let lt : c.args.client < length c.self.inside.submitted.items = subst (λ w. c.args.client < clients_of w) (sym c.self.view_is) c.requires in
    let marked = rw c.if-index.false at c.index.ensures in
    omega (arith, kept.few, kept.size, count_by-below c.self.inside.submitted.items c.args.client lt (sym marked))
