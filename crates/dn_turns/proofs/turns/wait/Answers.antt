use Rattle.std.proofs.Common.{rules, ap, sym, ◌∙◌, ◌∷◌, Some}
use Rattle.atomic_table.specs.Table.{rest, step}
use mathlib.Core.Option.{none}
use Rattle.dn_turns.proofs.Keeps.{looks, found_log}
use Rattle.dn_turns.proofs.turns.wait.Goals as goal

pub load-serving-requires : goal.load-serving-requires
load-serving-requires g c = (search rules, search rules, looks g.L.Log.list g.L.Log.base _ _ _ _ (search rules) (search rules))

pub exchange-requires : goal.exchange-requires
exchange-requires g c =
    let t = found_log g.L.Log.list g.L.Log.base 0 (step 0 0 0 0 none) c.args.seat.now.me c.loop.seat.me c.load-serving.new.seat.me c.args.ticket c.load-serving.result c.loop.invariant.2 c.requires.seat.2 c.requires.seat.0 c.if-serving-ticket.true c.load-serving.ensures.2 in
    (search rules, (Some t.0, ap (λ m. m.1) t.1 ∙ ap (λ m. (0, Some t.0) ∷ rest m.1) (sym t.1)))
