use Rattle.std.proofs.Common.{rules, arith, ap, sym, ◌∙◌, ◌∷◌}
use Rattle.atomic_table.specs.Table.{rest, step}
use mathlib.Core.Option.{none}
use Rattle.dn_turns.proofs.Keeps.{passes_at, passed}
use Rattle.dn_turns.proofs.turns.pass_on.Goals as goal

pub exchange-requires : goal.exchange-requires
exchange-requires g c = let t = c.requires.held.2 in (c.requires.table.0, (t.0, t.1 ∙ ap (λ l. (0, t.0) ∷ rest l) (sym t.1)))

pub fetch_add-requires : goal.fetch_add-requires
fetch_add-requires g c = (
  search rules,
  search rules,
  passes_at g.L.Log.list g.L.Log.base _ _ _ c.args.seat.now.me _ c.requires.held.2.0 c.args.log c.requires.held.2.1 c.exchange.ensures.3 (omega (arith, c.requires.table.2)) c.requires.held.0 c.requires.held.1 c.requires.log.1 c.requires.log.0,
)

pub returns-clause-passed : goal.returns-clause-passed
returns-clause-passed g c = passed g.L.Log.list g.L.Log.base 0 (step 0 0 0 0 none) c.args.seat.now.me _ _ c.requires.held.2.0 c.args.log c.fetch_add.result c.requires.held.2.1 c.exchange.ensures.3 c.fetch_add.ensures.2
