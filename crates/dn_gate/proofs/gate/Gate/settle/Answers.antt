use Rattle.std.proofs.Common.{rules}
use mathlib.Core.Option.{none}
use Rattle.atomic_table.specs.Table.{step}
use Rattle.dn_gate.proofs.Keeps.{settles}
use Rattle.dn_gate.proofs.Histories.{is_history}
use Rattle.dn_gate.proofs.Counted.{settled, settled_view}
use Rattle.dn_gate.proofs.gate.Gate.settle.Goals as goal

pub load-requires : goal.load-requires
load-requires g c = (search rules, search rules, settles _ _ _ _ _ _ _ c.pass.invariant.live)

pub returns-clause-history : goal.returns-clause-history
returns-clause-history g c = λ all.
    is_history c.args.pass.now (settled_view c.pass.inside.seat.table_id c.pass.inside.seat.id c.pass.inside.seat.me c.args.pass.now c.pass.view_is
    (settled (step c.self.inside.table.shared.table_id.slots 0 0 0 none) c.pass.inside.seat.table_id c.pass.inside.seat.id c.load.result c.pass.inside.seat.me c.load.new.seat.me c.args.pass.now c.args.self.now c.pass.view_is c.requires.gate c.requires.ready c.load.ensures.2 all))
