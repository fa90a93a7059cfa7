use Rattle.std.proofs.Common.{rules, ap, Some}
use Rattle.dn_gate.specs.Rule.{At}
use Rattle.dn_gate.proofs.Keeps.{takes_word, returns_word}
use Rattle.dn_gate.proofs.Collects.{taken_out, out_again, emptied, in_taken}
use Rattle.dn_gate.proofs.collect.take_into.Goals as goal

pub load-requires : goal.load-requires
load-requires g c = (search rules, search rules, takes_word _ _ _ _ _ _ _ _ c.requires.seat.0 c.requires.table.2 c.requires.seat.1 c.requires.seat.2)

pub exchange-requires : goal.exchange-requires
exchange-requires g c =
    let t = taken_out c.args.shared.now.table_id.slots c.args.i c.load.result c.args.seat.now.me c.load.new.seat.me c.load.ensures.2 c.if-load-ne-MARKED.false in
    (search rules, (Some t.0, out_again c.args.i t.0 c.args.seat.now.me c.load.new.seat.me t.1))

pub load-requires-2 : goal.load-requires-2
load-requires-2 g c =
    let t = taken_out c.args.shared.now.table_id.slots c.args.i c.load.result c.args.seat.now.me c.load.new.seat.me c.load.ensures.2 c.if-load-ne-MARKED.false in
    let e = emptied c.args.i t.0 c.args.seat.now.me c.load.new.seat.me c.exchange.new.seat.me t.1 c.requires.seat.3 c.exchange.ensures.3 in
    (search rules, search rules, returns_word _ _ _ _ _ _ c.exchange.new.seat.me c.args.i _ c.requires.table.2 (in_taken c.args.i c.args.seat.now.me c.exchange.new.seat.me e) (ap (λ (q : At g.row.T.Denot). q.1) e))
