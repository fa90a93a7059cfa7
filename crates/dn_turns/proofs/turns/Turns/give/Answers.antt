use Rattle.std.proofs.Common.{rules, ◌≡◌, ◌<◌, ◌++◌, ◌∷◌, [], length, ap, sym, subst, ◌∙◌, Some}
use Rattle.dn_turns.specs.Logs.{under}
use Rattle.dn_counts.specs.Numbers.{least}
use Rattle.dn_turns.proofs.Least.{given}
use Rattle.dn_turns.proofs.Own.{under-given}
use Rattle.dn_turns.proofs.turns.Turns.give.Goals as goal

pub pass_on-requires-clause-log : goal.pass_on-requires-clause-log
pass_on-requires-clause-log g c =
    let is = c.requires.turn.1 in
    let log = ap (λ t. t.log) c.turn.view_is in (
      given _ _ _ _ c.pass.inside.number c.args.entry (ap (λ p. p.turn) c.pass.view_is ∙ is.2 ∙ ap (λ l. Some (g.L.Log.list l)) (sym log)) c.add.ensures.list c.pass.invariant.least c.pass.invariant.live,
      ap (λ p. p.base) c.pass.view_is ∙ is.3 ∙ ap (λ l. Some (g.L.Log.base l)) (sym log) ∙ ap Some (sym c.add.ensures.base),
    )

pub returns-clause-own : goal.returns-clause-own
returns-clause-own g c =
    let same : c.pass.inside.seat.me.0.numbers ≡ c.args.pass.now.numbers = ap (λ p. p.numbers) c.pass.view_is in
    let live = subst (λ ns. 0 < length ns) same c.pass.invariant.live in
    let numbers : c.pass_on.new.seat.me.0.numbers ≡ c.args.pass.now.numbers = ap (λ m. m.0.numbers) c.pass_on.ensures.passed ∙ same in
    let seen : c.pass_on.new.seat.me.0.seen ≡ g.L.Log.list c.args.turn.log ++ (least c.args.pass.now.numbers, c.args.entry) ∷ [] = search rules in
    (λ i. under (numbers i) (seen i)) ∙ under-given c.args.pass.now.numbers (g.L.Log.list c.args.turn.log) c.args.entry live
