use Rattle.std.proofs.Common.{rules, ap, sym, subst, ◌∙◌, ◌≡◌, ◌≤◌, IfSome, refl, Some}
use Rattle.dn_turns.specs.Rule.{limit}
use Rattle.dn_turns.proofs.Keeps.{tickets}
use Rattle.dn_turns.proofs.Logs.{whole_log, grows_none, grows_same}
use Rattle.dn_turns.proofs.Own.{under-follows}
use Rattle.dn_turns.proofs.turns.Turns.take.Goals as goal

pub fetch_add-ticket-requires : goal.fetch_add-ticket-requires
fetch_add-ticket-requires g c =
    let v = ap (λ p. p.turn) c.pass.view_is ∙ c.requires.1 in
    (search rules, search rules, tickets g.L.Log.list g.L.Log.base _ _ _ _ (search rules) c.pass.invariant.live (c.pass.invariant.out v).1 v (sym c.pass.invariant.same ∙ c.in_default.is))

pub returns-in-Some-clause-full : goal.returns-in-Some-clause-full
returns-in-Some-clause-full g c n e =
    let same : c.in-Some.tickets ≡ n = cc in
    let is : c.pass.inside.full ≡ Some n = c.in-Some.is ∙ ap Some same in
    (subst (λ o. IfSome o (λ k. limit ≤ k)) is c.pass.invariant.past, sym (ap (λ p. p.full) c.pass.view_is) ∙ sym c.pass.invariant.same ∙ is, refl)

pub returns-clause-own : goal.returns-clause-own
returns-clause-own g c = under-follows c.args.pass.now.numbers c.args.pass.now.seen (g.L.Log.list c.room.new.self) (search rules)

pub returns-in-Some-clause-refused : goal.returns-in-Some-clause-refused
returns-in-Some-clause-refused g c = (c.requires.1, whole_log c.args.pass.now.numbers c.args.pass.now.seen, grows_none _ c.args.pass.now.seen)

pub returns-then-ticket-ge-LIMIT-clause-refused : goal.returns-then-ticket-ge-LIMIT-clause-refused
returns-then-ticket-ge-LIMIT-clause-refused g c = (search rules, search rules, grows_same _ _ _ (search rules))
