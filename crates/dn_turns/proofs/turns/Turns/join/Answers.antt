use Rattle.std.proofs.Common.{rules, arith, ap, ap₂, min, subst, ◌∙◌, ◌≡◌, ◌≤◌, IfSome, length, length-append, []}
use Rattle.atomic_table.specs.Table.{step}
use mathlib.Core.Option.{none}
use Rattle.dn_turns.specs.Logs.{Follows, GrowsBelow}
use Rattle.dn_counts.specs.Numbers.{first_some}
use Rattle.dn_turns.specs.Rule.{limit, joined}
use Rattle.dn_turns.proofs.Joined.{joined_pass, both_seen, both_grow}
use Rattle.dn_turns.proofs.Keeps.{joins, settles}
use Rattle.dn_turns.proofs.turns.Turns.join.Goals as goal

pub join_seat-requires : goal.join_seat-requires
join_seat-requires g c =
    let v = ap (λ p. p.turn) c.pass.view_is ∙ c.requires.idle.0 in
    let w = ap (λ p. p.turn) c.other.view_is ∙ c.requires.idle.1 in
    (search rules, search rules, (c.other.invariant.out w).0, search rules, joins g.L.Log.list g.L.Log.base _ _ _ _ _ c.pass.invariant.live c.other.invariant.live (c.pass.invariant.out v).1 v (c.other.invariant.out w).1 w)

pub load-requires : goal.load-requires
load-requires g c =
    let me = c.join_seat.ensures.2 in
    (search rules, search rules, settles g.L.Log.list g.L.Log.base _ _ _ _ (omega (arith, c.pass.invariant.live, ap (λ m. length m.0.numbers) me, length-append c.pass.inside.seat.me.0.numbers c.other.inside.seat.me.0.numbers)))

pub invariant_of-pass : goal.invariant_of-pass
invariant_of-pass g c =
    let v = ap (λ p. p.turn) c.pass.view_is ∙ c.requires.idle.0 in
    let out = c.pass.invariant.out v in
    let w = c.other.inside.seat.me.0 in
    let me : c.join_seat.new.seat.me ≡ (joined c.pass.inside.seat.me.0 w, []) = c.join_seat.ensures.2 ∙ ap (λ l. (joined c.pass.inside.seat.me.0 w, l)) out.0 in
    joined_pass g.L.Log.list g.L.Log.base (step 0 0 0 0 none) c.pass.inside.seat.me.0 w c.join_seat.new.seat.me _ c.load.result _ _ me c.load.ensures.2 c.pass.invariant.live c.other.invariant.live out.1 v (c.min-pass-inside.ensures ∙ ap₂ min c.pass.invariant.least c.other.invariant.least) (c.earlier-pass-inside.ensures ∙ ap₂ first_some c.pass.invariant.same c.other.invariant.same) (subst (λ o. IfSome o (λ k. limit ≤ k)) c.pass.invariant.same c.pass.invariant.past) (subst (λ o. IfSome o (λ k. limit ≤ k)) c.other.invariant.same c.other.invariant.past)

pub returns-clause-both : goal.returns-clause-both
returns-clause-both g c =
    let v = ap (λ p. p.turn) c.pass.view_is ∙ c.requires.idle.0 in
    let w = c.other.inside.seat.me.0 in
    let me : c.join_seat.new.seat.me ≡ (joined c.pass.inside.seat.me.0 w, []) = c.join_seat.ensures.2 ∙ ap (λ l. (joined c.pass.inside.seat.me.0 w, l)) (c.pass.invariant.out v).0 in
    let both = both_seen g.L.Log.list g.L.Log.base (step 0 0 0 0 none) c.pass.inside.seat.me.0 w c.join_seat.new.seat.me c.load.new.seat.me c.load.result me c.load.ensures.2 in
    (subst (λ q. Follows q.numbers q.seen c.load.new.seat.me.0.seen) c.pass.view_is both.0, subst (λ q. Follows q.numbers q.seen c.load.new.seat.me.0.seen) c.other.view_is both.1)

pub returns-clause-grows : goal.returns-clause-grows
returns-clause-grows g c =
    let v = ap (λ p. p.turn) c.pass.view_is ∙ c.requires.idle.0 in
    let w = c.other.inside.seat.me.0 in
    let me : c.join_seat.new.seat.me ≡ (joined c.pass.inside.seat.me.0 w, []) = c.join_seat.ensures.2 ∙ ap (λ l. (joined c.pass.inside.seat.me.0 w, l)) (c.pass.invariant.out v).0 in
    let both = both_grow g.L.Log.list g.L.Log.base (step 0 0 0 0 none) c.pass.inside.seat.me.0 w c.join_seat.new.seat.me c.load.new.seat.me c.load.result me c.load.ensures.2 in
    let here = ap (λ p. p.lock.passes) c.pass.view_is ∙ ap (λ l. l.passes) c.requires.lock.0 in
    (subst (λ n. GrowsBelow n c.args.pass.now.seen c.load.new.seat.me.0.seen) here (subst (λ q. GrowsBelow c.pass.inside.seat.me.0.passes q.seen c.load.new.seat.me.0.seen) c.pass.view_is both.0), subst (λ n. GrowsBelow n c.args.other.seen c.load.new.seat.me.0.seen) here (subst (λ q. GrowsBelow c.pass.inside.seat.me.0.passes q.seen c.load.new.seat.me.0.seen) c.other.view_is both.1))
