use Rattle.std.proofs.Common.{ap, refl, sym, ◌∙◌, ◌++◌, ◌∷◌, [], arith}
use Rattle.dn_counts.specs.Numbers.{least}
use Rattle.dn_gate.specs.Pass.{included, came_late}
use Rattle.dn_told.specs.declared.told.WindowTold.TheVariants.{Late}
use Rattle.dn_crew.specs.Shares.{Shown}
use Rattle.dn_crew.proofs.ShareLemmas.{drew_in, drew_late, repeated, counted_draw, counted_repeat}
use Rattle.dn_crew.proofs.sharing.submit_one.Goals as goal

pub overflow_sub-seen : goal.overflow_sub-seen
overflow_sub-seen c = omega (arith, (c.in-Late.ensures.late c.in-Late.seen c.in-Late.back refl).1)

pub returns-in_ok-push-in-Included-clause-recorded : goal.returns-in_ok-push-in-Included-clause-recorded
returns-in_ok-push-in-Included-clause-recorded c =
    let place = c.in-Included.place in
    let put = (c.in-Included.ensures.included place refl).2 in
    let client = c.requires.member in
    drew_in c.args._list.now c.args._worker c.args.share.now.pass c.submit.new.pass _ _ c.args.share.now.repeats.items (included place c.args.member.0.0) _
    c.requires.recorded (ap (λ p. p.draws) put)
    (ap (λ p. p.values) put ∙ ap (λ i. c.args.share.now.pass.values ++ (i, c.args.member.1) ∷ []) (sym client)) (ap (λ p. p.repeats) put)
    c.in_ok-push-in-Included.ensures.items (cc (client, c.from.ensures)) refl

pub returns-in_ok-push-in-Included-clause-counted : goal.returns-in_ok-push-in-Included-clause-counted
returns-in_ok-push-in-Included-clause-counted c = λ h. counted_draw h _ _ _ _ c.in_ok-push-in-Included.ensures.items

pub returns-in_ok-push-in-Late-clause-recorded : goal.returns-in_ok-push-in-Late-clause-recorded
returns-in_ok-push-in-Late-clause-recorded c =
    let seen = c.in-Late.seen in
    let put = (c.in-Late.ensures.late seen c.in-Late.back refl).2 in
    let client = c.requires.member in
    drew_late c.args._list.now c.args._worker c.args.share.now.pass c.submit.new.pass _ _ c.args.share.now.repeats.items (came_late c.args.member.0.0 seen) _
    c.requires.recorded (ap (λ p. p.draws) put) (ap (λ p. p.values) put) (ap (λ p. p.repeats) put)
    c.in_ok-push-in-Late.ensures.items (ap (λ i. let s : Shown = ((came_late c.args.member.0.0 seen).place, i, Late) in s) (sym client)) refl

pub returns-in_ok-push-in-Late-clause-counted : goal.returns-in_ok-push-in-Late-clause-counted
returns-in_ok-push-in-Late-clause-counted c = λ h. counted_draw h _ _ _ _ c.in_ok-push-in-Late.ensures.items

pub returns-in_ok-push-in-Repeat-clause-recorded : goal.returns-in_ok-push-in-Repeat-clause-recorded
returns-in_ok-push-in-Repeat-clause-recorded c =
    let put = (c.in-Repeat.ensures.repeat c.in-Repeat.back refl).1 in
    repeated c.args._list.now c.args._worker c.args.share.now.pass c.submit.new.pass c.args.share.now.draws.items c.args.share.now.repeats.items _ c.args.member.1 c.args.member.0.0
    c.requires.recorded (ap (λ p. p.draws) put) (ap (λ p. p.values) put)
    (ap (λ p. p.repeats) put ∙ ap (λ ns. c.args.share.now.pass.repeats ++ (least ns, c.args.member.0.0) ∷ []) c.requires.ready.1)
    c.in_ok-push-in-Repeat.ensures.items c.requires.member

pub returns-in_ok-push-in-Repeat-clause-counted : goal.returns-in_ok-push-in-Repeat-clause-counted
returns-in_ok-push-in-Repeat-clause-counted c = λ h. counted_repeat h _ _ _ _ c.in_ok-push-in-Repeat.ensures.items
