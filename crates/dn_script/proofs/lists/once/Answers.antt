use Rattle.std.proofs.Common.{◌≡◌, ◌+◌, [], arith, sym, ◌∙◌}
use Rattle.dn_script.specs.Judged.{seen_as}
use Rattle.dn_script.specs.Script.{read_once}
use Rattle.dn_script.proofs.RowLaws.{once_goes_on, once_again, once_refused, once_done}
use Rattle.dn_script.proofs.lists.once.Goals as goal

pub returns-in-Err : goal.returns-in-Err
returns-in-Err c =
    rw c.bad.ensures (once_refused (seen_as c.args.group) c.loop-text.n c.loop-text.members.items c.in-Some.text.now c.loop-text.words c.take.new.self c.in-Err.flaw
    (read_once (seen_as c.args.group) 1 [] c.args.words.now) c.in-Some.ensures (sym c.member.ensures ∙ c.in-Err.is) c.loop-text.invariant)

pub returns-then-is_among : goal.returns-then-is_among
returns-then-is_among c =
    let again = rw c.deref.ensures.value at (sym c.is_among.ensures ∙ c.if-is_among.true) in
    rw c.bad-then-is_among.ensures (once_again (seen_as c.args.group) c.loop-text.n c.loop-text.members.items c.in-Some.text.now c.loop-text.words c.take.new.self c.in-Ok.member
    (read_once (seen_as c.args.group) 1 [] c.args.words.now) c.in-Some.ensures (sym c.member.ensures ∙ c.in-Ok.is) again c.loop-text.invariant)

pub loop-text-preserved : goal.loop-text-preserved
loop-text-preserved c =
    let other = rw c.deref.ensures.value at (sym c.is_among.ensures ∙ c.if-is_among.false) in
    let next : c.in-Some-checked_add.next ≡ c.loop-text.n + 1 = omega (arith, c.in-Some-checked_add.ensures) in
    rw (next, c.in_ok-push.ensures.items) (once_goes_on (seen_as c.args.group) c.loop-text.n c.loop-text.members.items c.in-Some.text.now c.loop-text.words c.take.new.self c.in-Ok.member
    (read_once (seen_as c.args.group) 1 [] c.args.words.now) c.in-Some.ensures (sym c.member.ensures ∙ c.in-Ok.is) other c.loop-text.invariant)

pub returns : goal.returns
returns c =
    once_done (seen_as c.args.group) c.loop-text.n c.loop-text.members.items c.loop-text.words (read_once (seen_as c.args.group) 1 [] c.args.words.now) c.in_default.ensures c.loop-text.invariant
