use Rattle.std.proofs.Common.{◌≡◌, ◌+◌, length, drop, replicate, false, sym, subst, arith}
use Rattle.std.proofs.lemmas.List.{with_items_is}
use Rattle.dn_cmd.specs.Window.{IsAt}
use Rattle.dn_cmd.proofs.WindowLemmas.{HasMet, at_start, met_none, met_more}
use Rattle.dn_cmd.proofs.window.meet_all.Goals as goal

pub loop-line-init : goal.loop-line-init
loop-line-init c =
    let none : c.in_ok-marks.marks.items ≡ replicate c.args.clients false =
    c.in_ok-marks.ensures.items_if_clones_equal (λ y h. h) in
    met_none c.args.clients c.args.lines.now c.in_ok-window.window c.in_ok-marks.marks.items c.args.text.now.items
    (at_start c.args.clients c.in_ok-window.window c.in_ok-marks.marks.items c.in_ok-window.ensures.opened c.in_ok-window.ensures.history none)

pub loop-line-preserved : goal.loop-line-preserved
loop-line-preserved c =
    let n = c.args.clients in
    let all = c.args.lines.now in
    let k = c.loop-line.line-index in
    let met = c.loop-line.invariant in
    let at = subst (λ marks. IsAt n c.loop-line.window marks met.past) (sym c.deref_mut.ensures.value) met.at in
    let long : length c.meet.new.marks ≡ c.loop-line.marks.len = omega (arith, c.meet.auto.marks, c.deref_mut.ensures.len) in
    subst (λ marks. HasMet n all (drop (k + 1) all) c.meet.new.window marks c.args.text.now.items c.meet.new.text.items)
    (sym (with_items_is c.loop-line.marks c.meet.new.marks long))
    (met_more n all k c.line-item.result c.loop-line.window c.meet.new.window c.loop-line.marks.items c.meet.new.marks
    c.args.text.now.items c.loop-line.text.items c.meet.new.text.items c.loop-line-test.true c.line-item.is met
    (c.in_ok-meet.ensures.at n met.past at) (c.in_ok-meet.ensures.text n met.past at))
