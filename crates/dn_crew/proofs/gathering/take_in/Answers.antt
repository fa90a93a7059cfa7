use Rattle.std.proofs.Common.{◌++◌, ap, ◌∙◌}
use Rattle.dn_crew.proofs.GatherLemmas.{gathered}
use Rattle.dn_crew.proofs.gathering.take_in.Goals as goal

pub returns : goal.returns
returns c = λ list W j closing refused h s.
    let e = c.join.ensures in
    gathered c.args.gate.now list W j closing refused c.args.all.now.pass c.args.share.pass c.join.new.pass _ _ _ _ _ _ h s
    e.pass.0 e.pass.2 e.numbers e.order e.both.1 e.both.2 e.both.3 e.refused
    (c.in_ok-extend_from_slice.ensures.items ∙ ap (λ l. c.args.all.now.draws.items ++ l) c.deref.ensures.value)
    (c.in_ok-extend_from_slice-2.ensures.items ∙ ap (λ l. c.args.all.now.repeats.items ++ l) c.deref-2.ensures.value)
