use Rattle.std.proofs.Common.{[], ap, ◌∙◌}
use Rattle.std.proofs.lemmas.List.{append-nil}
use Rattle.dn_told.specs.Window.{answers_after}
use Rattle.dn_told.proofs.ToldLemmas.{answers_same}
use Rattle.dn_told.proofs.laws.those_before_are_there.Goals as goal

pub returns : goal.returns
returns c = λ before past events there none.
    answers_same before past there none [] events ∙ ap (λ p. answers_after [] p events) (append-nil past)
