use Rattle.std.proofs.Common.{rules, ◌≡◌, ◌++◌, ◌∷◌, [], ap, ◌∙◌}
use Rattle.std.proofs.lemmas.List.{append_assoc}
use Rattle.std.proofs.lemmas.Result.{IfOk-weaker}
use Rattle.dn_state.specs.Telling.{listed_line}
use Rattle.dn_state.proofs.round_lines.tell_lines.Goals as goal

pub returns : goal.returns
returns c =
    let line = listed_line c.args.body.now in
    let before = c.args.outcomes.now.items in
    let pushed : c.push.new.self.items ≡ before ++ line ∷ [] = search rules in
    IfOk-weaker c.tell_rest.result _ _
    (λ _ rest. (line ∷ rest.0, rest.1, rest.2 ∙ ap (λ xs. xs ++ rest.0) pushed ∙ append_assoc before (line ∷ []) rest.0)) c.tell_rest.ensures
