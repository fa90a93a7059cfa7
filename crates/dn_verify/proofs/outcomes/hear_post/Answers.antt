use Rattle.std.proofs.Common.{◌≡◌, ◌++◌, List, Some, sym, ap, subst, ◌∙◌}
use Rattle.std.specs.Prelude.{Option, OnOk, option_map}
use Rattle.std.proofs.lemmas.List.{append-nil}
use Rattle.dn_verify.specs.Payloads.{Carried, carried_in, heard_put}
use Rattle.dn_verify.specs.Under.{IsContentUnder}
use Rattle.dn_verify.proofs.ContentLemmas.{carried_is}
use Rattle.dn_verify.proofs.KnownLemmas.{holds_at}
use Rattle.dn_verify.proofs.outcomes.hear_post.Goals as goal

pub hear_put-requires-clause-under : goal.hear_put-requires-clause-under
hear_put-requires-clause-under c =
    holds_at (IsContentUnder c.args.roster.now) c.args.contents.now c.args.payload c.in-Some.content.now c.requires.contents c.in-Some.ensures

pub returns-in-Some-clause-heard : goal.returns-in-Some-clause-heard
returns-in-Some-clause-heard c = λ report are.
    let is = carried_is report c.args.contents.now c.args.payload are ∙ ap (option_map carried_in) (sym c.in-Some.ensures) in
    subst (λ (o : Option Carried). OnOk c.hear_put.result (c.hear_put.new.heard.items ≡ c.args.heard.now.items ++ heard_put o)) (sym is) c.hear_put.ensures.heard

pub returns-in-None-clause-heard : goal.returns-in-None-clause-heard
returns-in-None-clause-heard c = λ report are.
    let is = carried_is report c.args.contents.now c.args.payload are ∙ ap (option_map carried_in) (sym c.in-None.ensures) in
    subst (λ (o : Option Carried). c.args.heard.now.items ≡ c.args.heard.now.items ++ heard_put o) (sym is) (sym (append-nil c.args.heard.now.items))
