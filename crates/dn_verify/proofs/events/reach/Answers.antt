use Rattle.std.proofs.Common.{◌≡◌, ◌++◌, List, [], Some, sym, ap, subst, ◌∙◌}
use Rattle.std.specs.Prelude.{Option, OnOk, option_map}
use Rattle.std.proofs.lemmas.List.{append-nil}
use Rattle.dn_seal.specs.Said.{SaidView}
use Rattle.dn_verify.specs.declared.content.Content.{Content}
use Rattle.dn_verify.specs.Kept.{has_mark}
use Rattle.dn_verify.specs.Known.{heard_of}
use Rattle.dn_verify.specs.Payloads.{carried_in, heard_delivered}
use Rattle.dn_verify.specs.Under.{IsContentUnder}
use Rattle.dn_verify.proofs.ContentLemmas.{carried_is}
use Rattle.dn_verify.proofs.KnownLemmas.{heard_new, heard_none, holds_at, on_done}
use Rattle.dn_verify.proofs.events.reach.Goals as goal

pub returns-then-known-clause-heard : goal.returns-then-known-clause-heard
returns-then-known-clause-heard c = λ report are.
    let items = c.args.heard.now.items in
    let none = heard_none report (has_mark c.args.reached.now) c.args.payload (sym c.has-known.ensures ∙ c.if-known.true) in
    sym (ap (λ (xs : List SaidView). items ++ xs) none ∙ append-nil items)

pub hear_delivered-requires-clause-under : goal.hear_delivered-requires-clause-under
hear_delivered-requires-clause-under c =
    holds_at (IsContentUnder c.args.roster.now) c.args.contents.now c.args.payload c.in-Some.content.now c.requires.contents (c.in-Some.ensures)

pub returns-in-Some-clause-heard : goal.returns-in-Some-clause-heard
returns-in-Some-clause-heard c = λ report are.
    let items = c.args.heard.now.items in
    let is = heard_new report (has_mark c.args.reached.now) c.args.payload (sym c.has-known.ensures ∙ c.if-known.false)
    ∙ ap heard_delivered (carried_is report c.args.contents.now c.args.payload are ∙ ap (option_map carried_in) (sym c.in-Some.ensures)) in
    subst (λ (xs : List SaidView). OnOk c.hear_delivered.result (c.hear_delivered.new.heard.items ≡ items ++ xs)) (sym is) c.hear_delivered.ensures.heard

pub returns-in-Some-clause-reached : goal.returns-in-Some-clause-reached
returns-in-Some-clause-reached c = on_done _ c.hear_delivered.result c.in_ok-note.ensures

pub returns-in-None-clause-heard : goal.returns-in-None-clause-heard
returns-in-None-clause-heard c = λ report are.
    let items = c.args.heard.now.items in
    let is = heard_new report (has_mark c.args.reached.now) c.args.payload (sym c.has-known.ensures ∙ c.if-known.false)
    ∙ ap heard_delivered (carried_is report c.args.contents.now c.args.payload are ∙ ap (option_map carried_in) (sym c.in-None.ensures)) in
    sym (ap (λ (xs : List SaidView). items ++ xs) is ∙ append-nil items)
