use Rattle.std.proofs.Common.{◌≡◌, ◌∙◌, ap}
use Rattle.std.proofs.lemmas.Result.{IfOk-weaker}
use Rattle.dn_server.specs.Parts.{live}
use Rattle.dn_trace.specs.Trial.{Trial}
use Rattle.dn_openings.specs.Evidence.{openings_of}
use Rattle.dn_openings.specs.Challenging.{AreDue, AreDueAt}
use Rattle.dn_openings.proofs.LookLemmas.{looked, laid_out, trial, digests_so, listed_so, under_so, open_so, complete_so, is_trial}
use Rattle.dn_openings.proofs.looking.due_at.Goals as goal

pub unreachable-requires-in_default-layout : goal.unreachable-requires-in_default-layout
unreachable-requires-in_default-layout g c =
    laid_out (live c.args.parts.now) c.args.place c.requires.can c.in-Some.ensures.chain c.in-Some.body.now c.in-Some.ensures.body.0 c.in-Some.ensures.body.1
    c.in_default-layout.ensures.layout

pub due-requires-clause-within : goal.due-requires-clause-within
due-requires-clause-within g c =
    let v = live c.args.parts.now in
    let b = c.in-Some.body.now in
    let are : c.deref.result.now ≡ openings_of c.args.parts.now.evidence c.args.place =
    c.deref.ensures.value ∙ c.in_ok-given.ensures ∙ ap (λ l. openings_of l c.args.place) c.get.ensures in
    (looked v c.args.place c.requires.can c.in-Some.ensures.chain b c.in-Some.ensures.body.0 c.in-Some.ensures.body.1 c.in-Some-layout.layout.now c.in-Some-layout.ensures.layout).within

pub due-requires-clause-digests : goal.due-requires-clause-digests
due-requires-clause-digests g c =
    let v = live c.args.parts.now in
    let b = c.in-Some.body.now in
    let are : c.deref.result.now ≡ openings_of c.args.parts.now.evidence c.args.place =
    c.deref.ensures.value ∙ c.in_ok-given.ensures ∙ ap (λ l. openings_of l c.args.place) c.get.ensures in
    digests_so v c.args.place c.requires.can c.in-Some.ensures.chain b c.in-Some.ensures.body.0 c.in-Some.ensures.body.1 c.in-Some-layout.layout.now c.in-Some-layout.ensures.layout c.roster.result.now c.roster.ensures.value c.deref.result.now are

pub due-requires-clause-listed : goal.due-requires-clause-listed
due-requires-clause-listed g c =
    let v = live c.args.parts.now in
    let b = c.in-Some.body.now in
    let are : c.deref.result.now ≡ openings_of c.args.parts.now.evidence c.args.place =
    c.deref.ensures.value ∙ c.in_ok-given.ensures ∙ ap (λ l. openings_of l c.args.place) c.get.ensures in
    listed_so v c.args.place c.requires.can c.in-Some.ensures.chain b c.in-Some.ensures.body.0 c.in-Some.ensures.body.1 c.in-Some-layout.layout.now c.in-Some-layout.ensures.layout c.roster.result.now c.roster.ensures.value c.deref.result.now are

pub due-requires-clause-under : goal.due-requires-clause-under
due-requires-clause-under g c =
    let v = live c.args.parts.now in
    let b = c.in-Some.body.now in
    let are : c.deref.result.now ≡ openings_of c.args.parts.now.evidence c.args.place =
    c.deref.ensures.value ∙ c.in_ok-given.ensures ∙ ap (λ l. openings_of l c.args.place) c.get.ensures in
    under_so v c.args.place c.requires.can c.in-Some.ensures.chain b c.in-Some.ensures.body.0 c.in-Some.ensures.body.1 c.in-Some-layout.layout.now c.in-Some-layout.ensures.layout c.roster.result.now c.roster.ensures.value c.deref.result.now are

pub due-requires-clause-open : goal.due-requires-clause-open
due-requires-clause-open g c =
    let v = live c.args.parts.now in
    let b = c.in-Some.body.now in
    let are : c.deref.result.now ≡ openings_of c.args.parts.now.evidence c.args.place =
    c.deref.ensures.value ∙ c.in_ok-given.ensures ∙ ap (λ l. openings_of l c.args.place) c.get.ensures in
    open_so v c.args.place c.requires.can c.in-Some.ensures.chain b c.in-Some.ensures.body.0 c.in-Some.ensures.body.1 c.in-Some-layout.layout.now c.in-Some-layout.ensures.layout c.roster.result.now c.roster.ensures.value c.deref.result.now are

pub due-requires-clause-complete : goal.due-requires-clause-complete
due-requires-clause-complete g c =
    let v = live c.args.parts.now in
    let b = c.in-Some.body.now in
    let are : c.deref.result.now ≡ openings_of c.args.parts.now.evidence c.args.place =
    c.deref.ensures.value ∙ c.in_ok-given.ensures ∙ ap (λ l. openings_of l c.args.place) c.get.ensures in
    complete_so v c.args.place c.requires.can c.in-Some.ensures.chain b c.in-Some.ensures.body.0 c.in-Some.ensures.body.1 c.in-Some-layout.layout.now c.in-Some-layout.ensures.layout c.roster.result.now c.roster.ensures.value c.deref.result.now are c.requires.complete

pub returns : goal.returns
returns g c =
    let v = live c.args.parts.now in
    let b = c.in-Some.body.now in
    let are : c.deref.result.now ≡ openings_of c.args.parts.now.evidence c.args.place =
    c.deref.ensures.value ∙ c.in_ok-given.ensures ∙ ap (λ l. openings_of l c.args.place) c.get.ensures in
    let tried : Trial = trial v c.args.place c.requires.can c.in-Some.ensures.chain b c.in-Some.ensures.body.0 c.in-Some.ensures.body.1 c.in-Some-layout.layout.now c.in-Some-layout.ensures.layout c.roster.result.now c.roster.ensures.value c.deref.result.now are in
    IfOk-weaker c.due.result (AreDue tried) (AreDueAt v c.args.place)
    (λ to due. (tried, is_trial v c.args.place c.requires.can c.in-Some.ensures.chain b c.in-Some.ensures.body.0 c.in-Some.ensures.body.1 c.in-Some-layout.layout.now c.in-Some-layout.ensures.layout c.roster.result.now c.roster.ensures.value c.deref.result.now are, due))
    c.due.ensures
