use Rattle.std.proofs.Common.{rules, ◌≡◌, [], ◌∷◌, refl, sym, subst, ◌∙◌}
use Rattle.std.specs.Prelude.{Result, Ok, Err}
use Rattle.std.proofs.lemmas.List.{append-nil}
use Rattle.std.proofs.lemmas.Result.{IfOk-weaker}
use Rattle.dn_client.specs.declared.submitting.Submission.{Submission}
use Rattle.dn_client.specs.declared.submitting.SubmitFault.{SubmitFault}
use Rattle.dn_report.specs.declared.outcome.Outcome.TheVariants as outcomes
use Rattle.dn_state.specs.Inside.{parts_of}
use Rattle.dn_state.specs.Members.{Turns}
use Rattle.dn_state.specs.Calling.{GivesSubmission, Submits}
use Rattle.dn_state.proofs.Lengths.{submitted_within}
use Rattle.dn_state.proofs.ClientLemmas.{submits_given, submits_none, refuses_given}
use Rattle.dn_state.proofs.calling.submit.Goals as goal

pub returns-in_default-clause-submits : goal.returns-in_default-clause-submits
returns-in_default-clause-submits c =
    let old = parts_of c.state.inside in
    let new = parts_of record c.state.inside { clients = c.submission_of.new.clients } in
    let i = c.args.client in
    let j = c.args.server in
    let r = c.args.r in (
      [],
      subst (λ v. Submits i j r v new []) c.state.view_is (submits_none old i c.submission_of.new.clients.items new [] j r c.in_default.ensures refl refl),
      sym (append-nil c.args.outcomes.now.items),
    )

pub put_submission-requires : goal.put_submission-requires
put_submission-requires c =
    let old = parts_of c.state.inside in
    let r = c.args.r in
    let s = c.in-Ok.submission in
    let is : c.in-Some.given ≡ Ok s = search rules in
    let turns =
    subst (λ (given : Result Submission SubmitFault). Turns old.clients c.submission_of.new.clients.items c.args.client.0 (λ before after. GivesSubmission r before given after)) is
    c.in-Some.ensures in
    submitted_within turns.before r s turns.after turns.called.0 turns.called.1

pub returns-in-Ok-clause-submits : goal.returns-in-Ok-clause-submits
returns-in-Ok-clause-submits c =
    let old = parts_of c.state.inside in
    let new = c.put_submission.new.state in
    let i = c.args.client in
    let j = c.args.server in
    let r = c.args.r in
    let s = c.in-Ok.submission in
    let clients = c.submission_of.new.clients.items in
    let is : c.in-Some.given ≡ Ok s = search rules in
    let turns =
    subst (λ (given : Result Submission SubmitFault). Turns old.clients clients i.0 (λ before after. GivesSubmission r before given after)) is c.in-Some.ensures in
    IfOk-weaker c.put_submission.result _ _
    (λ _ done. (done.0, subst (λ v. Submits i j r v new done.0) c.state.view_is (submits_given old i clients new done.0 j r s turns done.1), done.2))
    c.put_submission.ensures.puts

pub returns-in-Err-clause-submits : goal.returns-in-Err-clause-submits
returns-in-Err-clause-submits c =
    let old = parts_of c.state.inside in
    let new = parts_of record c.state.inside { clients = c.submission_of.new.clients } in
    let i = c.args.client in
    let j = c.args.server in
    let r = c.args.r in
    let f = c.in-Err.fault in
    let clients = c.submission_of.new.clients.items in
    let is : c.in-Some.given ≡ Err f = search rules in
    let turns =
    subst (λ (given : Result Submission SubmitFault). Turns old.clients clients i.0 (λ before after. GivesSubmission r before given after)) is c.in-Some.ensures in
    IfOk-weaker c.ignore.result _ _
    (λ _ done. (
      outcomes.Ignored done.0 ∷ [],
      subst (λ v. Submits i j r v new (outcomes.Ignored done.0 ∷ [])) c.state.view_is
          (refuses_given old i clients new (outcomes.Ignored done.0 ∷ []) j r f done.0 turns (sym c.submit_word.ensures ∙ done.1) refl refl),
      done.2,
    ))
    c.ignore.ensures
