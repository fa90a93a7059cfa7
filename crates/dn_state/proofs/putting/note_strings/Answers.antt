use Rattle.std.proofs.Common.{rules, ◌≡◌, sym, ap, ◌∙◌, subst}
use Rattle.std.specs.Prelude.{OnOk}
use Rattle.dn_cert.specs.declared.opened.Opened.TheVariants as opened
use Rattle.dn_payloads.specs.declared.content.Content.TheVariants as contents
use Rattle.dn_audit.specs.Auditor.{AddsStrings, RunStrings}
use Rattle.dn_state.specs.Putting.{with_shown_in, with_cipher}
use Rattle.dn_state.proofs.putting.note_strings.Goals as goal

pub returns-in-Submission : goal.returns-in-Submission
returns-in-Submission c =
    let cipher = c.in-Opened-Submission.cipher in
    let submission : c.args.content.now ≡ contents.Opened (opened.Submission cipher c.in-Opened-Submission.said) = search rules in
    let shows = ap (λ x. λ (strings : RunStrings). with_shown_in x strings) submission
    ∙ ap (λ s. λ (strings : RunStrings). with_cipher s cipher strings) (sym c.statement.ensures.value ∙ c.in-Submission.is) in
    subst (λ more. OnOk c.add_cipher.result (AddsStrings c.args.auditor.now c.add_cipher.new.self more)) (sym shows) c.add_cipher.ensures

pub returns-in-Opened-Plain : goal.returns-in-Opened-Plain
returns-in-Opened-Plain c =
    let plain : c.args.content.now ≡ contents.Opened (opened.Plain c.in-Opened-Plain.said) = search rules in
    subst (λ more. OnOk c.add_strings.result (AddsStrings c.args.auditor.now c.add_strings.new.self more))
    (sym (ap (λ x. λ (strings : RunStrings). with_shown_in x strings) plain)) c.add_strings.ensures
