use Rattle.std.proofs.Common.{rules, ◌≡◌, sym, ap, ◌∙◌}
use Rattle.dn_cert.specs.declared.opened.Opened.TheVariants as opened
use Rattle.dn_payloads.specs.declared.content.Content.TheVariants as contents
use Rattle.dn_state.specs.Putting.{accused_with, accused_by}
use Rattle.dn_state.proofs.PuttingLemmas.{accuses_not}
use Rattle.dn_state.proofs.putting.note_accusation.Goals as goal

pub returns-in_ok-insert-in-Accusation : goal.returns-in_ok-insert-in-Accusation
returns-in_ok-insert-in-Accusation c =
    let before = c.args.accused.now.entries in
    let plain : c.args.content.now ≡ contents.Opened (opened.Plain c.in-Opened-Plain.said) = search rules in
    c.in_ok-insert-in-Accusation.ensures.entries
    ∙ sym (ap (λ x. accused_with x before) plain ∙ ap (λ s. accused_by s before) (sym c.statement.ensures.value ∙ c.in-Accusation.is))

pub returns-in_default-statement : goal.returns-in_default-statement
returns-in_default-statement c =
    let before = c.args.accused.now.entries in
    let plain : c.args.content.now ≡ contents.Opened (opened.Plain c.in-Opened-Plain.said) = search rules in
    sym (ap (λ x. accused_with x before) plain
    ∙ accuses_not c.in-Opened-Plain.said.statement before (λ r slot k is. c.in_default-statement.not-Accusation r slot k (c.statement.ensures.value ∙ is)))
