use Rattle.std.proofs.Common.{sym, ◌∙◌}
use Rattle.dn_audit.proofs.Audits.{on_ok, adds_both, shows}
use Rattle.dn_audit.proofs.auditor.Auditor.add_strings.Goals as goal

pub returns-in-Client-Rebuttal : goal.returns-in-Client-Rebuttal
returns-in-Client-Rebuttal c =
    shows c.add_seed.result c.args.self.now c.add_seed.new.self c.args.said.now.signer _ c.args.said.now.statement _
    (sym c.signer.ensures.value ∙ c.in-Client-Rebuttal.is-0) (sym c.statement.ensures.value ∙ c.in-Client-Rebuttal.is-1) c.add_seed.ensures

pub returns-in-Server-Reveal : goal.returns-in-Server-Reveal
returns-in-Server-Reveal c =
    shows c.add_sum.result c.args.self.now c.add_sum.new.self c.args.said.now.signer _ c.args.said.now.statement _
    (sym c.signer.ensures.value ∙ c.in-Server-Reveal.is-0) (sym c.statement.ensures.value ∙ c.in-Server-Reveal.is-1) c.add_sum.ensures

pub returns-in_ok-add_sum-in-Server-Shown : goal.returns-in_ok-add_sum-in-Server-Shown
returns-in_ok-add_sum-in-Server-Shown c =
    shows c.add_shown.result c.args.self.now c.add_shown.new.self c.args.said.now.signer _ c.args.said.now.statement _
    (sym c.signer.ensures.value ∙ c.in-Server-Shown.is-0) (sym c.statement.ensures.value ∙ c.in-Server-Shown.is-1)
    (on_ok c.add_shown.result _ _ (λ h. adds_both c.args.self.now c.add_sum-in-Server-Shown.new.self c.add_shown.new.self _ _ c.in_ok-add_sum-in-Server-Shown.ensures h) c.add_shown.ensures)
