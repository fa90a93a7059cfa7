use Rattle.std.proofs.Common.{sym, subst, ◌∙◌}
use Rattle.dn_audit.specs.Auditor.{AuditorView, TellsOf}
use Rattle.dn_audit.proofs.Audits.{all_differ}
use Rattle.dn_audit.proofs.auditor.Auditor.digests_differ.Goals as goal

pub returns : goal.returns
returns c = λ x tells.
    let v : AuditorView = record { signed = c.self.inside.signings; are_theirs = c.self.inside.are_theirs; seeds = c.self.inside.seeds; ciphers = c.self.inside.ciphers; sums = c.self.inside.sums } in
    let both = all_differ v x (subst (λ (y : AuditorView). TellsOf y x) (sym c.self.view_is) tells) in
    let all = c.are_all.ensures in (
      λ h. let three = all.0 h in both.0 (sym c.differ.ensures ∙ three.0, sym c.differ-2.ensures ∙ three.1, sym c.differ-3.ensures ∙ three.2),
      λ none. let three = both.1 none in all.1 (c.differ.ensures ∙ three.0, c.differ-2.ensures ∙ three.1, c.differ-3.ensures ∙ three.2),
    )
