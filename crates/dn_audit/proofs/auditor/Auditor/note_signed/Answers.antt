use Rattle.std.proofs.Common.{◌≡◌, ◌⊎◌, ap, subst, ◌∙◌}
use Rattle.std.specs.Prelude.{OnOk, Contains, ◌↔◌}
use Rattle.dn_records.specs.Records.{statement_bytes}
use Rattle.dn_roster.specs.Roster.{digest_of, signed_bytes_of}
use Rattle.dn_audit.specs.Auditor.{AuditorView, NotesSigned}
use Rattle.dn_audit.proofs.Audits.{on_ok, notes}
use Rattle.dn_audit.proofs.auditor.Auditor.note_signed.Goals as goal

pub returns : goal.returns
returns c =
    let old : AuditorView = record { signed = c.self.inside.signings; are_theirs = c.self.inside.are_theirs; seeds = c.self.inside.seeds; ciphers = c.self.inside.ciphers; sums = c.self.inside.sums } in
    let digest = digest_of c.args.roster.now in
    let bytes = signed_bytes_of digest c.args.said.now.signer (statement_bytes c.args.said.now.statement) in
    let statement = c.deref.ensures.value ∙ c.in_ok-statement.ensures ∙ ap statement_bytes c.statement.ensures.value in
    let is : c.in_ok-signed.signed.items ≡ bytes = c.in_ok-signed.ensures ∙ (λ k. signed_bytes_of digest (c.signer.ensures.value k) (statement k)) in
    subst (λ (v : AuditorView). OnOk c.add.result (NotesSigned v (record old { signed = c.add.new.self }) bytes)) c.self.view_is
    (on_ok c.add.result _ _ (λ h. notes old c.add.new.self bytes (λ x. subst (λ b. Contains c.add.new.self x ↔ (Contains old.signed x ⊎ (x ≡ b))) is (h x))) c.add.ensures)
