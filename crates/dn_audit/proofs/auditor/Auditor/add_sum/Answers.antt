use Rattle.std.proofs.Common.{◌≡◌, ◌++◌, [], ◌∷◌, ap, subst, ◌∙◌}
use Rattle.std.specs.Prelude.{OnOk}
use Rattle.std.specs.Int.{w32, w64, to_be_bytes}
use Rattle.dn_hash.specs.Digests.{server_digest_of}
use Rattle.dn_audit.specs.Strings.{Hashed}
use Rattle.dn_audit.specs.Auditor.{AuditorView, AddsStrings, hashed_sum}
use Rattle.dn_audit.proofs.Audits.{on_ok, adds_sum}
use Rattle.dn_audit.proofs.auditor.Auditor.add_sum.Goals as goal

pub returns : goal.returns
returns c =
    let old : AuditorView = record { signed = c.self.inside.signings; are_theirs = c.self.inside.are_theirs; seeds = c.self.inside.seeds; ciphers = c.self.inside.ciphers; sums = c.self.inside.sums } in
    let given : Hashed = record { digest = c.server_digest.result; string = c.in_ok-string.string.items } in
    let string = c.in_ok-string.ensures ∙ ap (λ x. to_be_bytes w64 c.args.r.0 ++ to_be_bytes w32 c.args.j.0 ++ x) (c.deref.ensures.value ∙ c.in_ok-bytes.ensures) in
    let digest = c.server_digest.ensures ∙ ap (λ x. server_digest_of c.args.r.0 c.args.j.0 x) (c.deref-2.ensures.value ∙ c.in_ok-bytes.ensures) in
    let same : given ≡ hashed_sum c.args.r.0 c.args.j.0 c.args.sum.now = λ k. record { digest = digest k; string = string k } in
    subst (λ (v : AuditorView). OnOk c.add.result (AddsStrings v (record old { sums = c.add.new.self }) (λ x. record x { sums = x.sums ++ hashed_sum c.args.r.0 c.args.j.0 c.args.sum.now ∷ [] }))) c.self.view_is
    (on_ok c.add.result _ _ (adds_sum old c.add.new.self given (hashed_sum c.args.r.0 c.args.j.0 c.args.sum.now) same) c.add.ensures)
