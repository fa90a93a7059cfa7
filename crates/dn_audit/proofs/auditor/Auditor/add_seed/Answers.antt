use Rattle.std.proofs.Common.{◌≡◌, ◌++◌, [], ◌∷◌, ap, subst, ◌∙◌}
use Rattle.std.specs.Prelude.{OnOk}
use Rattle.std.specs.Int.{w32, to_be_bytes}
use Rattle.dn_audit.specs.Strings.{Hashed}
use Rattle.dn_audit.specs.Auditor.{AuditorView, AddsStrings, hashed_seed}
use Rattle.dn_audit.proofs.Audits.{on_ok, adds_seed}
use Rattle.dn_audit.proofs.auditor.Auditor.add_seed.Goals as goal

pub returns : goal.returns
returns c =
    let old : AuditorView = record { signed = c.self.inside.signings; are_theirs = c.self.inside.are_theirs; seeds = c.self.inside.seeds; ciphers = c.self.inside.ciphers; sums = c.self.inside.sums } in
    let given : Hashed = record { digest = c.seed_commitment.result; string = c.put_bytes.new.out.items } in
    let string = c.in_ok-put_bytes.ensures.ok ∙ ap (λ x. x ++ c.args.seed.now) (c.in_ok-put_u32-2.ensures.ok
    ∙ ap (λ x. x ++ to_be_bytes w32 c.args.j.0) (c.in_ok-put_u32.ensures.ok ∙ ap (λ x. x ++ to_be_bytes w32 c.args.i.0) c.new-string.ensures.items)) in
    let same : given ≡ hashed_seed c.args.i.0 c.args.j.0 c.args.seed.now = λ k. record { digest = c.seed_commitment.ensures k; string = string k } in
    subst (λ (v : AuditorView). OnOk c.add.result (AddsStrings v (record old { seeds = c.add.new.self }) (λ x. record x { seeds = x.seeds ++ hashed_seed c.args.i.0 c.args.j.0 c.args.seed.now ∷ [] }))) c.self.view_is
    (on_ok c.add.result _ _ (adds_seed old c.add.new.self given (hashed_seed c.args.i.0 c.args.j.0 c.args.seed.now) same) c.add.ensures)
