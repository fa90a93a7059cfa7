use Rattle.std.proofs.Common.{◌≡◌, ap, ◌∙◌, arith, eqb, eq-eqb, true}
use Rattle.std.proofs.lemmas.List.{get_or_default}
use Rattle.dn_cert.proofs.HeldLemmas.{none_of}
use Rattle.dn_cert.proofs.held.find.Goals.{else-at-held-via-then-at-held+else-eq, else-at-held-via-else-at-held}
use Rattle.dn_cert.proofs.held.find.Goals as goal

pub returns-else-at-held-clause-missing : goal.returns-else-at-held-clause-missing
returns-else-at-held-clause-missing c =
    let k = c.count_below-at.ensures in
    none_of (λ h. h.body.r.0) c.args.held.now c.args.r.0 c.count_below-at.result c.requires k.below k.above
    (λ d within. elim c.else-at-held.branch [
      | else-at-held-via-then-at-held+else-eq w ↦ λ e.
          let round : w.index-held-at.result.body.r.0 ≡ c.args.r.0 =
          ap (λ h. h.body.r.0) w.index-held-at.is ∙ ap (λ h. h.body.r.0) (get_or_default c.args.held.now c.count_below-at.result w.index-held-at.result d within) ∙ e in
          let same : eqb w.index-held-at.result.body.r.0 c.args.r.0 ≡ true = eq-eqb _ _ round in absurd cc
      | else-at-held-via-else-at-held w ↦ λ e. absurd (omega arith)
    ])
