use Rattle.std.proofs.Common.{◌≡◌, ap, ◌∙◌, arith, eqb, eq-eqb, true, get_or}
use Rattle.std.proofs.lemmas.List.{get_or_default}
use Rattle.dn_cert.proofs.HeldLemmas.{none_of}
use Rattle.dn_client.proofs.made.find.Goals.{else-at-made-via-then-at-made+else-eq, else-at-made-via-else-at-made}
use Rattle.dn_client.proofs.made.find.Goals as goal

pub returns-else-at-made-clause-missing : goal.returns-else-at-made-clause-missing
returns-else-at-made-clause-missing c =
    let k = c.count_below-at.ensures in
    none_of (λ m. m.r.0) c.args.made.now c.args.r.0 c.count_below-at.result c.requires k.below k.above
    (λ d within. elim c.else-at-made.branch [
      | else-at-made-via-then-at-made+else-eq w ↦ λ e.
          let round : (get_or c.args.made.now c.count_below-at.result w.index-made-at.result).r.0 ≡ c.args.r.0 =
          ap (λ m. m.r.0) (get_or_default c.args.made.now c.count_below-at.result w.index-made-at.result d within) ∙ e in
          let same : eqb (get_or c.args.made.now c.count_below-at.result w.index-made-at.result).r.0 c.args.r.0 ≡ true = eq-eqb _ _ round in absurd cc
      | else-at-made-via-else-at-made w ↦ λ e. absurd (omega arith)
    ])
