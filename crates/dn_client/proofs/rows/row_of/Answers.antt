use Rattle.std.proofs.Common.{◌≡◌, ◌≢◌, ℕ, ◌<◌, List, length, get_or, sym, ap, ◌∙◌, arith, eqb, eq-eqb, true, false}
use Rattle.std.proofs.lemmas.List.{get_or_default}
use Rattle.dn_record_types.specs.declared.body.Listed.{Listed}
use Rattle.dn_cert.proofs.HeldLemmas.{none_of}
use Rattle.dn_client.proofs.rows.row_of.Goals.{else-at-rows-via-then-at-rows+else-eq, else-at-rows-via-else-at-rows}
use Rattle.dn_client.proofs.rows.row_of.Goals as goal

is_another : (rows : List Listed) (at i : ℕ) (read d : Listed) → at < length rows → false ≡ eqb (get_or rows at read).client.0 i → (get_or rows at d).client.0 ≢ i
is_another rows at i read d within other e =
    let same : eqb (get_or rows at read).client.0 i ≡ true = eq-eqb _ _ (ap (λ (l : Listed). l.client.0) (get_or_default rows at read d within) ∙ e) in absurd cc

pub returns-else-at-rows-clause-missing : goal.returns-else-at-rows-clause-missing
returns-else-at-rows-clause-missing c =
    let k = c.count_below-at.ensures in
    none_of (λ l. l.client.0) c.args.rows.now c.args.client.0 c.count_below-at.result c.requires k.below k.above
    (λ d within. elim c.else-at-rows.branch [
      | else-at-rows-via-then-at-rows+else-eq w ↦ is_another c.args.rows.now c.count_below-at.result c.args.client.0 _ d within (sym w.if-eq.false ∙ w.eq.ensures)
      | else-at-rows-via-else-at-rows w ↦ λ e. absurd (omega arith)
    ])
