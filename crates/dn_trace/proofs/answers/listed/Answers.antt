use Rattle.std.proofs.Common.{◌≡◌, ℕ, ◌+◌, ◌<◌, true, false, List, [], length, get_or, set, replicate, take, refl, sym, ap, ◌∙◌, subst, arith, inl, inr}
use Rattle.std.specs.Prelude.{Contains}
use Rattle.std.proofs.lemmas.List.{take_all}
use Rattle.dn_record_types.specs.declared.body.Listed.{Listed}
use Rattle.dn_trace.specs.Reasons.{IsListed}
use Rattle.dn_trace.specs.Evidence.{Tells}
use Rattle.dn_trace.specs.Tables.{clients_of}
use Rattle.dn_trace.proofs.Marking.{tells_mark, tells_same, tells_nothing, contained_kept, contained_new, contained_cases}
use Rattle.dn_trace.proofs.answers.listed.Goals as goal

abbrev Before : List Listed → ℕ → ℕ → Type 0
Before rows n i = (r : Listed) × Contains (take n rows) r × (r.client.0 ≡ i)

pub loop-row-init : goal.loop-row-init
loop-row-init c =
    let trial = c.args.case.now in
    subst (λ l. Tells l (clients_of trial) (Before trial.body.listed 0)) (sym (c.in_ok-flags.ensures ∙ ap (λ n. replicate n false) c.clients.ensures))
    (tells_nothing (clients_of trial) (Before trial.body.listed 0) (λ i r. omega (arith, r.1.1)))

pub loop-row-preserved : goal.loop-row-preserved
loop-row-preserved c =
    let trial = c.args.case.now in
    let rows = trial.body.listed in
    let n = c.loop-row.row-index in
    let no_row : Listed = record { client = record { 0 = 0 }; server = record { 0 = 0 }; digest = [] } in
    let same : c.get-row-items.result.now ≡ rows = c.get-row-items.ensures ∙ ap (λ b. b.listed) c.body.ensures.value in
    let lt : n < length rows = subst (λ l. n < length l) same c.loop-row-test.true in
    let row = get_or rows n no_row in
    let marked : c.mark.new.flags.items ≡ set c.loop-row.flags.items row.client.0 true =
    c.mark.ensures ∙ ap (λ l. set c.loop-row.flags.items (get_or l n no_row).client.0 true) same in
    subst (λ l. Tells l (clients_of trial) (Before rows (n + 1))) (sym marked)
    (tells_mark (clients_of trial) (Before rows n) (Before rows (n + 1)) c.loop-row.flags.items c.loop-row.invariant row.client.0
    (λ i r. (r.0, contained_kept rows n no_row lt r.0 r.1, r.2))
    (λ i r. elim (contained_cases rows n no_row lt r.0 r.1) [
      | inl before ↦ inl (r.0, before, r.2)
      | inr here ↦ inr (sym (ap (λ x. x.client.0) here ∙ r.2))
    ])
    (row, contained_new rows n no_row lt, refl))

pub returns : goal.returns
returns c =
    let trial = c.args.case.now in
    let rows = trial.body.listed in
    let same : c.get-row-items.result.now ≡ rows = c.get-row-items.ensures ∙ ap (λ b. b.listed) c.body.ensures.value in
    let whole : take c.loop-row.row-index rows ≡ rows = take_all c.loop-row.row-index rows (omega (arith, ap length same)) in
    tells_same (clients_of trial) (Before rows c.loop-row.row-index) (IsListed trial) c.loop-row.flags.items c.loop-row.invariant
    (λ i r. (r.0, subst (λ l. Contains l r.0) whole r.1, r.2))
    (λ i r. (r.0, subst (λ l. Contains l r.0) (sym whole) r.1, r.2))
