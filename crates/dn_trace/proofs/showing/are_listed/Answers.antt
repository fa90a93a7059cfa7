use Rattle.std.proofs.Common.{◌≡◌, ℕ, ◌<◌, Bool, true, eqb, List, [], length, get_or, sym, ap, ◌∙◌, subst, arith, inl, inr}
use Rattle.std.proofs.lemmas.Bool.{iff_false, false≢true, not-false, eqb-true, eq-eqb, cases_eq}
use Rattle.std.proofs.lemmas.List.{get_or_default}
use Rattle.dn_record_types.specs.declared.body.Listed.{Listed}
use Rattle.dn_record_types.specs.declared.shown.ShownCipher.{ShownCipher}
use Rattle.dn_layout.specs.Layout.{bits_of}
use Rattle.dn_trace.specs.Trial.{round_of}
use Rattle.dn_trace.specs.Reasons.{row_of}
use Rattle.dn_trace.proofs.Matching.{Matched, matched_more, matched_all, matched_few, matched_short, matched_other}
use Rattle.dn_trace.proofs.showing.are_listed.Goals as goal
use Rattle.dn_trace.proofs.showing.are_listed.Goals.{then-at-shown-via-then-at-shown, then-at-shown-via-else-at-shown+in_ok-is_listed+then-not-branch}

no_row : Listed
no_row = record { client = record { 0 = 0 }; server = record { 0 = 0 }; digest = [] }

row_at : (items rows : List Listed) (i : ℕ) → items ≡ rows → i < length items → get_or rows i (get_or items i no_row) ≡ get_or items i no_row
row_at items rows i same lt = ap (λ l. get_or l i (get_or items i no_row)) (sym same) ∙ get_or_default items i (get_or items i no_row) no_row lt

pub returns-then-at-shown : goal.returns-then-at-shown
unfolding no_row
returns-then-at-shown c =
    let trial = c.args.case.now in
    let j = c.args.j.0 in
    let shown = c.args.shown.now in
    let f = row_of (round_of trial) j in
    let Fits : ShownCipher → Type 0 = λ x. length x.cipher ≡ bits_of trial.layout in
    let p : Listed → Bool = λ r. eqb r.server.0 j in
    let items = c.get-row-items.result.now in
    let i = c.loop-row.row-index in
    let at = c.loop-row.at in
    let same : items ≡ trial.body.listed = c.get-row-items.ensures ∙ ap (λ b. b.listed) c.body.ensures.value in
    let row = get_or items i no_row in
    let lt = c.loop-row-test.true in
    let row_is = row_at items trial.body.listed i same lt in
    let within : i < length trial.body.listed = subst (λ l. i < length l) same lt in
    let test : p row ≡ true = not-false (p row) (sym c.ne.ensures ∙ c.if-ne.false) in (
      (λ t. absurd (false≢true t)),
      (λ are. elim c.then-at-shown.branch [
        | then-at-shown-via-then-at-shown w ↦
            absurd (matched_short f Fits p trial.body.listed shown at i row within row_is test c.loop-row.invariant w.if-at-shown.true are.listed)
        | then-at-shown-via-else-at-shown+in_ok-is_listed+then-not-branch w ↦
            let x = w.index-shown-at.result in
            let at_lt : at < length shown = omega (arith, w.if-at-shown.false, c.loop-row.invariant.within) in
            let by : row.server.0 ≡ j = eqb-true row.server.0 j test in
            absurd (matched_other f Fits p trial.body.listed shown at i row x within row_is test at_lt (sym w.index-shown-at.is) c.loop-row.invariant
            (λ both. iff_false w.in_ok-is_listed.ensures w.if-not-branch.true (subst (λ s. row_of (round_of trial) s x ≡ row) (sym by) both.0, both.1))
            (are.listed, are.ciphers))
      ]),
    )

pub loop-row-preserved : goal.loop-row-preserved
unfolding no_row
loop-row-preserved c =
    let trial = c.args.case.now in
    let j = c.args.j.0 in
    let shown = c.args.shown.now in
    let f = row_of (round_of trial) j in
    let Fits : ShownCipher → Type 0 = λ x. length x.cipher ≡ bits_of trial.layout in
    let p : Listed → Bool = λ r. eqb r.server.0 j in
    let items = c.get-row-items.result.now in
    let i = c.loop-row.row-index in
    let at = c.loop-row.at in
    let same : items ≡ trial.body.listed = c.get-row-items.ensures ∙ ap (λ b. b.listed) c.body.ensures.value in
    let row = get_or items i no_row in
    let lt = c.loop-row-test.true in
    let row_is = row_at items trial.body.listed i same lt in
    let within : i < length trial.body.listed = subst (λ l. i < length l) same lt in
    let test : p row ≡ true = not-false (p row) (sym c.ne.ensures ∙ c.if-ne.false) in
    let x = c.index-shown-at.result in
    let at_lt : at < length shown = omega (arith, c.if-at-shown.false, c.loop-row.invariant.within) in
    let by : row.server.0 ≡ j = eqb-true row.server.0 j test in
    let both = c.in_ok-is_listed.ensures.0 c.if-not-branch.false in
    matched_more f Fits p trial.body.listed shown at i row x within row_is test at_lt (sym c.index-shown-at.is)
    (subst (λ s. row_of (round_of trial) s x ≡ row) by both.0) both.1 c.loop-row.invariant

pub returns : goal.returns
returns c =
    let trial = c.args.case.now in
    let j = c.args.j.0 in
    let shown = c.args.shown.now in
    let f = row_of (round_of trial) j in
    let Fits : ShownCipher → Type 0 = λ x. length x.cipher ≡ bits_of trial.layout in
    let p : Listed → Bool = λ r. eqb r.server.0 j in
    let same : c.get-row-items.result.now ≡ trial.body.listed = c.get-row-items.ensures ∙ ap (λ b. b.listed) c.body.ensures.value in
    let whole : c.loop-row.row-index ≡ length trial.body.listed = omega (arith, ap length same) in
    let all = subst (Matched f Fits p trial.body.listed shown c.loop-row.at) whole c.loop-row.invariant in (
      (λ t. let h = matched_all f Fits p trial.body.listed shown c.loop-row.at all (eqb-true c.loop-row.at (length shown) t) in record { listed = h.0; ciphers = h.1 }),
      (λ are. elim (cases_eq c.loop-row.at (length shown)) [
        | inl e ↦ eq-eqb c.loop-row.at (length shown) e
        | inr ne ↦ absurd (matched_few f Fits p trial.body.listed shown c.loop-row.at all ne are.listed)
      ]),
    )
