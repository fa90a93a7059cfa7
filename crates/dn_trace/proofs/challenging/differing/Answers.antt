use Rattle.std.proofs.Common.{◌≡◌, ℕ, ◌+◌, Bool, map, take, refl, sym, ap, ◌∙◌, subst, inl, inr}
use Rattle.std.specs.Prelude.{Contains, ◌⊎◌}
use Rattle.std.proofs.lemmas.List.{take_all}
use Rattle.dn_record_types.specs.declared.shown.ShownCipher.{ShownCipher}
use Rattle.dn_trace.specs.declared.openings.Opening.{Opening}
use Rattle.dn_bits.specs.Bits.{bit}
use Rattle.dn_cert.specs.Evidence.{shown_bit}
use Rattle.dn_bits.specs.XorAll.{xor_all}
use Rattle.dn_trace.specs.Openings.{Differs}
use Rattle.dn_trace.specs.Evidence.{Tells}
use Rattle.dn_trace.specs.Tables.{clients_of}
use Rattle.dn_trace.proofs.Differing.{DiffersIn, DiffersFirst, bits_differ, bits_same}
use Rattle.dn_trace.proofs.Marking.{tells_mark, tells_same, contained_kept, contained_new, contained_cases}
use Rattle.dn_trace.proofs.challenging.differing.Goals as goal
use Rattle.dn_trace.proofs.challenging.differing.Goals.{then-get_or_zero-pads_for, else-get_or_zero-pads_for}

pub loop-opening-preserved : goal.loop-opening-preserved
loop-opening-preserved c =
    let trial = c.args.case.now in
    let openings = c.args.openings.now in
    let n = c.loop-opening.opening-index in
    let o = c.opening-item.result in
    let lt = c.loop-opening-test.true in
    let shown = o.shown.now in
    let m = c.loop-x.x-index in
    let all : take m shown ≡ shown = take_all m shown c.loop-x-test.false in
    tells_same (clients_of trial) (λ i. DiffersFirst trial openings n i ⊎ DiffersIn trial openings (take m shown) i) (DiffersFirst trial openings (n + 1)) c.loop-x.flags.items c.loop-x.invariant
    (λ i p. elim p [
      | inl first ↦ (first.0, contained_kept openings n o lt first.0 first.1, first.2)
      | inr here ↦ (
        o,
        subst (Contains (take (n + 1) openings)) (sym c.opening-item.is) (contained_new openings n o lt),
        record { cipher = here.cipher; among = subst (λ l. Contains l here.cipher) all here.among; client = here.client; differ = here.differ },
      )
    ])
    (λ i q. elim (contained_cases openings n o lt q.0 q.1) [
      | inl before ↦ inl (q.0, before, q.2)
      | inr here ↦
          let same : o ≡ q.0 = c.opening-item.is ∙ here in
          let in_all : DiffersIn trial openings shown i = subst (λ (x : Opening). DiffersIn trial openings x.shown.now i) (sym same) q.2 in
          inr record { cipher = in_all.cipher; among = subst (λ l. Contains l in_all.cipher) (sym all) in_all.among; client = in_all.client; differ = in_all.differ }
    ])

pub loop-x-preserved : goal.loop-x-preserved
loop-x-preserved c =
    let trial = c.args.case.now in
    let openings = c.args.openings.now in
    let n = c.loop-opening.opening-index in
    let shown = c.opening-item.result.shown.now in
    let m = c.loop-x.x-index in
    let lt = c.loop-x-test.true in
    let x = c.x-item.result in
    let Old : ℕ → Type 0 = λ i. DiffersFirst trial openings n i ⊎ DiffersIn trial openings (take m shown) i in
    let New : ℕ → Type 0 = λ i. DiffersFirst trial openings n i ⊎ DiffersIn trial openings (take (m + 1) shown) i in
    let own : Bool = bit x.cipher trial.k in
    let due : Bool = xor_all (map (λ o. shown_bit o.pad.now x.client) openings) in
    let own_is : c.get_or_zero.result ≡ own = c.get_or_zero.ensures ∙ ap (bit x.cipher) c.place.ensures in
    let keep : (i : ℕ) → Old i → New i = λ i p. elim p [
      | inl first ↦ inl first
      | inr here ↦ inr record { cipher = here.cipher; among = contained_kept shown m x lt here.cipher here.among; client = here.client; differ = here.differ }
    ] in
    elim c.if-get_or_zero-pads_for.branch [
      | then-get_or_zero-pads_for w ↦
          subst (λ l. Tells l (clients_of trial) New) (sym (ap (λ v. v.items) w.flags-is ∙ w.mark.ensures))
          (tells_mark (clients_of trial) Old New c.loop-x.flags.items c.loop-x.invariant x.client.0 keep
          (λ i q. elim q [
            | inl first ↦ inl (inl first)
            | inr here ↦ elim (contained_cases shown m x lt here.cipher here.among) [
              | inl before ↦ inl (inr record { cipher = here.cipher; among = before; client = here.client; differ = here.differ })
              | inr last ↦ inr (sym here.client ∙ ap (λ y. y.client.0) (sym (c.x-item.is ∙ last)))
            ]
          ])
          (inr record {
            cipher = x;
            among = subst (Contains (take (m + 1) shown)) (sym c.x-item.is) (contained_new shown m x lt);
            client = refl;
            differ = λ e. bits_differ c.get_or_zero.result c.pads_for.result w.if-get_or_zero-pads_for.true (own_is ∙ e ∙ sym c.pads_for.ensures);
          }))
      | else-get_or_zero-pads_for w ↦
          subst (λ l. Tells l (clients_of trial) New) (sym (ap (λ v. v.items) w.flags-is))
          (tells_same (clients_of trial) Old New c.loop-x.flags.items c.loop-x.invariant keep
          (λ i q. elim q [
            | inl first ↦ inl first
            | inr here ↦ elim (contained_cases shown m x lt here.cipher here.among) [
              | inl before ↦ inr record { cipher = here.cipher; among = before; client = here.client; differ = here.differ }
              | inr last ↦
                  let same : x ≡ here.cipher = c.x-item.is ∙ last in
                  absurd (here.differ (subst (λ (y : ShownCipher). bit y.cipher trial.k ≡ xor_all (map (λ o. shown_bit o.pad.now y.client) openings)) same
                  (sym own_is ∙ bits_same c.get_or_zero.result c.pads_for.result w.if-get_or_zero-pads_for.false ∙ c.pads_for.ensures)))
            ]
          ]))
    ]

pub returns : goal.returns
returns c =
    let trial = c.args.case.now in
    let openings = c.args.openings.now in
    let n = c.loop-opening.opening-index in
    let all : take n openings ≡ openings = take_all n openings c.loop-opening-test.false in
    tells_same (clients_of trial) (DiffersFirst trial openings n) (Differs trial openings) c.loop-opening.flags.items c.loop-opening.invariant
    (λ i p. record { opening = p.0; among = subst (λ l. Contains l p.0) all p.1; cipher = p.2.cipher; shown = p.2.among; client = p.2.client; differ = p.2.differ })
    (λ i q. (q.opening, subst (λ l. Contains l q.opening) (sym all) q.among, record { cipher = q.cipher; among = q.shown; client = q.client; differ = q.differ }))
