use Rattle.std.proofs.Common.{◌≡◌, ◌<◌, ◌^◌, ◌+◌, ◌++◌, ◌∷◌, [], ℕ, List, length, sym, ap, ◌∙◌, subst, arith, length-append}
use Rattle.std.specs.Prelude.{All}
use Rattle.std.proofs.lemmas.List.Elements.{All-push}
use Rattle.dn_openings.specs.Evidence.{AreEnvelopes}
use Rattle.dn_openings.proofs.KeptLemmas.{pad_none, pad_found, envelopes_more, short_pad}
use Rattle.dn_openings.proofs.looking.envelopes.Goals as goal

pub unreachable-requires : goal.unreachable-requires
unreachable-requires c =
    let opened = c.requires c.loop-j.j c.loop-j-test.true in
    pad_none c.args.kept.now c.args.place c.loop-j.j c.in_default.ensures opened.pad opened.signed

pub loop-j-preserved : goal.loop-j-preserved
loop-j-preserved c =
    let pad = c.in-Some.pad.now in
    let found = pad_found c.args.kept.now c.args.place c.loop-j.j pad c.in-Some.ensures in
    let bytes : c.of.result ≡ pad.bytes = c.of.ensures ∙ c.in_ok-from_slice.ensures.items ∙ c.bytes.ensures.value in
    let items : c.push.new.self.items ≡ c.loop-j.list.items ++ pad.bytes ∷ [] = c.in_ok-push.ensures.items ∙ ap (λ x. c.loop-j.list.items ++ x ∷ []) bytes in
    let short : length pad.bytes < 2 ^ 32 = short_pad pad c.args.place.r c.args.place.k found.2.0 c.bytes.ensures.said found.2.1 in (
      subst (AreEnvelopes c.args.kept.now c.args.place (c.loop-j.j + 1)) (sym items)
          (envelopes_more c.args.kept.now c.args.place c.loop-j.j c.loop-j.list.items pad c.loop-j.invariant.0 c.in-Some.ensures),
      omega (arith, ap length items, length-append c.loop-j.list.items (pad.bytes ∷ []), c.loop-j.invariant.1),
      subst (All (λ (e : List ℕ). length e < 2 ^ 32)) (sym items)
          (All-push (λ (e : List ℕ). length e < 2 ^ 32) c.loop-j.list.items pad.bytes c.loop-j.invariant.2 short),
    )
