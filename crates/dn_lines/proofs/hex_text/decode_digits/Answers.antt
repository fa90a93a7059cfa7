use Rattle.std.proofs.Common.{◌≡◌, ℕ, ◌+◌, ◌*◌, ◌%◌, ◌<◌, Bool, true, false, nat_lt, max, List, length, take, get_or, Ok, refl, subst, ap, ◌∙◌, arith}
use Rattle.std.specs.Prelude.{◌↔◌}
use Rattle.std.specs.Bool.{OnTrue}
use Rattle.std.specs.List.{All}
use Rattle.std.proofs.lemmas.Bool.Decides.{Decides-ltb}
use Rattle.std.proofs.lemmas.List.{take_all}
use Rattle.hex.specs.Hex.{decode_of}
use Rattle.hex.proofs.HexLemmas.{decode_of-even}
use Rattle.hex.proofs.Pairs.{decode_step, decode_done}
use Rattle.dn_lines.specs.Digits.{lower_value, IsLowerDigit}
use Rattle.dn_lines.proofs.DigitLaws.{pair_more, pair_read}
use Rattle.dn_lines.proofs.hex_text.decode_digits.Goals as goal

pub pairs-preserved : goal.pairs-preserved
pairs-preserved c =
    let s = c.args.text.now in
    let i = c.pairs.i in
    let a = c.lower_value-high.result in
    let b = c.lower_value-low.result in
    let ea : a ≡ lower_value (get_or s (2 * i) 0) = c.lower_value-high.ensures in
    let eb : b ≡ lower_value (get_or s (2 * i + 1) 0) = c.lower_value-low.ensures in
    let m : c.max-greatest.result ≡ max (max c.pairs.greatest a) b = c.max-greatest.ensures ∙ ap (λ (x : ℕ). max x b) c.max.ensures in
    let fits : 2 * i + 1 < length s = omega arith in (
      rw m (pair_more s i c.pairs.greatest a b fits c.pairs.invariant.0 ea eb),
      λ h.
          let less : max (max c.pairs.greatest a) b < 16 = rw m at h in
          let old : c.pairs.greatest < 16 = omega arith in
          let la : lower_value (get_or s (2 * i) 0) < 16 = omega arith in
          let lb : lower_value (get_or s (2 * i + 1) 0) < 16 = omega arith in
          rw (ea, eb) (decode_step s c.pairs.out i (lower_value (get_or s (2 * i) 0) % 16 * 16 + lower_value (get_or s (2 * i + 1) 0) % 16) fits (omega arith) (pair_read (get_or s (2 * i) 0) (get_or s (2 * i + 1) 0) (2 * i) la lb) (c.pairs.invariant.1 old)),
    )

pub returns-clause-digits : goal.returns-clause-digits
returns-clause-digits c =
    let s = c.args.text.now in
    let all : take (2 * c.pairs.i) s ≡ s = take_all (2 * c.pairs.i) s (omega arith) in
    let inv : (c.pairs.greatest < 16) ↔ All IsLowerDigit s = subst (λ (t : List ℕ). (c.pairs.greatest < 16) ↔ All IsLowerDigit t) all c.pairs.invariant.0 in
    (λ h. inv.0 ((Decides-ltb c.pairs.greatest 16).0 h), λ h. (Decides-ltb c.pairs.greatest 16).1 (inv.1 h))

on_true : (b : Bool) (P : Type 0) → (b ≡ true → P) → OnTrue b P
on_true true P h = h refl
on_true false P h = tt

pub returns-clause-bytes : goal.returns-clause-bytes
returns-clause-bytes c =
    let s = c.args.text.now in
    on_true (nat_lt c.pairs.greatest 16) (decode_of s ≡ Ok c.pairs.out) (λ h.
    let less : c.pairs.greatest < 16 = grind (arith, h) in
    decode_of-even s (omega arith) ∙ decode_done s c.pairs.out c.pairs.i (omega arith) (omega arith) (c.pairs.invariant.1 less))
