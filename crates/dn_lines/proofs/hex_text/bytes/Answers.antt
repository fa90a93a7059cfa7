use Rattle.std.proofs.Common.{◌≡◌, length, drop, Ok, refl, sym, ap, ◌∙◌, arith}
use Rattle.std.proofs.lemmas.Bool.{false≢true, eq-eqb}
use Rattle.std.proofs.lemmas.List.{take_at}
use Rattle.hex.specs.Hex.{decode_of}
use Rattle.dn_lines.proofs.HexLaws.{nothing_is_no_bytes, digits_are_bytes, empty_text}
use Rattle.dn_lines.proofs.DigitLaws.{digits_are_lower, others_are_no_bytes, odd_is_no_bytes}
use Rattle.dn_lines.proofs.hex_text.bytes.Goals.{then-is_empty-via-then-is_empty, then-is_empty-via-else-is_empty+then-text-ne0}
use Rattle.dn_lines.proofs.hex_text.bytes.Goals as goal

pub returns-then-is_empty : goal.returns-then-is_empty
returns-then-is_empty c =
    let dash = c.as_slice.ensures in
    let other = rw dash at (sym c.eq.ensures ∙ c.if-eq.false) in
    elim c.then-is_empty.branch [
      | then-is_empty-via-then-is_empty w ↦ rw (empty_text c.args.text.now (sym c.is_empty.ensures ∙ w.if-is_empty.true)) nothing_is_no_bytes
      | then-is_empty-via-else-is_empty+then-text-ne0 w ↦ odd_is_no_bytes c.args.text.now other (omega arith)
    ]

pub returns-then-decode_digits : goal.returns-then-decode_digits
returns-then-decode_digits c =
    let s = c.args.text.now in
    let dash = c.as_slice.ensures in
    let other = rw dash at (sym c.eq.ensures ∙ c.if-eq.false) in
    let decoded : decode_of s ≡ Ok c.decode_digits.new.out = c.if-decode_digits.ensures.bytes in
    let len : length c.decode_digits.new.out ≡ c.in_ok-bytes.bytes.len = omega arith in
    rw (take_at c.decode_digits.new.out (drop (length c.decode_digits.new.out) c.in_ok-bytes.bytes.items) c.in_ok-bytes.bytes.len len)
    (digits_are_bytes s c.decode_digits.new.out other
    (λ e. false≢true (sym c.if-is_empty.false ∙ (c.is_empty.ensures ∙ eq-eqb (length s) 0 (ap length e))))
    (digits_are_lower s (c.if-decode_digits.ensures.digits.0 refl))
    decoded)

pub returns-else-decode_digits : goal.returns-else-decode_digits
returns-else-decode_digits c =
    let dash = c.as_slice.ensures in
    let other = rw dash at (sym c.eq.ensures ∙ c.if-eq.false) in
    others_are_no_bytes c.args.text.now other (λ all. false≢true (c.if-decode_digits.ensures.digits.1 all))
