use Rattle.std.proofs.Common.{◌≡◌, ◌*◌, ◌<◌, take, drop}
use Rattle.std.specs.Prelude.{◌↔◌}
use Rattle.std.specs.List.{All}
use Rattle.hex.specs.Hex.{decode_pairs}
use Rattle.hex.proofs.Pairs.{prepend}
use Rattle.dn_lines.specs.Digits.{IsLowerDigit}
use Rattle.dn_lines.proofs.hex_text.decode_digits.Given as goal

abbrev pub invariant-pairs : goal.invariant-pairs
invariant-pairs l =
    ((l.greatest < 16) ↔ All IsLowerDigit (take (2 * l.i) l.text))
    × (l.greatest < 16 → decode_pairs 0 l.text ≡ prepend (take l.i l.out) (decode_pairs (2 * l.i) (drop (2 * l.i) l.text)))
