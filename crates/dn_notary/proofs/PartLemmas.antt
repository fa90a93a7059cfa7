-- The parts of a text between line feeds.
use Rattle.std.proofs.Common.{◌≡◌, ℕ, ◌+◌, ◌≤◌, List, [], ◌∷◌, ◌++◌, length, refl, sym, ap, ◌∙◌, arith, length-append}
use Rattle.std.specs.Prelude.{◌==◌, true, false}
use Rattle.std.specs.List.{join_with_byte}
use Rattle.std.proofs.lemmas.Bool.{eqb-true, eq-eqb}
use Rattle.std.proofs.lemmas.List.Splits.{slice_split_at, slice_split_none, length-slice_split, join_with_byte-slice_split}
use Rattle.dn_lines.specs.Exact.{IsFree}
use Rattle.dn_script.specs.Script.{parts_of}
use Rattle.dn_notary.specs.Notarized.{HasLine, none_left}

pub length_after : (rest line after : List ℕ) → rest ≡ line ++ 10 ∷ after → length after + 1 ≤ length rest
length_after rest line after e = omega (arith, ap length e, length-append line (10 ∷ after))

-- a text with a line feed begins with a line
pub has_line : (rest line after : List ℕ) → (rest ≡ line ++ 10 ∷ after) × IsFree 10 line → HasLine line (parts_of rest) (parts_of after)
has_line rest line after h = record {
  first = ap parts_of h.0 ∙ slice_split_at (λ b. b == 10) line 10 after h.1 refl;
  ended = omega (arith, length-slice_split (λ b. b == 10) after);
}

-- and one with none begins with no line
pub no_feed : (rest line : List ℕ) (more : List (List ℕ)) → IsFree 10 rest → HasLine line (parts_of rest) more → ⊥
no_feed rest line more free has =
    let alone : rest ∷ [] ≡ line ∷ more = sym (slice_split_none (λ b. b == 10) rest free) ∙ has.first in
    let none : [] ≡ more = cc in
    omega (arith, has.ended, ap length none)

-- two lines with which the parts begin are one
pub same_line : (a b : List ℕ) (parts more rest : List (List ℕ)) → HasLine a parts more → HasLine b parts rest → a ≡ b
same_line a b parts more rest h k = let e : a ∷ more ≡ b ∷ rest = sym h.first ∙ k.first in cc

pub same_rest : (a b : List ℕ) (parts more rest : List (List ℕ)) → HasLine a parts more → HasLine b parts rest → more ≡ rest
same_rest a b parts more rest h k = let e : a ∷ more ≡ b ∷ rest = sym h.first ∙ k.first in cc

-- nothing stands behind the last line feed exactly where no byte does
pub nothing_behind : (after : List ℕ) → (length after == 0) ≡ true → parts_of after ≡ none_left
nothing_behind [] h = refl
nothing_behind (b ∷ after) h = absurd (omega (arith, eqb-true (length (b ∷ after)) 0 h))

pub something_behind : (after : List ℕ) → (length after == 0) ≡ false → parts_of after ≡ none_left → ⊥
something_behind after some h =
    let none : [] ≡ after = ap (join_with_byte 10) (sym h) ∙ join_with_byte-slice_split 10 after in
    let zero : (length after == 0) ≡ true = eq-eqb (length after) 0 (sym (ap length none)) in
    cc
