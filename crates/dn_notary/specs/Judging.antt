-- What private functions of the judging promise each other.
use Rattle.std.specs.Prelude.{◌≡◌, ℕ, ◌+◌, List, Option, Some, None, ◌⊎◌}
use Rattle.dn_io.specs.declared.rule.Rule.{Rule}
use Rattle.dn_io.specs.declared.rule.Rule.TheVariants.{N}
use Rattle.dn_notary.specs.declared.sign_line.SignLine.{SignLine}
use Rattle.dn_notary.specs.declared.verdict.Verdict.{Verdict}
use Rattle.dn_notary.specs.Notarized.{HasItsLeaves, IsVerified, Judges}

-- the lesser of the rules that a signed entry breaks
abbrev pub BreaksAt : List ℕ → ℕ → SignLine → Rule → Type 0
BreaksAt key count s rule =
    ((rule ≡ N 2) × (HasItsLeaves key count s → ⊥))
    ⊎ ((rule ≡ N 3) × HasItsLeaves key count s × (IsVerified key s → ⊥))

-- the lines are judged so by the first of them, or as the rest of them is
abbrev pub Steps : List ℕ → List (List ℕ) → List (List ℕ) → ℕ → ℕ → Option Verdict → Type 0
Steps key parts rest line count (Some v) = Judges key parts line count v
Steps key parts rest line count None = (v : Verdict) → Judges key rest (line + 1) (count + 1) v → Judges key parts line count v
