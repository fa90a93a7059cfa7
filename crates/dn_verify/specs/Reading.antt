-- The lines of a text, up to the first that is no line of a report.
use Rattle.std.specs.Prelude.{◌≡◌, ℕ, Bool, true, false, List, [], ◌∷◌, ◌++◌}
use Rattle.dn_lines.specs.Exact.{IsFree}
use Rattle.dn_report.specs.declared.line.ReportLine.{ReportLine}
use Rattle.dn_report.specs.Lines.{IsLine, line_text}

-- the text begins with these bytes and a line feed, before which none stands
pub record BeginsWith (front behind text : List ℕ) : Type 0 where
  pub parts : text ≡ front ++ 10 ∷ behind
  pub free : IsFree 10 front

-- bytes with their line feed spell a line of a report
pub record Spells (front : List ℕ) (l : ReportLine) : Type 0 where
  pub fit : IsLine l
  pub text : front ++ 10 ∷ [] ≡ line_text l

-- The text begins with these lines, and it is whole where that is all of it; else what stands behind them is no line: it has no line feed,
-- or what stands before its first line feed spells none.
pub data IsRead : List ℕ → List ReportLine → Bool → Type 0 where
  at_end : IsRead [] [] true
  unended : (text : List ℕ) → (text ≡ [] → ⊥) → IsFree 10 text → IsRead text [] false
  no_line : (text front behind : List ℕ) → BeginsWith front behind text → ((l : ReportLine) → Spells front l → ⊥) → IsRead text [] false
  line_more : (text front behind : List ℕ) (l : ReportLine) (ls : List ReportLine) (whole : Bool) → BeginsWith front behind text → Spells front l
      → IsRead behind ls whole → IsRead text (l ∷ ls) whole
