-- The text of lines, one line or one row of lines more.
use Rattle.std.proofs.Common.{◌≡◌, ◌<◌, ℕ, ◌+◌, List, [], ◌∷◌, ◌++◌, map, take, get_or, length, sym, ap, ◌∙◌, arith, append_assoc}
use Rattle.std.specs.List.{flat_map, range_with_len}
use Rattle.std.proofs.lemmas.List.{take_more, map-append, flat_map_more}
use Rattle.std.proofs.lemmas.Grind.{flat_map-append}
use Rattle.std.proofs.lemmas.List.FromFn.{map-range_with_len_more}
use Rattle.dn_roster.proofs.DealingLemmas.{flat_map-more}
use Rattle.dn_report.specs.declared.line.ReportLine.{ReportLine}
use Rattle.dn_report.specs.Lines.{line_text}
use Rattle.dn_run_report.specs.Report.{lines_text, numbers_below}

-- one line behind some
pub behind : (start before after : List ℕ) (xs : List ReportLine) (x : ReportLine) → before ≡ start ++ lines_text xs → after ≡ before ++ line_text x
    → after ≡ start ++ lines_text (xs ++ x ∷ [])
behind start before after xs x held appended = appended ∙ ap (λ l. l ++ line_text x) held ∙ flat_map_more line_text start xs x

-- some lines behind others
pub all_behind : (start before after : List ℕ) (xs ys : List ReportLine) → before ≡ start ++ lines_text xs → after ≡ before ++ lines_text ys
    → after ≡ start ++ lines_text (xs ++ ys)
all_behind start before after xs ys held appended =
    appended ∙ ap (λ l. l ++ lines_text ys) held ∙ append_assoc start (lines_text xs) (lines_text ys)
    ∙ ap (λ l. start ++ l) (sym (flat_map-append line_text xs ys))

pub line_more : (f : ℕ → ReportLine) (start before after : List ℕ) (i : ℕ) → before ≡ start ++ lines_text (map f (numbers_below i))
    → after ≡ before ++ line_text (f i) → after ≡ start ++ lines_text (map f (numbers_below (i + 1)))
line_more f start before after i held appended =
    behind start before after (map f (numbers_below i)) (f i) held appended
    ∙ ap (λ l. start ++ lines_text l) (sym (map-range_with_len_more f 0 i i (omega arith)))

pub row_more : (g : ℕ → List ReportLine) (start before after : List ℕ) (i : ℕ) → before ≡ start ++ lines_text (flat_map g (numbers_below i))
    → after ≡ before ++ lines_text (g i) → after ≡ start ++ lines_text (flat_map g (numbers_below (i + 1)))
row_more g start before after i held appended =
    all_behind start before after (flat_map g (numbers_below i)) (g i) held appended
    ∙ ap (λ l. start ++ lines_text l) (sym (flat_map-more g i))

pub taken_more : {X : Type 0} (f : X → ReportLine) (xs : List X) (i : ℕ) (x : X) (start before after : List ℕ)
    → before ≡ start ++ lines_text (map f (take i xs)) → after ≡ before ++ line_text (f x) → x ≡ get_or xs i x → i < length xs
    → after ≡ start ++ lines_text (map f (take (i + 1) xs))
taken_more f xs i x start before after held appended at within =
    behind start before after (map f (take i xs)) (f x) held appended
    ∙ ap (λ l. start ++ lines_text l) (sym (ap (map f) (take_more xs i x within) ∙ map-append f (take i xs) (get_or xs i x ∷ []) ∙ ap (λ y. map f (take i xs) ++ f y ∷ []) (sym at)))
