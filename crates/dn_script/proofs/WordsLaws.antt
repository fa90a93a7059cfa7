-- The words of a line, taken one after the other.
use Rattle.std.proofs.Common.{◌≡◌, ℕ, zero, suc, ◌+◌, ◌<◌, ◌≤◌, Bool, true, false, List, [], ◌∷◌, ◌++◌, length, get_or, take, drop, slice_index, inl, inr, refl, sym, ap, ◌∙◌, arith, add-one, drop-cons, append-nil, length-drop}
use Rattle.std.specs.Prelude.{nat_lt, ◌==◌}
use Rattle.std.specs.List.{All, filter, slice_split}
use Rattle.std.proofs.Math.ListN.{drop_of_length-le}
use Rattle.std.proofs.lemmas.Bool.{lt-ltb, false≢true, cases_eq}
use Rattle.std.proofs.lemmas.List.{take-append-drop, length-take, get_or-drop}
use Rattle.std.proofs.lemmas.List.Splits.{slice_split-cons_yes, slice_split_none, slice_split_at}
use Rattle.dn_script.specs.Words.{words_in, is_gap}

abbrev some : List ℕ → Bool
some word = nat_lt 0 (length word)

pub behind_gap : (b : ℕ) (rest : List ℕ) → is_gap b ≡ true → words_in (b ∷ rest) ≡ words_in rest
behind_gap b rest gap = ap (filter some) (slice_split-cons_yes is_gap b rest gap)

pub gap_passed : (line : List ℕ) (i : ℕ) → i < length line → is_gap (get_or line i 0) ≡ true → words_in (drop i line) ≡ words_in line → words_in (drop (i + 1) line) ≡ words_in line
gap_passed line i lt gap so_far =
    let one : words_in (drop i line) ≡ words_in (drop (suc i) line) = rw (drop-cons line i 0 lt) (behind_gap (get_or line i 0) (drop (suc i) line) gap) in
    rw add-one (sym one ∙ so_far)

pub only_gaps : (line : List ℕ) (i : ℕ) → length line ≤ i → words_in (drop i line) ≡ words_in line → words_in [] ≡ words_in line
only_gaps line i le so_far =
    let none : drop i line ≡ [] = drop_of_length-le line le in
    rw none at so_far

kept : (word : List ℕ) (parts : List (List ℕ)) → 0 < length word → filter some (word ∷ parts) ≡ word ∷ filter some parts
kept word parts lt = rw (lt-ltb 0 (length word) lt) refl

-- the first word, where it ends at a gap or with the line
first_of : (word rest : List ℕ) → All (λ b. is_gap b ≡ false) word → 0 < length word → (0 < length rest → is_gap (slice_index rest 0) ≡ true) → words_in (word ++ rest) ≡ word ∷ words_in rest
first_of word [] inside lt end =
    ap words_in (append-nil word) ∙ (ap (filter some) (slice_split_none is_gap word inside) ∙ kept word [] lt)
first_of word (g ∷ rest) inside lt end =
    ap (filter some) (slice_split_at is_gap word g rest inside (end (omega arith)))
    ∙ (kept word (slice_split is_gap rest) lt ∙ ap (λ (l : List (List ℕ)). word ∷ l) (sym (behind_gap g rest (end (omega arith)))))

pub first_word : (line : List ℕ) (n : ℕ) → n ≤ length line → 0 < n → All (λ b. is_gap b ≡ false) (take n line) → (n < length line → is_gap (slice_index line n) ≡ true)
    → words_in line ≡ take n line ∷ words_in (drop n line)
first_word line n le lt inside end =
    let long : 0 < length (take n line) = omega (arith, length-take n line) in
    let behind : 0 < length (drop n line) → is_gap (slice_index (drop n line) 0) ≡ true = λ more.
    let at : slice_index (drop n line) 0 ≡ slice_index line n = get_or-drop n line 0 0 ∙ ap (λ (k : ℕ). slice_index line k) (omega arith) in
    ap is_gap at ∙ end (omega (arith, length-drop n line)) in
    ap words_in (sym (take-append-drop n line)) ∙ first_of (take n line) (drop n line) inside long behind

positive : (n : ℕ) → (n == 0) ≡ false → 0 < n
positive zero h = cc h
positive (suc n) h = omega arith

pub first_taken : (line word rest : List ℕ) (n : ℕ) → n ≤ length line → (length line == 0) ≡ false → (0 < length line → is_gap (slice_index line 0) ≡ false) → All (λ b. is_gap b ≡ false) (take n line) → (n < length line → is_gap (slice_index line n) ≡ true)
    → word ≡ take n line → rest ≡ drop n line → words_in line ≡ word ∷ words_in rest
first_taken line word rest n le other begin inside end is behind =
    let full : 0 < length line = positive (length line) other in
    let lt : 0 < n =
    elim (cases_eq n 0) [
      | inl z ↦ absurd (false≢true (sym (begin full) ∙ (ap (λ (k : ℕ). is_gap (slice_index line k)) (sym z) ∙ end (omega arith))))
      | inr ne ↦ omega arith
    ] in
    rw (is, behind) (first_word line n le lt inside end)
