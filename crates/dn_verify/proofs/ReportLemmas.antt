-- The lines of a text, one more of them read.
use Rattle.std.proofs.Common.{◌≡◌, ℕ, ◌+◌, ◌==◌, Bool, false, Some, List, [], ◌∷◌, ◌++◌, length, take, sym, ap, refl, subst, ◌∙◌, append_assoc, append-nil}
use Rattle.std.specs.Prelude.{Err}
use Rattle.std.proofs.Common.{arith}
use Rattle.std.proofs.lemmas.Bool.Decides.{nat_tests}
use Rattle.dn_lines.specs.declared.fault.LineFault.{LineFault}
use Rattle.dn_lines.specs.declared.fault.LineFault.TheVariants.{Grammar, NoMemory}
use Rattle.dn_lines.specs.Exact.{IsFree}
use Rattle.dn_lines.specs.Field.{Gives}
use Rattle.dn_verify.specs.Reading.{IsRead}
use Rattle.dn_verify.specs.Reading.IsRead.{at_end, unended}
use Rattle.std.specs.List.{flat_map}
use Rattle.std.proofs.lemmas.List.{take_at, length_push}
use Rattle.dn_report.specs.declared.line.ReportLine.{ReportLine}
use Rattle.dn_report.specs.Lines.{line_text}

flat_map-push : (lines : List ReportLine) (l : ReportLine) → flat_map line_text (lines ++ l ∷ []) ≡ flat_map line_text lines ++ line_text l
flat_map-push [] l = append-nil (line_text l)
flat_map-push (x ∷ lines) l =
    ap (λ (r : List ℕ). line_text x ++ r) (flat_map-push lines l) ∙ sym (append_assoc (line_text x) (flat_map line_text lines) (line_text l))

-- what stands before a byte, with that byte
take-through : (front behind : List ℕ) (c : ℕ) → take (length front + 1) (front ++ c ∷ behind) ++ behind ≡ front ++ c ∷ behind
take-through front behind c =
    let apart : front ++ c ∷ behind ≡ (front ++ c ∷ []) ++ behind = sym (append_assoc front (c ∷ []) behind) in
    let long : length (front ++ c ∷ []) ≡ length front + 1 = length_push front c in
    rw apart (ap (λ (r : List ℕ). r ++ behind) (take_at (front ++ c ∷ []) behind (length front + 1) long))

-- one more line is read
pub line_more : (text rest front behind : List ℕ) (c : ℕ) (lines : List ReportLine) (l : ReportLine) → text ≡ flat_map line_text lines ++ rest
    → rest ≡ front ++ c ∷ behind → take (length front + 1) rest ≡ line_text l → text ≡ flat_map line_text (lines ++ l ∷ []) ++ behind
line_more text rest front behind c lines l so_far cut read =
    so_far
    ∙ ap (λ (r : List ℕ). flat_map line_text lines ++ r) (cut ∙ sym (take-through front behind c) ∙ ap (λ (r : List ℕ). take (length front + 1) r ++ behind) (sym cut) ∙ ap (λ (r : List ℕ). r ++ behind) read)
    ∙ sym (append_assoc (flat_map line_text lines) (line_text l) behind)
    ∙ ap (λ (r : List ℕ). r ++ behind) (sym (flat_map-push lines l))

-- what stands before a byte, with that byte
pub front_of : (rest front behind : List ℕ) (c : ℕ) → rest ≡ front ++ c ∷ behind → take (length front + 1) rest ≡ front ++ c ∷ []
front_of rest front behind c cut =
    let apart : front ++ c ∷ behind ≡ (front ++ c ∷ []) ++ behind = sym (append_assoc front (c ∷ []) behind) in
    let long : length (front ++ c ∷ []) ≡ length front + 1 = length_push front c in
    rw (cut, apart) (take_at (front ++ c ∷ []) behind (length front + 1) long)

-- a line that is none of the form is read as none
pub unread : (e : LineFault) → e ≡ Grammar → (l : ReportLine) → Gives (λ (x : ReportLine). x) (Err e) (Some l) → ⊥
unread Grammar is l gives = cc
unread NoMemory is l gives = cc

-- what stands behind the last line feed is nothing, or no line
pub at_rest : (rest : List ℕ) (whole : Bool) → whole ≡ (length rest == 0) → IsFree 10 rest → IsRead rest [] whole
at_rest [] whole is free = subst (IsRead [] []) (sym is) at_end
at_rest (b ∷ bs) whole is free =
    let long : (length (b ∷ bs) == 0) ≡ false = grind (arith, nat_tests) in
    subst (IsRead (b ∷ bs) []) (sym (is ∙ long)) (unended (b ∷ bs) (λ e. cc) free)
