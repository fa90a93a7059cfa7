-- What the notary writes is accepted.
use Rattle.std.proofs.Common.{◌≡◌, ℕ, zero, suc, ◌+◌, ◌/◌, ◌%◌, ◌^◌, ◌<◌, Bool, true, false, List, [], ◌∷◌, ◌++◌, length, get_or, refl, sym, ap, subst, ◌∙◌, arith, append_assoc}
use Rattle.std.specs.Prelude.{◌==◌, ◌&&◌, not, codes, slice_index}
use Rattle.std.specs.Fmt.{decimal}
use Rattle.std.specs.List.{flat_map, range_with_len}
use Rattle.std.proofs.lemmas.Bool.{and_parts}
use Rattle.std.proofs.lemmas.List.Elements.{All-append, All-cons, All-nil}
use Rattle.hex.specs.Hex.{encode_lower, encode_with, lower_digits}
use Rattle.dn_lms_definitions.specs.Key.{height, leaves_of}
use Rattle.dn_hss.specs.Hss.{IsTwoLevelKey, tree_leaves, hss_count, hss_public_key, hss_signature}
use Rattle.dn_hss.specs.Leaves.{leaves_in}
use Rattle.dn_hss_definitions.proofs.Laws.{length-hss_public_key, hss_signature-verifies, top_leaf-signature, second_leaf-signature, long_signature}
use Rattle.dn_hss_definitions.proofs.ByteLaws.{hss_public_key_bytes, hss_signature_bytes}
use Rattle.dn_lines.specs.Exact.{IsFree}
use Rattle.dn_lines.specs.Fields.{hex_text}
use Rattle.dn_lines.proofs.FieldLaws.{decimal_free, free_from_test}
use Rattle.dn_script.specs.Script.{parts_of}
use Rattle.dn_notary.specs.declared.sign_line.SignLine.{SignLine}
use Rattle.dn_notary.specs.declared.verdict.Verdict.TheVariants.{Accepted}
use Rattle.dn_notary.specs.Signed.{head_text, end_text, key_text, sign_text, line, FitsEntry, IsList, FitsSign, notary_key, signed, signed_line, signed_lines, notary_text}
use Rattle.dn_notary.specs.Notarized.{HasLine, HasItsLeaves, Judges, JudgesText}
use Rattle.dn_notary.specs.Notarized.JudgesText.{signed_list}
use Rattle.dn_notary.specs.Tasks.{IsNotarized, IsSignedFor, count_text}
use Rattle.dn_notary.proofs.PartLemmas.{has_line}
use Rattle.dn_notary.proofs.JudgingLemmas.{ends, goes}
use Rattle.dn_notary.proofs.ListingLemmas.{entries_are_list}
use Rattle.dn_notary.proofs.SigningLemmas.{leaves_of_notary}

-- ---- no line has a line feed in it

abbrev NoFeed : ℕ → Type 0
NoFeed b = (b == 10) ≡ false

-- whether a byte doesn't stand in a text
abbrev is_free : ℕ → List ℕ → Bool
is_free c [] = true
is_free c (b ∷ text) = not (b == c) && is_free c text

not_true : (b : Bool) → not b ≡ true → b ≡ false
not_true true h = cc h
not_true false h = refl

free_at : (cs : List ℕ) (i : ℕ) → is_free 10 cs ≡ true → (slice_index cs i == 10) ≡ false
free_at [] i h = refl
free_at (c ∷ cs) zero h = not_true (c == 10) (and_parts (not (c == 10)) (is_free 10 cs) h).0
free_at (c ∷ cs) (suc i) h = free_at cs i (and_parts (not (c == 10)) (is_free 10 cs) h).1

encoded_free : (x : List ℕ) → IsFree 10 (encode_lower x)
unfolding encode_with
encoded_free [] = All-nil NoFeed
encoded_free (b ∷ x) =
    All-cons NoFeed (slice_index lower_digits (b / 16)) (slice_index lower_digits (b % 16) ∷ encode_with lower_digits x) (free_at lower_digits (b / 16) refl)
    (All-cons NoFeed (slice_index lower_digits (b % 16)) (encode_with lower_digits x) (free_at lower_digits (b % 16) refl) (encoded_free x))

hex_free : (x : List ℕ) → IsFree 10 (hex_text x)
hex_free [] = All-cons NoFeed 45 [] refl (All-nil NoFeed)
hex_free (b ∷ x) = encoded_free (b ∷ x)

blank_free : (a b : List ℕ) → IsFree 10 a → IsFree 10 b → IsFree 10 (a ++ 32 ∷ b)
blank_free a b h k = All-append NoFeed a (32 ∷ b) h (All-cons NoFeed 32 b refl k)

key_free : (key : List ℕ) → IsFree 10 (key_text key)
key_free key = blank_free (codes "key") (hex_text key) (free_from_test 10 (codes "key") refl) (hex_free key)

sign_free : (s : SignLine) → s.q < 2 ^ 64 → IsFree 10 (sign_text s)
sign_free s small =
    blank_free (codes "sign") (decimal s.q ++ 32 ∷ (hex_text s.entry ++ 32 ∷ hex_text s.signature)) (free_from_test 10 (codes "sign") refl)
    (blank_free (decimal s.q) (hex_text s.entry ++ 32 ∷ hex_text s.signature) (decimal_free 10 s.q (λ le. absurd (omega arith)) small)
    (blank_free (hex_text s.entry) (hex_text s.signature) (hex_free s.entry) (hex_free s.signature)))

-- a text that begins with a line
begins : (text behind : List ℕ) → IsFree 10 text → HasLine text (parts_of (line text ++ behind)) (parts_of behind)
begins text behind free = has_line (line text ++ behind) text behind (append_assoc text (10 ∷ []) behind, free)

-- ---- the notary's key

trees_of_notary : (num : ℕ) → tree_leaves (notary_key num) ≡ 32
unfolding leaves_of height
trees_of_notary num = refl

notary_is_key : (num : ℕ) → IsTwoLevelKey (notary_key num)
notary_is_key num = record { lms_known = (omega arith, omega arith); ots_known = (omega arith, omega arith); seed_long = refl }

-- ---- a signed entry breaks no rule

sign_fits : (num k : ℕ) (entry : List ℕ) → k < 1024 → FitsEntry entry → FitsSign (signed (notary_key num) k entry)
sign_fits num k entry lt fits = record {
  number = omega arith;
  entry_bytes = fits.0;
  short = fits.1;
  signature_bytes = (hss_signature_bytes (notary_key num) k entry).at;
}

has_leaves : (num k : ℕ) (entry : List ℕ) → k < hss_count (notary_key num) → HasItsLeaves (hss_public_key (notary_key num)) k (signed (notary_key num) k entry)
has_leaves num k entry lt =
    let key = notary_key num in
    let v = hss_signature-verifies key k entry (notary_is_key num) lt in
    let first : leaves_in (hss_public_key key) (hss_signature key k entry) ≡ (k / tree_leaves key, k % tree_leaves key) =
    rw (top_leaf-signature key k entry (notary_is_key num) lt, second_leaf-signature key k entry (notary_is_key num)) refl in
    record {
      number = refl;
      carried = record { lms_known = v.top.lms_known; ots_known = v.top.ots_known; long = long_signature key k entry (notary_is_key num) };
      leaves = first ∙ ap (λ (n : ℕ). (k / n, k % n)) (trees_of_notary num);
    }

-- ---- all lines behind the key, from entry k on, and m of them

rest_of : ℕ → List (List ℕ) → ℕ → ℕ → List ℕ
rest_of num entries k m = flat_map (signed_line (notary_key num) entries) (range_with_len k m) ++ line end_text

judged : (num : ℕ) (entries : List (List ℕ)) → IsList entries → (m k n : ℕ) → k + m ≡ length entries
    → Judges (hss_public_key (notary_key num)) (parts_of (rest_of num entries k m)) n k (Accepted (length entries))
unfolding rest_of
judged num entries list zero k n e =
    let all : k ≡ length entries = omega arith in
    subst (λ (c : ℕ). Judges (hss_public_key (notary_key num)) (parts_of (line end_text)) n k (Accepted c)) all
    (ends (hss_public_key (notary_key num)) (parts_of (line end_text)) (parts_of []) n k (begins end_text [] (free_from_test 10 end_text refl)) refl)
judged num entries list (suc m) k n e =
    let key = notary_key num in
    let entry = get_or entries k [] in
    let s = signed key k entry in
    let small : k < 1024 = omega (arith, list.few) in
    let lt : k < hss_count key = rw (leaves_of_notary num) small in
    let fits = list.fit k [] (omega arith) in
    let behind = rest_of num entries (k + 1) m in
    let text = append_assoc (line (sign_text s)) (flat_map (signed_line key entries) (range_with_len (k + 1) m)) (line end_text) in
    let first = begins (sign_text s) behind (sign_free s (omega arith)) in
    subst (λ (t : List ℕ). Judges (hss_public_key key) (parts_of t) n k (Accepted (length entries))) (sym text)
    (goes (hss_public_key key) (sign_text s) (parts_of (line (sign_text s) ++ behind)) (parts_of behind) n k s first refl (sign_fits num k entry small fits)
    (has_leaves num k entry lt, hss_signature-verifies key k entry (notary_is_key num) lt) (Accepted (length entries))
    (judged num entries list m (k + 1) (n + 1) (omega arith)))

text_is : (num : ℕ) (entries : List (List ℕ)) → notary_text num entries ≡ line head_text ++ (line (key_text (hss_public_key (notary_key num))) ++ rest_of num entries 0 (length entries))
unfolding notary_text signed_lines rest_of
text_is num entries = simp append_assoc

accepted : (num : ℕ) (entries : List (List ℕ)) → IsList entries → JudgesText (parts_of (notary_text num entries)) (Accepted (length entries))
accepted num entries list =
    let public = hss_public_key (notary_key num) in
    let rest = rest_of num entries 0 (length entries) in
    let behind = line (key_text public) ++ rest in
    subst (λ (t : List ℕ). JudgesText (parts_of t) (Accepted (length entries))) (sym (text_is num entries))
    (signed_list (parts_of behind) (parts_of rest) public (Accepted (length entries)) (begins head_text behind (free_from_test 10 head_text refl))
    ((hss_public_key_bytes (notary_key num)).at, length-hss_public_key (notary_key num) (notary_is_key num)) (begins (key_text public) rest (key_free public))
    (judged num entries list (length entries) 0 3 (omega arith)))

pub written_is_notarized : (num : ℕ) (text due : List ℕ) → (list : IsSignedFor num text due) → IsNotarized due (count_text (length list.entries))
written_is_notarized num text due list = record {
  count = length list.entries;
  accepted = subst (λ (t : List ℕ). JudgesText (parts_of t) (Accepted (length list.entries))) (sym list.signed)
      (accepted num list.entries (entries_are_list text list.entries list.listed));
  told = refl;
}
