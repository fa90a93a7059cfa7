-- The lines of signed entries, one behind the other.
use Rattle.std.proofs.Common.{◌≡◌, ℕ, ◌+◌, ◌<◌, List, [], ◌++◌, length, refl, sym, ap, ◌∙◌, append-nil, append_assoc, get_or}
use Rattle.std.specs.Prelude.{codes}
use Rattle.std.proofs.lemmas.List.{get_or_default}
use Rattle.dn_roster.proofs.DealingLemmas.{flat_map-more}
use Rattle.dn_lms_definitions.specs.Key.{height, leaves_of}
use Rattle.dn_hss.specs.Hss.{TwoLevelKey, hss_count, hss_public_key}
use Rattle.dn_notary.specs.Signed.{line, key_text, sign_text, signed, signed_line, signed_lines, notary_key, notary_text}

-- nothing is written yet
pub none_yet : (key : TwoLevelKey) (entries : List (List ℕ)) (before : List ℕ) → before ≡ before ++ signed_lines key entries 0
unfolding signed_lines
none_yet key entries before = sym (append-nil before)

-- one more is written
pub one_more : (key : TwoLevelKey) (entries : List (List ℕ)) (before now next entry : List ℕ) (n m : ℕ) → n < length entries → entry ≡ get_or entries n entry → m ≡ n
    → now ≡ before ++ signed_lines key entries n → next ≡ now ++ line (sign_text (signed key m entry)) → next ≡ before ++ signed_lines key entries (n + 1)
unfolding signed_lines
one_more key entries before now next entry n m lt is same so_far more =
    let at : entry ≡ get_or entries n [] = is ∙ get_or_default entries n entry [] lt in
    let text : line (sign_text (signed key m entry)) ≡ signed_line key entries n = rw (same, at) refl in
    more ∙ ap (λ (l : List ℕ). l ++ line (sign_text (signed key m entry))) so_far ∙ append_assoc before (signed_lines key entries n) (line (sign_text (signed key m entry)))
    ∙ ap (λ (l : List ℕ). before ++ l) (ap (λ (l : List ℕ). signed_lines key entries n ++ l) text ∙ sym (flat_map-more (signed_line key entries) n))

-- the notary's key has 1,024 leaves
pub leaves_of_notary : (num : ℕ) → hss_count (notary_key num) ≡ 1024
unfolding hss_count leaves_of height
leaves_of_notary num = refl

-- the pieces of a signed list
pub list_made : (num : ℕ) (entries : List (List ℕ)) (key : TwoLevelKey) (public v o1 o2 o3 o4 : List ℕ) → key ≡ notary_key num → public ≡ hss_public_key key → v ≡ []
    → o1 ≡ v ++ codes "dissent-notary 1\n" → o2 ≡ o1 ++ line (key_text public) → o3 ≡ o2 ++ signed_lines key entries (length entries) → o4 ≡ o3 ++ codes "end\n"
    → o4 ≡ notary_text num entries
unfolding notary_text
list_made num entries key public v o1 o2 o3 o4 ek ep ev e1 e2 e3 e4 = rw (e4, e3, e2, e1, ev, ep, ek) refl
