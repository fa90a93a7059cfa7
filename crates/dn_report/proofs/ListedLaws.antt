-- Lines with any number of fields, as a loop prints them.
use Rattle.std.proofs.Common.{◌≡◌, ℕ, ◌+◌, ◌<◌, List, [], ◌∷◌, ◌++◌, map, length, get_or, take, sym, ap, ◌∙◌, append-nil, append_assoc}
use Rattle.std.specs.List.{flat_map}
use Rattle.std.proofs.lemmas.List.{take_more, flat_map_more}
use Rattle.dn_lines.specs.Form.{spaced}

pub spaced_each : {A : Type 0} (first : List ℕ) (spell : A → List ℕ) (xs : List A) → spaced (first ∷ map spell xs) ≡ first ++ flat_map (λ x. 32 ∷ spell x) xs
spaced_each first spell [] = sym (append-nil first)
spaced_each first spell (x ∷ xs) = ap (λ (r : List ℕ). first ++ 32 ∷ r) (spaced_each (spell x) spell xs)

-- what was printed piece by piece
pub word_and_each : {A : Type 0} (word : List ℕ) (spell : A → List ℕ) (xs : List A) (old mid new : List ℕ) → mid ≡ old ++ word → new ≡ mid ++ flat_map (λ x. 32 ∷ spell x) xs
    → new ≡ old ++ spaced (word ∷ map spell xs)
word_and_each word spell xs old mid new first rest =
    rest ∙ (ap (λ (l : List ℕ). l ++ flat_map (λ x. 32 ∷ spell x) xs) first
    ∙ (append_assoc old word (flat_map (λ x. 32 ∷ spell x) xs) ∙ ap (λ (l : List ℕ). old ++ l) (sym (spaced_each word spell xs))))

pub words_and_each : {A : Type 0} (word text : List ℕ) (spell : A → List ℕ) (xs : List A) (old mid late new : List ℕ) → mid ≡ old ++ word → late ≡ mid ++ 32 ∷ text → new ≡ late ++ flat_map (λ x. 32 ∷ spell x) xs
    → new ≡ old ++ spaced (word ∷ text ∷ map spell xs)
words_and_each word text spell xs old mid late new first second rest =
    word_and_each text spell xs (mid ++ 32 ∷ []) late new (second ∙ sym (append_assoc mid (32 ∷ []) text)) rest
    ∙ (append_assoc mid (32 ∷ []) (spaced (text ∷ map spell xs))
    ∙ (ap (λ (l : List ℕ). l ++ 32 ∷ spaced (text ∷ map spell xs)) first ∙ append_assoc old word (32 ∷ spaced (text ∷ map spell xs))))

pub one_more : {A : Type 0} (spell : A → List ℕ) (front : List ℕ) (xs : List A) (i : ℕ) (d : A) (out : List ℕ) → i < length xs → out ≡ front ++ flat_map (λ x. 32 ∷ spell x) (take i xs)
    → out ++ 32 ∷ spell (get_or xs i d) ≡ front ++ flat_map (λ x. 32 ∷ spell x) (take (i + 1) xs)
one_more spell front xs i d out lt so_far =
    rw (so_far, take_more xs i d lt) (flat_map_more (λ x. 32 ∷ spell x) front (take i xs) (get_or xs i d))
