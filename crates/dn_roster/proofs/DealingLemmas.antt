-- Words of a stream, written one behind the other.
use Rattle.std.proofs.Common.{zero, suc, map, ◌≡◌, ℕ, ◌+◌, ◌≤◌, List, [], ◌∷◌, ◌++◌, length, take, drop, refl, sym, ap, ◌∙◌, arith, append-nil, length-append, length-drop}
use borrow.Rule.Slice.PartMut.{put_mid}
use Rattle.std.specs.List.{flat_map, range_with_len}
use Rattle.std.proofs.lemmas.List.{take-append-drop}
use Rattle.std.proofs.lemmas.List.Concat.{flat_map-append}
use Rattle.std.proofs.lemmas.List.FromFn.{map-range_with_len_more}

pub range-more : (i : ℕ) → range_with_len 0 (i + 1) ≡ range_with_len 0 i ++ i ∷ []
range-more i = same (i + 1) ∙ map-range_with_len_more (λ k. k) 0 i i (omega arith) ∙ ap (λ l. l ++ i ∷ []) (sym (same i))
  where
    at : (a n : ℕ) → range_with_len a n ≡ map (λ k. k) (range_with_len a n)
    at a zero = refl
    at a (suc n) = ap (λ l. a ∷ l) (at (a + 1) n)

    same : (n : ℕ) → range_with_len 0 n ≡ map (λ k. k) (range_with_len 0 n)
    same n = at 0 n

pub flat_map-more : {A : Type 0} (f : ℕ → List A) (t : ℕ) → flat_map f (range_with_len 0 (t + 1)) ≡ flat_map f (range_with_len 0 t) ++ f t
flat_map-more f t =
    ap (flat_map f) (range-more t) ∙ flat_map-append f (range_with_len 0 t) (t ∷ []) ∙ ap (λ l. flat_map f (range_with_len 0 t) ++ l) (append-nil (f t))

pub length-put_mid : (a k : ℕ) (xs ys : List ℕ) → a + k ≤ length xs → length ys ≡ k → length (put_mid a k xs ys) ≡ length xs
length-put_mid a k xs ys fits same =
    omega (
      arith,
      length-append (take a xs) (ys ++ drop k (drop a xs)),
      length-append ys (drop k (drop a xs)),
      length-drop k (drop a xs),
      length-drop a xs,
      ap length (take-append-drop a xs),
      length-append (take a xs) (drop a xs),
      same,
    )
