-- Equal inputs of digests have equal parts.
use Rattle.std.proofs.Common.{zero, suc, ◌≡◌, ℕ, ◌<◌, ◌≤◌, List, [], ◌∷◌, ◌++◌, length, get_or, refl, sym, ap, ◌∙◌, arith}
use Rattle.std.specs.Prelude.{◌^◌, codes}
use Rattle.std.specs.Int.{w32, w64, to_be_bytes, from_be_bytes}
use Rattle.std.proofs.lemmas.Nat.{from_be_bytes-to_be_bytes_4, from_be_bytes-to_be_bytes_8}
use Rattle.dn_hash.specs.Inputs.{seed_input, mask_seed_input, group_input}

append_parts : (a b x y : List ℕ) → length a ≡ length b → a ++ x ≡ b ++ y → (a ≡ b) × (x ≡ y)
append_parts [] [] x y h e = (refl, e)
append_parts [] (q ∷ b) x y h e = absurd (omega arith)
append_parts (p ∷ a) [] x y h e = absurd (omega arith)
append_parts (p ∷ a) (q ∷ b) x y h e =
    let first : p ≡ q = cc in
    let others : a ++ x ≡ b ++ y = cc in
    let r = append_parts a b x y (omega arith) others in
    (λ i. first i ∷ r.0 i, r.1)

pub behind_tag : (tag x y : List ℕ) → tag ++ x ≡ tag ++ y → x ≡ y
behind_tag tag x y e = (append_parts tag tag x y refl e).1

word_is : (m n : ℕ) → m < 2 ^ 32 → n < 2 ^ 32 → to_be_bytes w32 m ≡ to_be_bytes w32 n → m ≡ n
word_is m n h g e = sym (from_be_bytes-to_be_bytes_4 m h) ∙ ap (from_be_bytes w32) e ∙ from_be_bytes-to_be_bytes_4 n g

round_is : (m n : ℕ) → m < 2 ^ 64 → n < 2 ^ 64 → to_be_bytes w64 m ≡ to_be_bytes w64 n → m ≡ n
round_is m n h g e = sym (from_be_bytes-to_be_bytes_8 m h) ∙ ap (from_be_bytes w64) e ∙ from_be_bytes-to_be_bytes_8 n g

word_parts : (m n : ℕ) (x y : List ℕ) → m < 2 ^ 32 → n < 2 ^ 32 → to_be_bytes w32 m ++ x ≡ to_be_bytes w32 n ++ y → (m ≡ n) × (x ≡ y)
word_parts m n x y h g e = let p = append_parts (to_be_bytes w32 m) (to_be_bytes w32 n) x y refl e in (word_is m n h g p.0, p.1)

round_parts : (m n : ℕ) (x y : List ℕ) → m < 2 ^ 64 → n < 2 ^ 64 → to_be_bytes w64 m ++ x ≡ to_be_bytes w64 n ++ y → (m ≡ n) × (x ≡ y)
round_parts m n x y h g e = let p = append_parts (to_be_bytes w64 m) (to_be_bytes w64 n) x y refl e in (round_is m n h g p.0, p.1)

pub seed_parts : (i j k l : ℕ) (s t : List ℕ) → i < 2 ^ 32 → j < 2 ^ 32 → k < 2 ^ 32 → l < 2 ^ 32 → seed_input i j s ≡ seed_input k l t
    → (i ≡ k) × (j ≡ l) × (s ≡ t)
seed_parts i j k l s t hi hj hk hl e =
    let first = word_parts i k (to_be_bytes w32 j ++ s) (to_be_bytes w32 l ++ t) hi hk
    (behind_tag (codes "dnseed") (to_be_bytes w32 i ++ to_be_bytes w32 j ++ s) (to_be_bytes w32 k ++ to_be_bytes w32 l ++ t) e) in
    let second = word_parts j l s t hj hl first.1 in
    (first.0, second.0, second.1)

pub ciphertext_parts : (tag : List ℕ) (q r i j : ℕ) (c d : List ℕ) → q < 2 ^ 64 → i < 2 ^ 32 → r < 2 ^ 64 → j < 2 ^ 32
    → tag ++ (to_be_bytes w64 q ++ (to_be_bytes w32 i ++ c)) ≡ tag ++ (to_be_bytes w64 r ++ (to_be_bytes w32 j ++ d)) → (q ≡ r) × (i ≡ j) × (c ≡ d)
ciphertext_parts tag q r i j c d hq hi hr hj e =
    let first = round_parts q r (to_be_bytes w32 i ++ c) (to_be_bytes w32 j ++ d) hq hr
    (behind_tag tag (to_be_bytes w64 q ++ (to_be_bytes w32 i ++ c)) (to_be_bytes w64 r ++ (to_be_bytes w32 j ++ d)) e) in
    let second = word_parts i j c d hi hj first.1 in
    (first.0, second.0, second.1)

pub mask_seed_parts : (s t : List ℕ) (q r : ℕ) → length s ≡ length t → q < 2 ^ 64 → r < 2 ^ 64 → mask_seed_input s q ≡ mask_seed_input t r → (s ≡ t) × (q ≡ r)
mask_seed_parts s t q r h hq hr e =
    let p = append_parts s t (to_be_bytes w64 q) (to_be_bytes w64 r) h
    (behind_tag (codes "dnmasks") (s ++ to_be_bytes w64 q) (t ++ to_be_bytes w64 r) e) in
    (p.0, round_is q r hq hr p.1)

-- the tags of the two versions differ in their fifth byte
tags_differ : (x y : List ℕ) → group_input 1 x ≡ group_input 2 y → ⊥
tags_differ x y e = let k : 111 ≡ 112 = ap (λ l. get_or l 4 0) e in absurd (omega (arith, k))

pub group_parts : (v w : ℕ) (x y : List ℕ) → 1 ≤ v → v ≤ 2 → 1 ≤ w → w ≤ 2 → group_input v x ≡ group_input w y → (v ≡ w) × (x ≡ y)
group_parts zero w x y a b c d e = absurd (omega arith)
group_parts (suc v) zero x y a b c d e = absurd (omega arith)
group_parts (suc zero) (suc zero) x y a b c d e = (refl, behind_tag (codes "dngroup") x y e)
group_parts (suc zero) (suc (suc zero)) x y a b c d e = absurd (tags_differ x y e)
group_parts (suc (suc zero)) (suc zero) x y a b c d e = absurd (tags_differ y x (sym e))
group_parts (suc (suc zero)) (suc (suc zero)) x y a b c d e = (refl, behind_tag (codes "dngrp2") x y e)
group_parts (suc (suc (suc v))) w x y a b c d e = absurd (omega arith)
group_parts (suc zero) (suc (suc (suc w))) x y a b c d e = absurd (omega arith)
group_parts (suc (suc zero)) (suc (suc (suc w))) x y a b c d e = absurd (omega arith)
