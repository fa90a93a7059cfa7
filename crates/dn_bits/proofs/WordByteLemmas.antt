-- Words made of bytes, and bytes made of words.
use Rattle.std.proofs.Common.{zero, suc, ◌≡◌, ℕ, ◌+◌, ◌-◌, ◌*◌, ◌/◌, ◌%◌, ◌^◌, ◌<◌, ◌≤◌, false, eqb, List, [], ◌∷◌, ◌++◌, map, length, length-append, get_or, refl, sym, ap, ◌∙◌, ⊎_elim, arith}
use Rattle.std.specs.Prelude.{nat_lt, if◌then◌else◌}
use Rattle.std.specs.List.{range_with_len}
use Rattle.std.specs.Int.{bit_at, w64, to_be_bytes, from_be_bytes}
use Rattle.std.proofs.lemmas.Bool.{cases_lt, lt-ltb, le-ltb}
use Rattle.std.proofs.lemmas.Nat.{be_bytes_8}
use Rattle.std.proofs.lemmas.Nat.Bits.{bit_at-zero}
use Rattle.std.proofs.lemmas.List.{get_or_past, get_or_append_left, get_or-append_right}
use Rattle.dn_bits.specs.Bits.{below, bit_of_bytes, first_bits}
use Rattle.dn_bits.specs.Words.{word_bit, bit_of_words, bits_of_words, byte_of_words, Holds}
use Rattle.dn_bits.specs.FirstBits.{AreFirstBits}
use Rattle.dn_bits.proofs.WordLemmas.{shifted, same_bits}

-- byte m of a word whose bytes are these
byte : (bytes : List ℕ) (word : ℕ) → to_be_bytes w64 word ≡ bytes → (m : ℕ) → m < 8 → word / 2 ^ (8 * (7 - m)) % 256 ≡ get_or bytes m 0
byte bytes word e zero lt = ap (λ l. get_or l 0 0) e
byte bytes word e (suc zero) lt = ap (λ l. get_or l 1 0) e
byte bytes word e (suc (suc zero)) lt = ap (λ l. get_or l 2 0) e
byte bytes word e (suc (suc (suc zero))) lt = ap (λ l. get_or l 3 0) e
byte bytes word e (suc (suc (suc (suc zero)))) lt = ap (λ l. get_or l 4 0) e
byte bytes word e (suc (suc (suc (suc (suc zero))))) lt = ap (λ l. get_or l 5 0) e
byte bytes word e (suc (suc (suc (suc (suc (suc zero)))))) lt = ap (λ l. get_or l 6 0) e
byte bytes word e (suc (suc (suc (suc (suc (suc (suc zero))))))) lt = (let one : word / 1 ≡ word = omega arith in ap (λ n. n % 256) one) ∙ ap (λ l. get_or l 7 0) e
byte bytes word e (suc (suc (suc (suc (suc (suc (suc (suc m)))))))) lt = absurd (omega arith)

-- the bits of a word made of eight bytes are those of the bytes
pub word_of_eight : (bytes : List ℕ) (word : ℕ) → length bytes ≡ 8 → ((i : ℕ) → get_or bytes i 0 < 256) → word ≡ from_be_bytes w64 bytes
    → (k : ℕ) → word_bit word k ≡ bit_of_bytes bytes (k % 64)
word_of_eight bytes word long small e k =
    let m = k % 64 / 8 in
    let i = 7 - k % 64 % 8 in
    let place : 63 - k % 64 ≡ 8 * (7 - m) + i = omega arith in
    ap (λ p. eqb (bit_at word p) 1) place
    ∙ ap (λ b. eqb b 1) (shifted word (8 * (7 - m)) i (omega arith))
    ∙ ap (λ x. eqb (bit_at x i) 1) (byte bytes word (be_bytes_8 bytes word long small e) m (omega arith))

-- the eight bytes from a place on, with zeros past the end
abbrev pub eight_from : List ℕ → ℕ → List ℕ
eight_from bytes at =
    get_or bytes at 0 ∷ get_or bytes (at + 1) 0 ∷ get_or bytes (at + 2) 0 ∷ get_or bytes (at + 3) 0
    ∷ get_or bytes (at + 4) 0 ∷ get_or bytes (at + 5) 0 ∷ get_or bytes (at + 6) 0 ∷ get_or bytes (at + 7) 0 ∷ []

length-eight : (bytes : List ℕ) (at : ℕ) → length (eight_from bytes at) ≡ 8
length-eight bytes at = refl

at_eight : (bytes : List ℕ) (at m : ℕ) → m < 8 → get_or (eight_from bytes at) m 0 ≡ get_or bytes (at + m) 0
at_eight bytes at zero lt = ap (λ i. get_or bytes i 0) (let e : at ≡ at + 0 = omega arith in e)
at_eight bytes at (suc zero) lt = refl
at_eight bytes at (suc (suc zero)) lt = refl
at_eight bytes at (suc (suc (suc zero))) lt = refl
at_eight bytes at (suc (suc (suc (suc zero)))) lt = refl
at_eight bytes at (suc (suc (suc (suc (suc zero))))) lt = refl
at_eight bytes at (suc (suc (suc (suc (suc (suc zero)))))) lt = refl
at_eight bytes at (suc (suc (suc (suc (suc (suc (suc zero))))))) lt = refl
at_eight bytes at (suc (suc (suc (suc (suc (suc (suc (suc m)))))))) lt = absurd (omega arith)

small_eight : (bytes : List ℕ) (at : ℕ) → ((i : ℕ) → get_or bytes i 0 < 256) → (i : ℕ) → get_or (eight_from bytes at) i 0 < 256
small_eight bytes at small i =
    ⊎_elim
    (λ (lt : i < 8). let h : get_or bytes (at + i) 0 < 256 = small (at + i) in rw (at_eight bytes at i lt) h)
    (λ (past : 8 ≤ i). rw (get_or_past (eight_from bytes at) i 0 past) (omega arith))
    (cases_lt i 8)

-- the word made of the eight bytes from a place on
pub word_from : (bytes : List ℕ) (at word : ℕ) → ((i : ℕ) → get_or bytes i 0 < 256) → word ≡ from_be_bytes w64 (eight_from bytes at)
    → (k : ℕ) → word_bit word k ≡ bit_of_bytes bytes (8 * at + k % 64)
word_from bytes at word small e k =
    let m : (8 * at + k % 64) / 8 ≡ at + k % 64 / 8 = omega arith in
    let i : (8 * at + k % 64) % 8 ≡ k % 64 % 8 = omega arith in
    word_of_eight (eight_from bytes at) word (length-eight bytes at) (small_eight bytes at small) e k
    ∙ rw (at_eight bytes at (k % 64 / 8) (omega arith), m, i) refl

-- ---- words filled from the front of bytes

-- the words below i hold the first bits of the bytes
pub record FilledBelow (words bytes : List ℕ) (n i : ℕ) : Type 0 where
  pub size : length words ≡ i
  pub each : (k : ℕ) → k / 64 < i → bit_of_words words k ≡ (if nat_lt k n then bit_of_bytes bytes k else false)

pub filled_more : (words bytes : List ℕ) (n i word front : ℕ) → FilledBelow words bytes n i
    → ((k : ℕ) → word_bit word k ≡ bit_of_bytes bytes (8 * (8 * i) + k % 64))
    → ((k : ℕ) → word_bit front k ≡ (if nat_lt (k % 64) (n - 64 * i) then word_bit word k else false))
    → FilledBelow (words ++ front ∷ []) bytes n (i + 1)
filled_more words bytes n i word front h read masked = record {
  size = length-append words (front ∷ []) ∙ ap (λ m. m + 1) h.size;
  each = λ k next. ⊎_elim
      (λ (low : k / 64 < i).
      let inside : k / 64 < length words = omega (arith, h.size) in
      rw (get_or_append_left words (front ∷ []) 0 (k / 64) inside) (h.each k low))
      (λ (high : i ≤ k / 64).
      let here : k / 64 - i ≡ 0 = omega arith in
      let place : 8 * (8 * i) + k % 64 ≡ k = omega arith in
      rw (get_or-append_right words (front ∷ []) i (k / 64) 0 h.size high, here)
      (masked k ∙ ⊎_elim
      (λ (lt : k < n).
      let within : k % 64 < n - 64 * i = omega arith in
      rw (lt-ltb (k % 64) (n - 64 * i) within, lt-ltb k n lt) (read k ∙ ap (bit_of_bytes bytes) place))
      (λ (past : n ≤ k).
      let outside : n - 64 * i ≤ k % 64 = omega arith in
      rw (le-ltb (k % 64) (n - 64 * i) outside, le-ltb k n past) refl)
      (cases_lt k n)))
      (cases_lt (k / 64) i);
}

pub filled_all : (words bytes : List ℕ) (n : ℕ) → FilledBelow words bytes n ((n + 63) / 64) → AreFirstBits words bytes n
filled_all words bytes n h = record {
  size = h.size;
  each = λ k. ⊎_elim
      (λ (inside : k / 64 < (n + 63) / 64). h.each k inside)
      (λ (past : (n + 63) / 64 ≤ k / 64).
      let long : length words ≤ k / 64 = omega (arith, h.size) in
      rw (get_or_past words (k / 64) 0 long, bit_at-zero (63 - k % 64), le-ltb k n (omega arith)) refl)
      (cases_lt (k / 64) ((n + 63) / 64));
}

pub first_view : (words bytes : List ℕ) (n : ℕ) → AreFirstBits words bytes n → bits_of_words words n ≡ first_bits bytes n
first_view words bytes n h = same_bits (bit_of_words words) (bit_of_bytes bytes) n (λ k lt. h.each k ∙ rw (lt-ltb k n lt) refl)

pub first_holds : (words bytes : List ℕ) (n : ℕ) → AreFirstBits words bytes n → Holds words n
first_holds words bytes n h = record {
  size = h.size;
  rest = λ k past. h.each k ∙ rw (le-ltb k n past) refl;
}

-- ---- words taken apart

split : {X : Type 0} (f : ℕ → X) (a m k : ℕ) → map f (range_with_len a (m + k)) ≡ map f (range_with_len a m) ++ map f (range_with_len (a + m) k)
split f a zero k =
    let none : a ≡ a + 0 = omega arith in
    let e : 0 + k ≡ k = omega arith in
    ap (λ n. map f (range_with_len a n)) e ∙ ap (λ b. map f (range_with_len b k)) none
split f a (suc m) k =
    let e : suc m + k ≡ suc (m + k) = omega arith in
    let next : a + 1 + m ≡ a + suc m = omega arith in
    ap (λ n. map f (range_with_len a n)) e
    ∙ ap (λ l. f a ∷ l) (split f (a + 1) m k ∙ ap (λ b. map f (range_with_len (a + 1) m) ++ map f (range_with_len b k)) next)

-- byte m of the word at place i
byte_in : (words : List ℕ) (i m j s : ℕ) → m < 8 → j ≡ 8 * i + m → s ≡ 56 - 8 * m → byte_of_words words j ≡ get_or words i 0 / 2 ^ s % 256
byte_in words i m j s lt e t =
    let word : j / 8 ≡ i = omega arith in
    let place : 56 - 8 * (j % 8) ≡ s = omega arith in
    rw (word, place) refl

eight_bytes : (words : List ℕ) (i a : ℕ) → a ≡ 8 * i → map (byte_of_words words) (range_with_len a 8) ≡ to_be_bytes w64 (get_or words i 0)
eight_bytes words i a e =
    rw (
      byte_in words i 0 a 56 (omega arith) (omega arith) refl,
      byte_in words i 1 (a + 1) 48 (omega arith) (omega arith) refl,
      byte_in words i 2 (a + 1 + 1) 40 (omega arith) (omega arith) refl,
      byte_in words i 3 (a + 1 + 1 + 1) 32 (omega arith) (omega arith) refl,
      byte_in words i 4 (a + 1 + 1 + 1 + 1) 24 (omega arith) (omega arith) refl,
      byte_in words i 5 (a + 1 + 1 + 1 + 1 + 1) 16 (omega arith) (omega arith) refl,
      byte_in words i 6 (a + 1 + 1 + 1 + 1 + 1 + 1) 8 (omega arith) (omega arith) refl,
      byte_in words i 7 (a + 1 + 1 + 1 + 1 + 1 + 1 + 1) 0 (omega arith) (omega arith) refl,
    ) (let one : get_or words i 0 / 1 ≡ get_or words i 0 = omega arith in rw one refl)

-- one word's bytes more
pub bytes_more : (words : List ℕ) (i : ℕ) → map (byte_of_words words) (below (8 * i)) ++ to_be_bytes w64 (get_or words i 0) ≡ map (byte_of_words words) (below (8 * (i + 1)))
bytes_more words i =
    ap (λ l. map (byte_of_words words) (below (8 * i)) ++ l) (sym (eight_bytes words i (0 + 8 * i) (omega arith)))
    ∙ sym (split (byte_of_words words) 0 (8 * i) 8)
    ∙ ap (λ n. map (byte_of_words words) (below n)) (let e : 8 * i + 8 ≡ 8 * (i + 1) = omega arith in e)
