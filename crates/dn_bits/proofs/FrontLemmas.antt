-- The front of a word, and a word added to a string.
use Rattle.std.proofs.Common.{◌≡◌, ℕ, ◌+◌, ◌-◌, ◌*◌, ◌/◌, ◌%◌, ◌^◌, ◌<◌, ◌≤◌, Bool, false, eqb, List, length, get_or, set, refl, sym, ap, ◌∙◌, subst, ⊎_elim, arith, get_or-set_same, get_or-set_other}
use Rattle.std.specs.Prelude.{nat_lt, if◌then◌else◌, bit_xor}
use Rattle.std.specs.Int.{bit_at}
use Rattle.std.proofs.lemmas.Bool.{cases_eq, cases_lt, lt-ltb, le-ltb, eq-eqb, ne_eqb}
use Rattle.std.proofs.lemmas.Nat.{shr-shr, div-add-mod', pow_pos}
use Rattle.std.proofs.lemmas.Nat.Bits.{bit_at-zero, bit_at_cat_low, bit_at_cat_high}
use Rattle.dn_bits.specs.Bits.{xor, bit, add_word_at}
use Rattle.dn_bits.specs.Words.{word_bit, bit_of_words, bits_of_words, Holds}
use Rattle.dn_bits.proofs.WordLemmas.{bit-xor, same_bits, length-bits_of_words, bit-bits_of_words}

-- a word below 2 ^ 64 without its low s bits
front : (word s : ℕ) → word < 2 ^ 64 → word / 2 ^ s * 2 ^ s % 2 ^ 64 ≡ word / 2 ^ s * 2 ^ s + 0
front word s small =
    let whole : word / 2 ^ s * 2 ^ s + word % 2 ^ s ≡ word = div-add-mod' word (2 ^ s) in
    let fits : word / 2 ^ s * 2 ^ s < 2 ^ 64 = omega arith in
    omega arith

pub front_bit : (word count k : ℕ) → word < 2 ^ 64 → count < 64
    → word_bit (word / 2 ^ (64 - count) * 2 ^ (64 - count) % 2 ^ 64) k ≡ (if nat_lt (k % 64) count then word_bit word k else false)
front_bit word count k small few =
    let s = 64 - count in
    let i = 63 - k % 64 in
    ⊎_elim
    (λ (inside : k % 64 < count).
    let place : s + (i - s) ≡ i = omega arith in
    rw (front word s small, lt-ltb (k % 64) count inside)
    (ap (λ b. eqb b 1)
    (bit_at_cat_high (word / 2 ^ s) s 0 i (pow_pos s) (omega arith) ∙ ap (λ x. x % 2) (shr-shr word s (i - s)) ∙ ap (bit_at word) place)))
    (λ (past : count ≤ k % 64).
    rw (front word s small, le-ltb (k % 64) count past, bit_at_cat_low (word / 2 ^ s) s 0 i (omega arith), bit_at-zero i) refl)
    (cases_lt (k % 64) count)

pub front_all : (word count k : ℕ) → 64 ≤ count → word_bit word k ≡ (if nat_lt (k % 64) count then word_bit word k else false)
front_all word count k many = rw (lt-ltb (k % 64) count (omega arith)) refl

-- a word added to the one at place i
pub added_word : (words : List ℕ) (i word k : ℕ) → i < length words
    → bit_of_words (set words i (bit_xor (get_or words i 0) word)) k
    ≡ (if eqb (k / 64) i then xor (bit_of_words words k) (word_bit word k) else bit_of_words words k)
added_word words i word k inside =
    let v = bit_xor (get_or words i 0) word in
    let P : Bool → Type 0 = λ t. word_bit (get_or (set words i v) (k / 64) 0) k ≡ (if t then xor (bit_of_words words k) (word_bit word k) else bit_of_words words k) in
    ⊎_elim
    (λ (e : k / 64 ≡ i). subst P (sym (eq-eqb (k / 64) i e)) (rw (e, get_or-set_same words i v 0 inside) (bit-xor (get_or words i 0) word (63 - k % 64))))
    (λ (ne : k / 64 ≡ i → ⊥). subst P (sym (ne_eqb (k / 64) i ne)) (rw (get_or-set_other words i (k / 64) v 0 ne) refl))
    (cases_eq (k / 64) i)

-- the words after a word's front was added at a place
pub record AddsFront (old new : List ℕ) (n place word front : ℕ) : Type 0 where
  pub within : 64 * place < n
  pub masked : (k : ℕ) → word_bit front k ≡ (if nat_lt (k % 64) (n - 64 * place) then word_bit word k else false)
  pub added : (k : ℕ) → bit_of_words new k ≡ (if eqb (k / 64) place then xor (bit_of_words old k) (word_bit front k) else bit_of_words old k)

pub add_view : (old new : List ℕ) (n place word front : ℕ) → AddsFront old new n place word front
    → bits_of_words new n ≡ add_word_at (bits_of_words old n) place word
add_view old new n place word front h =
    rw (length-bits_of_words old n)
    (same_bits (bit_of_words new) (λ k. if eqb (k / 64) place then xor (bit (bits_of_words old n) k) (word_bit word k) else bit (bits_of_words old n) k) n
    (λ k lt. rw (bit-bits_of_words old n k lt) (h.added k ∙ ⊎_elim
    (λ (e : k / 64 ≡ place).
    let inside : k % 64 < n - 64 * place = omega (arith, h.within) in
    rw (eq-eqb (k / 64) place e, h.masked k, lt-ltb (k % 64) (n - 64 * place) inside) refl)
    (λ (ne : k / 64 ≡ place → ⊥). rw (ne_eqb (k / 64) place ne) refl)
    (cases_eq (k / 64) place))))

pub add_holds : (old new : List ℕ) (n place word front : ℕ) → AddsFront old new n place word front → Holds old n → length new ≡ length old → Holds new n
add_holds old new n place word front h held same = record {
  size = same ∙ held.size;
  rest = λ k past. h.added k ∙ ⊎_elim
      (λ (e : k / 64 ≡ place).
      let outside : n - 64 * place ≤ k % 64 = omega (arith, h.within) in
      rw (eq-eqb (k / 64) place e, held.rest k past, h.masked k, le-ltb (k % 64) (n - 64 * place) outside) refl)
      (λ (ne : k / 64 ≡ place → ⊥). rw (ne_eqb (k / 64) place ne) (held.rest k past))
      (cases_eq (k / 64) place);
}
