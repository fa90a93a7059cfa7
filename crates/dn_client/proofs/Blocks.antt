-- A block in its slot.
use Rattle.std.proofs.Common.{◌≡◌, ℕ, ◌+◌, ◌-◌, ◌*◌, ◌/◌, ◌<◌, ◌≤◌, Bool, true, false, cond, eqb, List, ◌++◌, length, replicate, Some, None, refl, sym, ap, ◌∙◌, arith, inl, inr}
use Rattle.std.specs.Prelude.{slice_index, IsTrue, All}
use Rattle.std.proofs.lemmas.List.{get_or_past}
use Rattle.std.proofs.lemmas.Bool.{cases_lt}
use Rattle.std.proofs.lemmas.Bool.Decides.{nat_tests}
use Rattle.dn_bits.specs.Bits.{first_bits}
use Rattle.dn_layout.specs.Block.{block_of, is_length}
use Rattle.dn_layout.specs.Layout.{bits_of, range_of, start_of}
use Rattle.dn_layout.proofs.LengthLemmas.{length-block_of}
use Rattle.dn_client.specs.Plain.{request, in_slot, plain_text, block_for, bytes_behind, said_in}

cond_none : {A : Type 0} (t : Bool) (x : A) → cond t None (Some x) ≡ None → t ≡ true
cond_none true x e = refl
cond_none false x e = absurd cc

cond_some : {A : Type 0} (t : Bool) (x y : A) → cond t None (Some x) ≡ Some y → (t ≡ false) × (x ≡ y)
cond_some true x y e = absurd cc
cond_some false x y e = (refl, cc)

-- where a slot is closed its owner's plain text is its request
pub closed_text : (lengths : List ℕ) (s : ℕ) (waiting : List (List ℕ)) (z : List ℕ) → range_of lengths s ≡ None → request lengths s waiting ≡ plain_text lengths s waiting z
unfolding plain_text
closed_text lengths s waiting z none =
    let t = cond_none (eqb (slice_index lengths s) 0) _ none in
    sym (ap (λ b. cond b (request lengths s waiting) (in_slot lengths s (block_for (slice_index lengths s) waiting z))) t)

-- and where it is open, its block in its place
pub open_text : (lengths : List ℕ) (s : ℕ) (range : ℕ × ℕ) (waiting : List (List ℕ)) (z : List ℕ) → range_of lengths s ≡ Some range
    → in_slot lengths s (block_for (slice_index lengths s) waiting z) ≡ plain_text lengths s waiting z
unfolding plain_text
open_text lengths s range waiting z some =
    let t = (cond_some (eqb (slice_index lengths s) 0) _ range some).0 in
    sym (ap (λ b. cond b (request lengths s waiting) (in_slot lengths s (block_for (slice_index lengths s) waiting z))) t)

pub range_starts : (lengths : List ℕ) (s : ℕ) (range : ℕ × ℕ) → range_of lengths s ≡ Some range
    → (range.0 ≡ 8 * start_of lengths s) × (range.1 ≡ 8 * (start_of lengths s + slice_index lengths s))
range_starts lengths s range some =
    let both = cond_some (eqb (slice_index lengths s) 0) _ range some in (sym (ap (λ r. r.0) both.1), sym (ap (λ r. r.1) both.1))

long_enough : (n : ℕ) → IsTrue (is_length n) → 0 < n → 64 ≤ n
long_enough n valid some = grind (arith, nat_tests)

pub size_low : (lengths : List ℕ) (s : ℕ) → All (λ len. IsTrue (is_length len)) lengths → 0 < slice_index lengths s → 64 ≤ slice_index lengths s
size_low lengths s sizes some =
    elim (cases_lt s (length lengths)) [
      | inl lt ↦ long_enough (slice_index lengths s) (sizes s 0 lt) some
      | inr ge ↦ absurd (omega (arith, get_or_past lengths s 0 ge))
    ]

pub placed_so : (lengths : List ℕ) (s : ℕ) (waiting : List (List ℕ)) (z : List ℕ) (start bits : ℕ) (bytes : List ℕ)
    → start ≡ start_of lengths s → bits ≡ bits_of lengths → bytes ≡ block_for (slice_index lengths s) waiting z → length bytes ≡ slice_index lengths s
    → first_bits (replicate start 0 ++ bytes ++ replicate (bits / 8 - start - length bytes) 0) bits ≡ in_slot lengths s (block_for (slice_index lengths s) waiting z)
unfolding in_slot
placed_so lengths s waiting z start bits bytes start_is bits_is bytes_is long =
    let behind : bits / 8 - start - length bytes ≡ bytes_behind lengths s = omega (arith, start_is, bits_is, long) in
    λ i. first_bits (replicate (start_is i) 0 ++ bytes_is i ++ replicate (behind i) 0) (bits_is i)

-- what the block of a slot is, how long it is, and where it stands
pub block_made : (lengths : List ℕ) (s : ℕ) (range : ℕ × ℕ) (waiting : List (List ℕ)) (z : List ℕ) (size next_len : ℕ) (text bytes : List ℕ)
    → range_of lengths s ≡ Some range → size ≡ slice_index lengths s → All (λ len. IsTrue (is_length len)) lengths → range.0 < range.1
    → (text, next_len) ≡ said_in size waiting → bytes ≡ block_of text next_len z size → length z ≡ 16 → (size - 28 < length text → ⊥)
    → (bytes ≡ block_for (slice_index lengths s) waiting z) × (length bytes ≡ slice_index lengths s)
    × (range.0 ≡ 8 * start_of lengths s) × (range.1 ≡ 8 * (start_of lengths s + slice_index lengths s))
block_made lengths s range waiting z size next_len text bytes some size_is sizes wide said is long fits =
    let starts = range_starts lengths s range some in
    let low = size_low lengths s sizes (omega (arith, starts.0, starts.1, wide)) in
    let room : 28 + length text ≤ size = elim (cases_lt (size - 28) (length text)) [ inl lt ↦ absurd (fits lt) | inr ge ↦ omega (arith, low, size_is) ] in (
      is ∙ (λ i. block_of (said i).0 (said i).1 z size) ∙ ap (λ n. block_for n waiting z) size_is,
      ap length is ∙ length-block_of text z next_len size long room ∙ size_is,
      starts.0,
      starts.1,
    )
