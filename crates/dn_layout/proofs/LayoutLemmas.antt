-- The lengths after an output, slot by slot.
use Rattle.std.proofs.Common.{◌≡◌, ℕ, suc, ◌+◌, ◌-◌, ◌*◌, ◌/◌, ◌<◌, ◌≤◌, Bool, true, false, List, [], ◌∷◌, ◌++◌, length, get_or, take, drop, refl, ap, sym, ◌∙◌, arith, nat_le}
use Rattle.std.specs.Prelude.{sum, All, IsTrue, Some, None, if◌then◌else◌, ◌==◌, ◌&&◌}
use Rattle.std.proofs.lemmas.List.{take_more, take_all}
use Rattle.std.proofs.lemmas.List.Elements.{All-get_or, All-from_get_or, All-cons, All-head, All-tail}
use Rattle.std.proofs.lemmas.List.Sums.{sum_by-cons, sum_by_push, sum_by_more, sum_by-take-le}
use Rattle.std.proofs.lemmas.Bool.Decides.{nat_tests}
use Rattle.std.proofs.lemmas.List.FromFn.{length-map-range_with_len, get_or-map-range_with_len}
use Rattle.dn_bits.specs.Bits.{bit, byte_of, bytes_of}
use Rattle.dn_layout.specs.Block.{is_length, is_zeros, read_of, is_message, next_len_of, text_of, plain_of}
use Rattle.dn_layout.specs.Layout.{request_bytes, bits_of, start_of, slot_bytes, want_open, want_of, wants_of, given_of, fitted, next_of, IsLayout}

-- the lengths of the slots below s, where the next one begins, and how many bytes the round has with them
pub record NextBelow (lengths : List ℕ) (out : List Bool) (s : ℕ) (new : List ℕ) (start total : ℕ) : Type 0 where
  pub new_is : new ≡ fitted (request_bytes (length lengths)) (take s (wants_of lengths out))
  pub start_is : start ≡ start_of lengths s
  pub total_is : total ≡ request_bytes (length lengths) + sum new
  pub low : 8 * total ≤ 65536

le_true : (a b : ℕ) → nat_le a b ≡ true → a ≤ b
le_true a b h = grind (arith, nat_tests)

-- a slot gets no more than has room
given_fits : (total want : ℕ) → 8 * total ≤ 65536 → 8 * (total + given_of total want) ≤ 65536
given_fits total want low =
    elim (nat_le (8 * (total + want)) 65536) as (λ v. nat_le (8 * (total + want)) 65536 ≡ v → 8 * (total + (if v then want else 0)) ≤ 65536) [
      | true ↦ λ p. le_true (8 * (total + want)) 65536 p
      | false ↦ λ p. omega arith
    ] refl

given_valid : (total want : ℕ) → is_length want ≡ true → is_length (given_of total want) ≡ true
given_valid total want valid =
    elim (nat_le (8 * (total + want)) 65536) as (λ v. is_length (if v then want else 0) ≡ true) [ true ↦ valid | false ↦ refl ]

pub fitted-fits : (total : ℕ) (wants : List ℕ) → 8 * total ≤ 65536 → 8 * (total + sum (fitted total wants)) ≤ 65536
fitted-fits total [] low = omega arith
fitted-fits total (want ∷ wants) low =
    omega (
      arith,
      fitted-fits (total + given_of total want) wants (given_fits total want low),
      sum_by-cons (λ x. x) (given_of total want) (fitted (total + given_of total want) wants),
    )

pub length-fitted : (total : ℕ) (wants : List ℕ) → length (fitted total wants) ≡ length wants
length-fitted total [] = refl
length-fitted total (want ∷ wants) = ap suc (length-fitted (total + given_of total want) wants)

-- each length is one that a slot may have
fitted-valid : (total : ℕ) (wants : List ℕ) → All (λ len. IsTrue (is_length len)) wants → All (λ len. IsTrue (is_length len)) (fitted total wants)
fitted-valid total [] valid = valid
fitted-valid total (want ∷ wants) valid =
    All-cons (λ len. IsTrue (is_length len)) (given_of total want) (fitted (total + given_of total want) wants)
    (given_valid total want (All-head (λ len. IsTrue (is_length len)) want wants valid))
    (fitted-valid (total + given_of total want) wants (All-tail (λ len. IsTrue (is_length len)) want wants valid))

-- one slot more
fitted-push : (total : ℕ) (wants : List ℕ) (want : ℕ) → fitted total (wants ++ want ∷ [])
    ≡ fitted total wants ++ given_of (total + sum (fitted total wants)) want ∷ []
fitted-push total [] want = ap (λ t. given_of t want ∷ []) (omega arith)
fitted-push total (first ∷ wants) want =
    ap (λ r. given_of total first ∷ r) (fitted-push (total + given_of total first) wants want
    ∙ ap (λ t. fitted (total + given_of total first) wants ++ given_of t want ∷ [])
    (omega (arith, sum_by-cons (λ x. x) (given_of total first) (fitted (total + given_of total first) wants))))

and_left : (a b : Bool) → (a && b) ≡ true → a ≡ true
and_left true b h = refl
and_left false b h = h

and_right : (a b : Bool) → (a && b) ≡ true → b ≡ true
and_right true b h = h
and_right false b h = cc

-- a message tells a length that a slot may have
pub message-length : (plain : List ℕ) → is_message plain ≡ true → is_length (next_len_of plain) ≡ true
unfolding is_message
message-length plain h = and_left _ _ (and_right _ _ (and_right _ _ h))

want_open-valid : (len : ℕ) (block : List ℕ) → is_length len ≡ true → is_length (want_open len block (read_of block)) ≡ true
unfolding read_of
want_open-valid len block valid =
    elim (nat_le 64 (length block) && nat_le (length block) 1024 && is_message (plain_of block))
    as (λ v. (nat_le 64 (length block) && nat_le (length block) 1024 && is_message (plain_of block)) ≡ v
    → is_length (want_open len block (if v then Some (next_len_of (plain_of block), text_of (plain_of block)) else None)) ≡ true) [
      | true ↦ λ p. message-length (plain_of block) (and_right _ _ p)
      | false ↦ λ p. elim (is_zeros block) as (λ z. is_length (if z then 0 else len) ≡ true) [ true ↦ refl | false ↦ valid ]
    ] refl

want_of-valid : (len : ℕ) (requested : Bool) (block : List ℕ) → is_length len ≡ true → is_length (want_of len requested block) ≡ true
unfolding want_of
want_of-valid len requested block valid =
    elim (len == 0) as (λ v. is_length (if v then (if requested then 64 else 0) else want_open len block (read_of block)) ≡ true) [
      | true ↦ elim requested as (λ r. is_length (if r then 64 else 0) ≡ true) [ true ↦ refl | false ↦ refl ]
      | false ↦ want_open-valid len block valid
    ]

module _ (lengths : List ℕ) (out : List Bool) where
  length-wants_of : length (wants_of lengths out) ≡ length lengths
  length-wants_of = length-map-range_with_len (λ s. want_of (get_or lengths s 0) (bit out s) (slot_bytes lengths out s)) 0 (length lengths)

  get_or-wants_of : (s : ℕ) → s < length lengths → get_or (wants_of lengths out) s 0 ≡ want_of (get_or lengths s 0) (bit out s) (slot_bytes lengths out s)
  get_or-wants_of s lt = get_or-map-range_with_len (λ s. want_of (get_or lengths s 0) (bit out s) (slot_bytes lengths out s)) 0 (length lengths) s s 0 lt (omega arith)

  wants_of-valid : All (λ len. IsTrue (is_length len)) lengths → All (λ len. IsTrue (is_length len)) (wants_of lengths out)
  wants_of-valid valid = All-from_get_or (λ len. IsTrue (is_length len)) (wants_of lengths out) 0
      (λ s lt. let low : s < length lengths = omega (arith, length-wants_of) in
      rw (get_or-wants_of s low) (want_of-valid (get_or lengths s 0) (bit out s) (slot_bytes lengths out s)
      (All-get_or (λ len. IsTrue (is_length len)) lengths s 0 low valid)))

-- the lengths after an output are a layout's
pub next_of-IsLayout : (lengths : List ℕ) (out : List Bool) → IsLayout lengths → IsLayout (next_of lengths out)
unfolding next_of
next_of-IsLayout lengths out h =
    let same : length (fitted (request_bytes (length lengths)) (wants_of lengths out)) ≡ length lengths =
    length-fitted (request_bytes (length lengths)) (wants_of lengths out) ∙ length-wants_of lengths out in
    record {
      some = omega (arith, same, h.some);
      few = omega (arith, same, h.few);
      sizes = fitted-valid (request_bytes (length lengths)) (wants_of lengths out) (wants_of-valid lengths out h.sizes);
      fits = rw same (fitted-fits (request_bytes (length lengths)) (wants_of lengths out) (omega (arith, h.few)));
    }

-- one slot more
pub NextBelow-next : {lengths : List ℕ} {out : List Bool} {s : ℕ} {new : List ℕ} {start total : ℕ} → NextBelow lengths out s new start total → s < length lengths
    → NextBelow lengths out (s + 1) (new ++ given_of total (want_of (get_or lengths s 0) (bit out s) (slot_bytes lengths out s)) ∷ [])
    (start + get_or lengths s 0) (total + given_of total (want_of (get_or lengths s 0) (bit out s) (slot_bytes lengths out s)))
NextBelow-next {lengths} {out} {s} {new} {start} {total} h lt =
    let want = want_of (get_or lengths s 0) (bit out s) (slot_bytes lengths out s) in
    let bytes = request_bytes (length lengths) in
    record {
      new_is = sym (ap (fitted bytes) (take_more (wants_of lengths out) s 0 (omega (arith, length-wants_of lengths out))
          ∙ ap (λ w. take s (wants_of lengths out) ++ w ∷ []) (get_or-wants_of lengths out s lt))
          ∙ fitted-push bytes (take s (wants_of lengths out)) want
          ∙ ap (λ f. f ++ given_of (bytes + sum f) want ∷ []) (sym h.new_is)
          ∙ ap (λ t. new ++ given_of t want ∷ []) (sym h.total_is));
      start_is = omega (arith, h.start_is, sum_by_more (λ x. x) lengths s 0 lt);
      total_is = omega (arith, h.total_is, sum_by_push (λ x. x) new (given_of total want));
      low = given_fits total want h.low;
    }

-- all slots
pub NextBelow-end : {lengths : List ℕ} {out : List Bool} {s : ℕ} {new : List ℕ} {start total : ℕ} → NextBelow lengths out s new start total → length lengths ≤ s
    → new ≡ next_of lengths out
unfolding next_of
NextBelow-end {lengths} {out} {s} h all =
    h.new_is ∙ ap (fitted (request_bytes (length lengths))) (take_all s (wants_of lengths out) (omega (arith, length-wants_of lengths out)))

-- a slot's block ends within the output's bytes
pub slot_end : (lengths : List ℕ) (bytes s : ℕ) → s < length lengths → bytes ≡ request_bytes (length lengths) + sum lengths
    → start_of lengths s + get_or lengths s 0 ≤ bytes
slot_end lengths bytes s lt is = omega (arith, is, sum_by_more (λ x. x) lengths s 0 lt, sum_by-take-le (λ x. x) lengths (s + 1))

-- the same with what the calls gave
pub NextBelow-step : {lengths : List ℕ} {out : List Bool} {s : ℕ} {new : List ℕ} {start total : ℕ} → NextBelow lengths out s new start total → s < length lengths
    → (bytes : List ℕ) → bytes ≡ bytes_of out → (requested : Bool) → requested ≡ bit out s → (want : ℕ)
    → want ≡ want_of (get_or lengths s 0) requested (take (start + get_or lengths s 0 - start) (drop start bytes))
    → (given : ℕ) → given ≡ given_of total want → (items : List ℕ) → items ≡ new ++ given ∷ []
    → NextBelow lengths out (s + 1) items (start + get_or lengths s 0) (total + given)
NextBelow-step {lengths} {out} {s} {new} {start} {total} h lt bytes bytes_is requested asks want wants given gives items all =
    let len : start + get_or lengths s 0 - start ≡ get_or lengths s 0 = omega arith in
    let want_is : want ≡ want_of (get_or lengths s 0) (bit out s) (slot_bytes lengths out s) =
    wants ∙ ap (λ r. want_of (get_or lengths s 0) r (take (start + get_or lengths s 0 - start) (drop start bytes))) asks
    ∙ ap (λ n. want_of (get_or lengths s 0) (bit out s) (take n (drop start bytes))) len
    ∙ ap (λ n. want_of (get_or lengths s 0) (bit out s) (take (get_or lengths s 0) (drop n bytes))) h.start_is
    ∙ ap (λ b. want_of (get_or lengths s 0) (bit out s) (take (get_or lengths s 0) (drop (start_of lengths s) b))) bytes_is in
    let given_is : given ≡ given_of total (want_of (get_or lengths s 0) (bit out s) (slot_bytes lengths out s)) = gives ∙ ap (given_of total) want_is in
    let next = NextBelow-next h lt in
    rw (all, given_is) next

-- the bytes of an output of this length
pub length-bytes_of : (lengths : List ℕ) (out : List Bool) (bytes : List ℕ) → bytes ≡ bytes_of out → length out ≡ bits_of lengths
    → length bytes ≡ request_bytes (length lengths) + sum lengths
length-bytes_of lengths out bytes is long =
    ap length is ∙ length-map-range_with_len (byte_of out) 0 ((length out + 7) / 8) ∙ omega (arith, long)
