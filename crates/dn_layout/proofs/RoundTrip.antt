-- What `block` gives is read back.
use Rattle.std.proofs.Common.{◌≡◌, ℕ, zero, suc, ◌+◌, ◌-◌, ◌*◌, ◌<◌, ◌≤◌, Bool, true, List, ◌∷◌, ◌++◌, length, take, drop, replicate, refl, ap, sym, ◌∙◌, arith, subst, nat_le, length-append}
use Rattle.std.specs.Prelude.{Some, ◌&&◌}
use Rattle.std.specs.Int.{byte_at}
use Rattle.std.specs.Str.{bytes_eq}
use Rattle.std.proofs.Math.Seq.{take-append_seam, drop-append_seam, drop-append-add}
use Rattle.std.proofs.lemmas.List.{drop-drop, get_or-append_right, length-replicate}
use Rattle.std.proofs.lemmas.Bool.Decides.{nat_tests}
use Rattle.std.proofs.lemmas.Slice.Eq.{bytes_eq-Decides}
use Rattle.dn_hash.specs.Digests.{mask_key_of, block_check_of}
use Rattle.dn_hash.proofs.DigestLemmas.{length-block_check_of}
use Rattle.dn_layout.specs.Block.{is_length, is_zeros, masked, rest_of, block_of, plain_of, next_len_of, text_len_of, text_of, is_message, read_of}
use Rattle.dn_layout.proofs.MaskLemmas.{length-masked, masked_twice}

pub is_zeros-replicate : (n : ℕ) → is_zeros (replicate n 0) ≡ true
is_zeros-replicate zero = refl
is_zeros-replicate (suc n) = is_zeros-replicate n

two_bytes : (n : ℕ) → n < 65536 → byte_at 1 n * 256 + byte_at 0 n ≡ n
two_bytes n lt = omega arith

le_test : (a b : ℕ) → a ≤ b → nat_le a b ≡ true
le_test a b h = grind (arith, nat_tests)

all_four : {a b c d : Bool} → a ≡ true → b ≡ true → c ≡ true → d ≡ true → (a && (b && (c && d))) ≡ true
all_four p q r s = rw (p, q, r) s

-- four bytes and more after a check of 8 bytes
module _ (check : List ℕ) (long : length check ≡ 8) (a b c d : ℕ) (rest : List ℕ) where
  take_check : take 8 (check ++ (a ∷ b ∷ c ∷ d ∷ rest)) ≡ check
  take_check = subst (λ n. take n (check ++ (a ∷ b ∷ c ∷ d ∷ rest)) ≡ check) long (take-append_seam check (a ∷ b ∷ c ∷ d ∷ rest))

  drop_check : drop 8 (check ++ (a ∷ b ∷ c ∷ d ∷ rest)) ≡ a ∷ b ∷ c ∷ d ∷ rest
  drop_check = subst (λ n. drop n (check ++ (a ∷ b ∷ c ∷ d ∷ rest)) ≡ a ∷ b ∷ c ∷ d ∷ rest) long (drop-append_seam check (a ∷ b ∷ c ∷ d ∷ rest))

  drop_head : drop 12 (check ++ (a ∷ b ∷ c ∷ d ∷ rest)) ≡ rest
  drop_head = subst (λ n. drop (n + 4) (check ++ (a ∷ b ∷ c ∷ d ∷ rest)) ≡ rest) long (drop-append-add check (a ∷ b ∷ c ∷ d ∷ rest) 4)

  drop_more : (k : ℕ) → drop (12 + k) (check ++ (a ∷ b ∷ c ∷ d ∷ rest)) ≡ drop k rest
  drop_more k = sym (drop-drop k 12 (check ++ (a ∷ b ∷ c ∷ d ∷ rest))) ∙ ap (drop k) drop_head

  next_len_is : next_len_of (check ++ (a ∷ b ∷ c ∷ d ∷ rest)) ≡ a * 256 + b
  next_len_is =
      rw (
        get_or-append_right check (a ∷ b ∷ c ∷ d ∷ rest) 8 8 0 long (omega arith),
        get_or-append_right check (a ∷ b ∷ c ∷ d ∷ rest) 8 9 0 long (omega arith),
      ) refl

  text_len_is : text_len_of (check ++ (a ∷ b ∷ c ∷ d ∷ rest)) ≡ c * 256 + d
  text_len_is =
      rw (
        get_or-append_right check (a ∷ b ∷ c ∷ d ∷ rest) 8 10 0 long (omega arith),
        get_or-append_right check (a ∷ b ∷ c ∷ d ∷ rest) 8 11 0 long (omega arith),
      ) refl

-- the rest of a text's block
rest_is : (text : List ℕ) (next_len size : ℕ) → rest_of next_len text size
    ≡ byte_at 1 next_len ∷ byte_at 0 next_len ∷ byte_at 1 (length text) ∷ byte_at 0 (length text) ∷ (text ++ replicate (size - 28 - length text) 0)
unfolding rest_of
rest_is text next_len size = refl

module _ (check : List ℕ) (long : length check ≡ 8) (a b c d : ℕ) (text zeros : List ℕ) (len : c * 256 + d ≡ length text) where
  text_len_again : text_len_of (check ++ (a ∷ b ∷ c ∷ d ∷ (text ++ zeros))) ≡ length text
  text_len_again = text_len_is check long a b c d (text ++ zeros) ∙ len

  text_again : text_of (check ++ (a ∷ b ∷ c ∷ d ∷ (text ++ zeros))) ≡ text
  text_again =
      ap (λ n. take n (drop 12 (check ++ (a ∷ b ∷ c ∷ d ∷ (text ++ zeros))))) text_len_again
      ∙ ap (take (length text)) (drop_head check long a b c d (text ++ zeros)) ∙ take-append_seam text zeros

  zeros_again : drop (12 + text_len_of (check ++ (a ∷ b ∷ c ∷ d ∷ (text ++ zeros)))) (check ++ (a ∷ b ∷ c ∷ d ∷ (text ++ zeros))) ≡ zeros
  zeros_again =
      ap (λ n. drop (12 + n) (check ++ (a ∷ b ∷ c ∷ d ∷ (text ++ zeros)))) text_len_again
      ∙ drop_more check long a b c d (text ++ zeros) (length text) ∙ drop-append_seam text zeros

  fits : 12 + text_len_of (check ++ (a ∷ b ∷ c ∷ d ∷ (text ++ zeros))) ≤ length (check ++ (a ∷ b ∷ c ∷ d ∷ (text ++ zeros)))
  fits = omega (arith, text_len_again, long, length-append check (a ∷ b ∷ c ∷ d ∷ (text ++ zeros)), length-append text zeros)

  message_again : check ≡ block_check_of (a ∷ b ∷ c ∷ d ∷ (text ++ zeros)) → is_length (a * 256 + b) ≡ true → is_zeros zeros ≡ true
      → is_message (check ++ (a ∷ b ∷ c ∷ d ∷ (text ++ zeros))) ≡ true
  unfolding is_message
  message_again right valid nothing =
      let checked : bytes_eq (take 8 (check ++ (a ∷ b ∷ c ∷ d ∷ (text ++ zeros)))) (block_check_of (drop 8 (check ++ (a ∷ b ∷ c ∷ d ∷ (text ++ zeros))))) ≡ true =
      (bytes_eq-Decides _ _).1 (take_check check long a b c d (text ++ zeros) ∙ right ∙ ap block_check_of (sym (drop_check check long a b c d (text ++ zeros)))) in
      let within = le_test _ _ fits in
      let told : is_length (next_len_of (check ++ (a ∷ b ∷ c ∷ d ∷ (text ++ zeros)))) ≡ true =
      ap is_length (next_len_is check long a b c d (text ++ zeros)) ∙ valid in
      let rest : is_zeros (drop (12 + text_len_of (check ++ (a ∷ b ∷ c ∷ d ∷ (text ++ zeros)))) (check ++ (a ∷ b ∷ c ∷ d ∷ (text ++ zeros)))) ≡ true =
      ap is_zeros zeros_again ∙ nothing in
      all_four checked within told rest

-- a block without its mask seed and its mask
plain_again : (mask_seed plain : List ℕ) → length mask_seed ≡ 16 → plain_of (mask_seed ++ masked (mask_key_of mask_seed) plain) ≡ plain
unfolding plain_of
plain_again mask_seed plain long =
    let under = masked (mask_key_of mask_seed) plain in
    let seed : take 16 (mask_seed ++ under) ≡ mask_seed = subst (λ n. take n (mask_seed ++ under) ≡ mask_seed) long (take-append_seam mask_seed under) in
    let rest : drop 16 (mask_seed ++ under) ≡ under = subst (λ n. drop n (mask_seed ++ under) ≡ under) long (drop-append_seam mask_seed under) in
    ap (λ k. masked (mask_key_of k) (drop 16 (mask_seed ++ under))) seed ∙ ap (masked (mask_key_of mask_seed)) rest ∙ masked_twice (mask_key_of mask_seed) plain

-- bytes whose plain block is that of a message
read_message : (bytes plain text : List ℕ) (next_len : ℕ) → 64 ≤ length bytes → length bytes ≤ 1024 → plain_of bytes ≡ plain → is_message plain ≡ true
    → next_len_of plain ≡ next_len → text_of plain ≡ text → read_of bytes ≡ Some (next_len, text)
unfolding read_of
read_message bytes plain text next_len low high is message next says =
    let right : is_message (plain_of bytes) ≡ true = ap is_message is ∙ message in
    let from = le_test 64 (length bytes) low in
    let upto = le_test (length bytes) 1024 high in
    rw (from, upto, right) (ap (λ p. Some (next_len_of p, text_of p)) is ∙ ap (λ n. Some (n, text_of plain)) next ∙ ap (λ t. Some (next_len, t)) says)

valid_small : (n : ℕ) → is_length n ≡ true → n < 65536
valid_small n h = grind (arith, nat_tests)

pub read_of-block_of : (text mask_seed : List ℕ) (next_len size : ℕ) → length mask_seed ≡ 16 → 64 ≤ size → size ≤ 1024 → 28 + length text ≤ size → is_length next_len ≡ true
    → read_of (block_of text next_len mask_seed size) ≡ Some (next_len, text)
unfolding block_of
read_of-block_of text mask_seed next_len size long low high room valid =
    let zeros : List ℕ = replicate (size - 28 - length text) 0 in
    let rest : List ℕ = byte_at 1 next_len ∷ byte_at 0 next_len ∷ byte_at 1 (length text) ∷ byte_at 0 (length text) ∷ (text ++ zeros) in
    let check : List ℕ = block_check_of rest in
    let eight : length check ≡ 8 = length-block_check_of rest in
    let len : byte_at 1 (length text) * 256 + byte_at 0 (length text) ≡ length text = two_bytes (length text) (omega arith) in
    let next : byte_at 1 next_len * 256 + byte_at 0 next_len ≡ next_len = two_bytes next_len (valid_small next_len valid) in
    let bytes : List ℕ = mask_seed ++ masked (mask_key_of mask_seed) (check ++ rest) in
    let size_is : length bytes ≡ size =
    omega (
      arith,
      long,
      eight,
      length-append mask_seed (masked (mask_key_of mask_seed) (check ++ rest)),
      length-masked (mask_key_of mask_seed) (check ++ rest),
      length-append check rest,
      length-append text zeros,
      length-replicate {A = ℕ} (size - 28 - length text) 0,
    ) in
    rw (rest_is text next_len size)
    (read_message bytes (check ++ rest) text next_len (omega (arith, size_is)) (omega (arith, size_is)) (plain_again mask_seed (check ++ rest) long)
    (message_again check eight (byte_at 1 next_len) (byte_at 0 next_len) (byte_at 1 (length text)) (byte_at 0 (length text)) text zeros len refl
    (ap is_length next ∙ valid) (is_zeros-replicate (size - 28 - length text)))
    (next_len_is check eight (byte_at 1 next_len) (byte_at 0 next_len) (byte_at 1 (length text)) (byte_at 0 (length text)) (text ++ zeros) ∙ next)
    (text_again check eight (byte_at 1 next_len) (byte_at 0 next_len) (byte_at 1 (length text)) (byte_at 0 (length text)) text zeros len))
