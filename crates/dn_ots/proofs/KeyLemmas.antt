-- Joined chains, and a signature's parts.
use Rattle.std.proofs.Common.{◌≡◌, ℕ, zero, suc, ◌+◌, ◌-◌, ◌*◌, ◌<◌, ◌≤◌, List, [], ◌∷◌, ◌++◌, length, take, drop, refl, sym, ap, ◌∙◌, arith, add-one, length-append, ⊎_elim, lit≤}
use Rattle.std.proofs.lemmas.List.{append_assoc, take_at, drop_at, append-nil, drop-drop, length-drop, take_all, take-take}
use Rattle.std.proofs.lemmas.Bool.{cases_lt}
use Rattle.std.specs.Int.{w16, w32, to_be_bytes}
use Rattle.sha2.specs.Sha256.{sha256}
use Rattle.sha2.specs.Hashers.{Holds256}
use Rattle.sha2.specs.declared.Sha256.{Sha256}
use Rattle.sha2.proofs.Facts256.{length-sha256}
use Rattle.dn_ots.specs.Parameters.{IsCode, width, last_step, chain_count, ots_length}
use Rattle.dn_ots.specs.Chain.{leaf_head, chain_head, chain, chain_step, chain_start}
use Rattle.dn_ots.specs.Digits.{coef, with_checksum}
use Rattle.dn_ots.specs.Ots.{joined, key_of_ends, ots_public, ots_signature, ots_candidate, randomizer, message_hash, digit, randomizer_in, value_in, chain_rest}
use Rattle.dn_ots.proofs.ChainLemmas.{chain_to_end, length-chain, length-chain_start}
use Rattle.dn_ots.proofs.DigitLemmas.{coef_small}

pub joined_none : (f : ℕ → List ℕ) → joined f 0 ≡ []
unfolding joined
joined_none f = refl

pub joined_more : (f : ℕ → List ℕ) (n : ℕ) → joined f (n + 1) ≡ joined f n ++ f n
unfolding joined
joined_more f n = rw add-one refl

-- parts that agree are joined to the same bytes
pub joined_same : (f g : ℕ → List ℕ) (n : ℕ) → ((i : ℕ) → i < n → f i ≡ g i) → joined f n ≡ joined g n
unfolding joined
joined_same f g zero h = refl
joined_same f g (suc n) h =
    let before = joined_same f g n (λ i l. h i (omega arith)) in
    let last = h n (omega arith) in
    rw (before, last) refl

-- parts of 32 bytes each
pub length-joined : (f : ℕ → List ℕ) (n : ℕ) → ((i : ℕ) → length (f i) ≡ 32) → length (joined f n) ≡ 32 * n
unfolding joined
length-joined f zero h = refl
length-joined f (suc n) h = omega (arith, length-joined f n h, length-append (joined f n) (f n), h n)

-- part i of them
pub part-joined : (f : ℕ → List ℕ) (n i : ℕ) (rest : List ℕ) → ((k : ℕ) → length (f k) ≡ 32) → i < n → take 32 (drop (32 * i) (joined f n ++ rest)) ≡ f i
unfolding joined
part-joined f zero i rest h lt = absurd (omega arith)
part-joined f (suc n) i rest h lt =
    let whole : (joined f n ++ f n) ++ rest ≡ joined f n ++ (f n ++ rest) = append_assoc (joined f n) (f n) rest in
    let long : length (joined f n) ≡ 32 * n = length-joined f n h in
    ⊎_elim
    (λ (below : i < n). rw whole (part-joined f n i (f n ++ rest) h below))
    (λ (last : n ≤ i).
    let at : i ≡ n = omega arith in
    rw (whole, at, drop_at (joined f n) (f n ++ rest) (32 * n) long) (take_at (f n) rest 32 (h n)))
    (cases_lt i n)

length-randomizer : (id seed : List ℕ) (q : ℕ) → length (randomizer id q seed) ≡ 32
unfolding randomizer
length-randomizer id seed q = length-sha256 _

-- the value of chain i that a signature has
abbrev pub signed : ℕ → List ℕ → ℕ → List ℕ → List ℕ → ℕ → List ℕ
signed code id q seed msg i =
    chain (chain_head id q i) 0 (digit code id q (randomizer id q seed) msg i) (chain_start id q seed i)

length-signed : (code : ℕ) (id seed msg : List ℕ) (q i : ℕ) → length (signed code id q seed msg i) ≡ 32
length-signed code id seed msg q i = length-chain _ _ 0 _ (length-chain_start id seed q i)

pub length-ots_signature : (code : ℕ) (id seed msg : List ℕ) (q : ℕ) → length (ots_signature code id q seed msg) ≡ ots_length code
unfolding ots_signature ots_length
length-ots_signature code id seed msg q =
    let c = length-randomizer id seed q in
    let ends = length-joined (signed code id q seed msg) (chain_count code) (length-signed code id seed msg q) in
    let front = length-append (to_be_bytes w32 code) (randomizer id q seed) in
    let four : length (to_be_bytes w32 code) ≡ 4 = refl in
    let all = length-append (to_be_bytes w32 code ++ randomizer id q seed) (joined (signed code id q seed msg) (chain_count code)) in
    omega arith

-- a signature begins with its type code
pub take-ots_signature : (code : ℕ) (id seed msg : List ℕ) (q : ℕ) → take 4 (ots_signature code id q seed msg) ≡ to_be_bytes w32 code
unfolding ots_signature
take-ots_signature code id seed msg q = refl

-- then has its randomizer
pub randomizer_in-signature : (code : ℕ) (id seed msg : List ℕ) (q : ℕ) → randomizer_in (ots_signature code id q seed msg) ≡ randomizer id q seed
unfolding ots_signature
randomizer_in-signature code id seed msg q =
    rw (append_assoc, drop_at (to_be_bytes w32 code) (randomizer id q seed ++ joined (signed code id q seed msg) (chain_count code)) 4 refl)
    (take_at (randomizer id q seed) _ 32 (length-randomizer id seed q))

-- then its chains' values
pub value_in-signature : (code : ℕ) (id seed msg : List ℕ) (q i : ℕ) → i < chain_count code → value_in (ots_signature code id q seed msg) i ≡ signed code id q seed msg i
unfolding ots_signature
value_in-signature code id seed msg q i lt =
    let front : List ℕ = to_be_bytes w32 code ++ randomizer id q seed in
    let ends : List ℕ = joined (signed code id q seed msg) (chain_count code) in
    let four : length (to_be_bytes w32 code) ≡ 4 = refl in
    let long : length front ≡ 36 = omega (arith, length-append (to_be_bytes w32 code) (randomizer id q seed), length-randomizer id seed q) in
    let past : drop (36 + 32 * i) (front ++ ends) ≡ drop (32 * i) ends =
    sym (drop-drop (32 * i) 36 (front ++ ends)) ∙ ap (drop (32 * i)) (drop_at front ends 36 long) in
    rw past (rw append-nil at (part-joined (signed code id q seed msg) (chain_count code) i [] (length-signed code id seed msg q) lt))

-- the candidate of a true signature is the public key: no digit is past the greatest, so each chain
-- goes on to its end
pub ots_candidate-ots_signature : (code : ℕ) (id seed msg : List ℕ) (q : ℕ) → IsCode code
    → ots_candidate code id q msg (ots_signature code id q seed msg) ≡ ots_public code id q seed
unfolding ots_candidate ots_public digit
ots_candidate-ots_signature code id seed msg q known =
    let sig : List ℕ = ots_signature code id q seed msg in
    let c : randomizer_in sig ≡ randomizer id q seed = randomizer_in-signature code id seed msg q in
    let digits : ℕ → ℕ = λ i. coef (with_checksum code (message_hash id q (randomizer id q seed) msg)) i (width code) in
    ap (key_of_ends id q) (joined_same _ _ (chain_count code) (λ i lt.
    let small : digits i ≤ last_step code = coef_small _ i code known in
    let sum : digits i + (last_step code - digits i) ≡ last_step code = omega arith in
    rw c (chain_to_end (chain_head id q i) (chain_start id q seed i) _ (digits i) (last_step code - digits i) (last_step code)
    (value_in-signature code id seed msg q i lt) sum)))

-- ---- what the code keeps, in these words

-- pieces taken one after another
pub pieces : (a b c d : List ℕ) → ((a ++ b) ++ c) ++ d ≡ a ++ (b ++ (c ++ d))
pieces a b c d = simp append_assoc

-- the block of a chain that was opened
pub opened : (id a s : List ℕ) (q i : ℕ) → take 22 s ≡ take 20 a ++ to_be_bytes w16 i → take 20 a ≡ leaf_head id q → take 22 s ≡ chain_head id q i
unfolding chain_head
opened id a s q i e h = e ∙ ap (λ (x : List ℕ). x ++ to_be_bytes w16 i) h

-- is still the leaf's
pub leaf_kept : (id s : List ℕ) (q i : ℕ) → length id ≡ 16 → take 22 s ≡ chain_head id q i → take 20 s ≡ leaf_head id q
unfolding chain_head leaf_head
leaf_kept id s q i l e =
    let four : length (to_be_bytes w32 q) ≡ 4 = refl in
    let long : length (id ++ to_be_bytes w32 q) ≡ 20 = omega (arith, length-append id (to_be_bytes w32 q)) in
    sym (take-take 20 22 s (lit≤ tt)) ∙ ap (take 20) e ∙ take_at (id ++ to_be_bytes w32 q) (to_be_bytes w16 i) 20 long

-- and begins at the chain's start
pub started : (id seed s : List ℕ) (q i : ℕ) → drop 23 s ≡ chain_step (take 22 s) 0xff seed → take 22 s ≡ chain_head id q i → drop 23 s ≡ chain_start id q seed i
unfolding chain_start
started id seed s q i e h = e ∙ ap (λ (x : List ℕ). chain_step x 0xff seed) h

-- and goes on from there
pub went_on : (id seed s b : List ℕ) (q i m n : ℕ) → take 22 s ≡ chain_head id q i → drop 23 s ≡ chain_step (take 22 s) 0xff seed
    → drop 23 b ≡ chain (take 22 s) 0 (m - 0) (drop 23 s) → m ≡ n → drop 23 b ≡ chain (chain_head id q i) 0 n (chain_start id q seed i)
went_on id seed s b q i m n h es eb em =
    let steps : m - 0 ≡ n = omega arith in
    let start = started id seed s q i es h in
    eb ∙ rw (steps, start, h) refl

-- the rest of a chain, from the value x
pub rest_of : (id s b x : List ℕ) (q i m n steps last : ℕ) → take 22 s ≡ chain_head id q i → drop 23 s ≡ x
    → drop 23 b ≡ chain (take 22 s) m (n - m) (drop 23 s) → m ≡ steps → n ≡ last → drop 23 b ≡ chain_rest last (chain_head id q i) x steps
rest_of id s b x q i m n steps last h ex eb em en = rw (← h, ← ex, ← em, ← en) eb

-- the value is all that follows the step's number
pub tail_value : (b : List ℕ) → length b ≡ 55 → take 32 (drop 23 b) ≡ drop 23 b
tail_value b l = take_all 32 (drop 23 b) (omega (arith, length-drop 23 b))

-- a digit of the message's hash
pub digit_is : (code : ℕ) (id c c' msg d h : List ℕ) (q i n : ℕ) → n ≡ coef d i (width code) → d ≡ with_checksum code h → h ≡ message_hash id q c' msg → c' ≡ c
    → n ≡ digit code id q c msg i
unfolding digit
digit_is code id c c' msg d h q i n en ed eh ec = rw (← ec, ← eh, ← ed) en

-- the signature has no chain's value yet
pub sign_none : (front now : List ℕ) (f : ℕ → List ℕ) → now ≡ front → now ≡ front ++ joined f 0
sign_none front now f e = rw (joined_none f, append-nil front) e

-- the signature has one value more
pub sign_more : (front now x : List ℕ) (f : ℕ → List ℕ) (i : ℕ) → now ≡ (front ++ joined f i) ++ x → x ≡ f i → now ≡ front ++ joined f (i + 1)
sign_more front now x f i h e = h ∙ append_assoc front (joined f i) x ∙ ap (λ (y : List ℕ). front ++ y) (ap (λ (y : List ℕ). joined f i ++ y) e ∙ sym (joined_more f i))

-- the hasher of K has taken the ends of no chain yet
pub held_none : (s : Sha256) (head : List ℕ) (f : ℕ → List ℕ) → Holds256 s head → Holds256 s (head ++ joined f 0)
held_none s head f h = rw (joined_none f, append-nil head) h

-- and of one chain more
pub held_more : (s : Sha256) (head x : List ℕ) (f : ℕ → List ℕ) (i : ℕ) → Holds256 s ((head ++ joined f i) ++ x) → x ≡ f i → Holds256 s (head ++ joined f (i + 1))
held_more s head x f i h e =
    let whole : (head ++ joined f i) ++ x ≡ head ++ joined f (i + 1) = append_assoc head (joined f i) x ∙ ap (λ (y : List ℕ). head ++ y) (ap (λ (y : List ℕ). joined f i ++ y) e ∙ sym (joined_more f i)) in
    rw whole at h

-- the digest of K's hasher
pub key_from_held : (id d : List ℕ) (q n p : ℕ) (f : ℕ → List ℕ) → d ≡ sha256 ((leaf_head id q ++ 0x80 ∷ 0x80 ∷ []) ++ joined f n) → n ≡ p → d ≡ key_of_ends id q (joined f p)
unfolding key_of_ends
key_from_held id d q n p f e en = e ∙ rw en (ap sha256 (append_assoc (leaf_head id q) (0x80 ∷ 0x80 ∷ []) (joined f p)))

-- ---- one leaf of several side by side

-- the block is leaf q's, and its hasher has taken the ends of the first i chains
abbrev pub KeyLane : List ℕ → List ℕ → ℕ → ℕ → ℕ → List ℕ → Sha256 → Type 0
KeyLane id seed code q i block hasher = (take 20 block ≡ leaf_head id q)
    × Holds256 hasher ((leaf_head id q ++ 0x80 ∷ 0x80 ∷ []) ++ joined (λ n. chain (chain_head id q n) 0 (last_step code) (chain_start id q seed n)) i)

pub lane_none : (id seed block : List ℕ) (hasher : Sha256) (code q : ℕ) → take 20 block ≡ leaf_head id q
    → Holds256 hasher (leaf_head id q ++ 0x80 ∷ 0x80 ∷ []) → KeyLane id seed code q 0 block hasher
lane_none id seed block hasher code q e h = (e, held_none hasher _ _ h)

-- one chain more
pub lane_more : (id seed a s b : List ℕ) (h g : Sha256) (code q i m : ℕ) → length id ≡ 16 → KeyLane id seed code q i a h
    → take 22 s ≡ take 20 a ++ to_be_bytes w16 i → drop 23 s ≡ chain_step (take 22 s) 0xff seed
    → take 22 b ≡ take 22 s → drop 23 b ≡ chain (take 22 s) 0 (m - 0) (drop 23 s) → m ≡ last_step code
    → ((x : List ℕ) → Holds256 h x → Holds256 g (x ++ drop 23 b)) → KeyLane id seed code q (i + 1) b g
lane_more id seed a s b h g code q i m long lane start first head value steps takes =
    let opens = opened id a s q i start lane.0 in (
      leaf_kept id b q i long (head ∙ opens),
      held_more g _ (drop 23 b) _ i (takes _ lane.1) (went_on id seed s b q i m (last_step code) opens first value steps),
    )

-- and all of them
pub lane_all : (id seed b d : List ℕ) (h : Sha256) (code q r i : ℕ) → KeyLane id seed code q i b h → ((x : List ℕ) → Holds256 h x → d ≡ sha256 x)
    → i ≡ chain_count code → r ≡ q → d ≡ ots_public code id r seed
unfolding ots_public
lane_all id seed b d h code q r i lane ends all same = rw same (key_from_held id d q i (chain_count code) _ (ends _ lane.1) all)
