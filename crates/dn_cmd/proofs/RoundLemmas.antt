-- A round, as it is computed.
use Rattle.std.proofs.Common.{zero, suc, ◌≡◌, ℕ, ◌+◌, ◌%◌, ◌<◌, ◌≤◌, Bool, true, false, eqb, List, [], ◌∷◌, ◌++◌, map, length, refl, sym, ap, ◌∙◌, ⊎_elim, arith, append-nil, Option, None, take, Some, get_or}
use Rattle.std.proofs.lemmas.List.{take_more, get_or-map, map-append}
use Rattle.std.specs.Prelude.{filter, if◌then◌else◌, unwrap_or}
use Rattle.std.specs.List.{All, flat_map, range_with_len}
use Rattle.std.proofs.lemmas.List.Concat.{flat_map-append}
use Rattle.std.proofs.lemmas.Bool.{cond_both, cases_eq, cases_Bool, eq-eqb, ne_eqb}
use Rattle.std.proofs.lemmas.Nat.{mod_below}
use Rattle.std.proofs.lemmas.List.FromFn.{length-map-range_with_len, get_or-map-range_with_len, length-range_with_len, get_or-range_with_len}
use Rattle.std.proofs.lemmas.List.Elements.{filter-append, All-head, All-tail, All-get_or, All-from_get_or, All-filter}
use Rattle.dn_bits.proofs.WordLemmas.{length-zeros}
use Rattle.dn_pads.specs.Pads.{keystream_bit}
use Rattle.dn_script.specs.Plain.{Plain, or_else, said_in, said_by, message, Fits, IsScript}
use Rattle.dn_script.specs.declared.plain_line.PlainLine.{PlainLine}
use Rattle.dn_script.specs.declared.plain_line.PlainLine.TheVariants.{Say, Submit, Tick, Close}
use Rattle.dn_roster.specs.Dealing.{pair_seed_of}
use Rattle.dn_cmd.specs.Round.{pair_pad, counted, cipher, held, server, output}
use Rattle.dn_cmd.specs.Window.{has_window, is_included, with_lines}
use Rattle.dn_bits.specs.Bits.{below, zeros, xor_bits, sum_bits}
use Rattle.dn_bits.proofs.SumLemmas.{below_more, sum-push, length-sum, xor_assoc, xor_comm, xor_zeros, zeros_xor, xor_self, length-xor, sum_of_xor, sum_swap}

pub flat_below_more : {A : Type 0} (f : ℕ → List A) (t : ℕ) → flat_map f (below (t + 1)) ≡ flat_map f (below t) ++ f t
flat_below_more f t =
    ap (flat_map f) (below_more t) ∙ flat_map-append f (below t) (t ∷ []) ∙ ap (λ l. flat_map f (below t) ++ l) (append-nil (f t))

-- ---- lengths

pub length-pad : (p : Plain) (i j : ℕ) → length (pair_pad p i j) ≡ p.bits
length-pad p i j = length-map-range_with_len (keystream_bit (pair_seed_of p.seed p.servers i j) 1) 0 p.bits

one_said : (clients bits i : ℕ) (line : PlainLine) (rest : Option (List Bool)) → Fits clients bits line
    → length (unwrap_or rest (zeros bits)) ≡ bits → length (unwrap_or (or_else (said_in line i) rest) (zeros bits)) ≡ bits
one_said clients bits i (Say client said) rest fits h =
    cond_both (eqb client.0 i) (Some said) None (λ o. length (unwrap_or (or_else o rest) (zeros bits)) ≡ bits) (λ e. fits.1) (λ e. h)
one_said clients bits i (Submit client) rest fits h = h
one_said clients bits i (Tick count) rest fits h = h
one_said clients bits i Close rest fits h = h

length-said : (lines : List PlainLine) (clients bits i : ℕ) → All (Fits clients bits) lines
    → length (unwrap_or (said_by lines i) (zeros bits)) ≡ bits
length-said [] clients bits i h = length-zeros bits
length-said (line ∷ lines) clients bits i h =
    one_said clients bits i line (said_by lines i) (All-head (Fits clients bits) line lines h)
    (length-said lines clients bits i (All-tail (Fits clients bits) line lines h))

pub length-message : (p : Plain) → IsScript p → (i : ℕ) → length (message p i) ≡ p.bits
length-message p h i = length-said p.lines p.clients p.bits i h.fits

pub length-cipher : (p : Plain) → IsScript p → (i : ℕ) → length (cipher p i) ≡ p.bits
length-cipher p h i =
    length-xor (message p i) (sum_bits p.bits (map (pair_pad p i) (below p.servers))) p.bits (length-message p h i)
    (length-sum p.bits (pair_pad p i) (length-pad p i) (below p.servers))

pub length-server : (p : Plain) → IsScript p → (j : ℕ) → length (server p j) ≡ p.bits
length-server p h j =
    length-xor (sum_bits p.bits (map (λ i. pair_pad p i j) (counted p))) (sum_bits p.bits (map (cipher p) (held p j))) p.bits
    (length-sum p.bits (λ i. pair_pad p i j) (λ i. length-pad p i j) (counted p))
    (length-sum p.bits (cipher p) (length-cipher p h) (held p j))

-- ---- a list that is walked through

-- the first k + 1 of a list are the first k and the next
module _ (xs : List ℕ) (k : ℕ) (x : ℕ) (h : k < length xs) (e : x ≡ get_or xs k 0) where
  pub front_more : take (k + 1) xs ≡ take k xs ++ x ∷ []
  front_more = take_more xs k 0 h ∙ ap (λ y. take k xs ++ y ∷ []) (sym e)

  pub map_more : (f : ℕ → List Bool) → map f (take (k + 1) xs) ≡ map f (take k xs) ++ f x ∷ []
  map_more f = ap (map f) front_more ∙ map-append f (take k xs) (x ∷ [])

  pub flat_more : (f : ℕ → List ℕ) → flat_map f (take (k + 1) xs) ≡ flat_map f (take k xs) ++ f x
  flat_more f = ap (flat_map f) front_more ∙ flat_map-append f (take k xs) (x ∷ []) ∙ ap (λ l. flat_map f (take k xs) ++ l) (append-nil (f x))

  pub filter_yes : (p : ℕ → Bool) → p x ≡ true → filter p (take (k + 1) xs) ≡ filter p (take k xs) ++ x ∷ []
  filter_yes p holds = ap (filter p) front_more ∙ filter-append p (take k xs) (x ∷ []) ∙ ap (λ l. filter p (take k xs) ++ l) (rw holds refl)

  pub filter_no : (p : ℕ → Bool) → p x ≡ false → filter p (take (k + 1) xs) ≡ filter p (take k xs)
  filter_no p other =
      ap (filter p) front_more ∙ filter-append p (take k xs) (x ∷ []) ∙ ap (λ l. filter p (take k xs) ++ l) (rw other refl)
      ∙ append-nil (filter p (take k xs))

-- ---- a sum in a loop

module _ (n : ℕ) (f : ℕ → List Bool) (each : (i : ℕ) → length (f i) ≡ n) where
  pub add_none : (b : List Bool) → length b ≡ n → b ≡ xor_bits b (sum_bits n (map f (below 0)))
  add_none b h = sym (xor_zeros b n h)

  pub add_push : (b bits next : List Bool) (is : List ℕ) (j : ℕ) → bits ≡ xor_bits b (sum_bits n (map f is)) → next ≡ xor_bits bits (f j)
      → next ≡ xor_bits b (sum_bits n (map f (is ++ j ∷ [])))
  add_push b bits next is j so_far more =
      more ∙ ap (λ x. xor_bits x (f j)) so_far ∙ xor_assoc b (sum_bits n (map f is)) (f j)
      ∙ ap (xor_bits b) (sym (sum-push n f each is j))

  pub add_more : (b bits next : List Bool) (j : ℕ) → bits ≡ xor_bits b (sum_bits n (map f (below j))) → next ≡ xor_bits bits (f j)
      → next ≡ xor_bits b (sum_bits n (map f (below (j + 1))))
  add_more b bits next j so_far more =
      add_push b bits next (below j) j so_far more ∙ ap (λ is. xor_bits b (sum_bits n (map f is))) (sym (below_more j))

  pub add_next : (b bits next : List Bool) (is : List ℕ) (k x : ℕ) → k < length is → x ≡ get_or is k 0
      → bits ≡ xor_bits b (sum_bits n (map f (take k is))) → next ≡ xor_bits bits (f x)
      → next ≡ xor_bits b (sum_bits n (map f (take (k + 1) is)))
  add_next b bits next is k x h e so_far more =
      add_push b bits next (take k is) x so_far more ∙ ap (λ js. xor_bits b (sum_bits n (map f js))) (sym (front_more is k x h e))

  pub length-so_far : (b bits : List Bool) (is : List ℕ) → length b ≡ n → bits ≡ xor_bits b (sum_bits n (map f is)) → length bits ≡ n
  length-so_far b bits is h e = ap length e ∙ length-xor b (sum_bits n (map f is)) n h (length-sum n f each is)

-- ---- the pads cancel

map_same : {A : Type 0} (f g : ℕ → A) (is : List ℕ) → ((i : ℕ) → f i ≡ g i) → map f is ≡ map g is
map_same f g [] h = refl
map_same f g (i ∷ is) h = rw (h i, map_same f g is h) refl

-- what is x at place r and zeros elsewhere
abbrev placed : ℕ → List Bool → ℕ → ℕ → List Bool
placed n x r j = if eqb r j then x else zeros n

place_none : (n : ℕ) (x : List Bool) (r a m : ℕ) → r < a → sum_bits n (map (placed n x r) (range_with_len a m)) ≡ zeros n
place_none n x r a zero h = refl
place_none n x r a (suc m) h =
    let ne : r ≡ a → ⊥ = λ e. omega arith in
    rw (ne_eqb r a ne, place_none n x r (a + 1) m (omega arith)) (zeros_xor (zeros n) n (length-zeros n))

place_one : (n : ℕ) (x : List Bool) (r a m : ℕ) → length x ≡ n → a ≤ r → r < a + m → sum_bits n (map (placed n x r) (range_with_len a m)) ≡ x
place_one n x r a zero long low high = absurd (omega arith)
place_one n x r a (suc m) long low high =
    ⊎_elim
    (λ (e : r ≡ a). rw (eq-eqb r a e, place_none n x r (a + 1) m (omega arith)) (xor_zeros x n long))
    (λ (ne : r ≡ a → ⊥). rw (ne_eqb r a ne, place_one n x r (a + 1) m long (omega arith) (omega arith)) (zeros_xor x n long))
    (cases_eq r a)

-- each client's string is held by one server
pub held_once : (n m : ℕ) (f : ℕ → List Bool) → ((i : ℕ) → length (f i) ≡ n) → 0 < m → (is : List ℕ)
    → sum_bits n (map (λ j. sum_bits n (map f (filter (λ i. eqb (i % m) j) is))) (below m)) ≡ sum_bits n (map f is)
held_once n m f each h [] = none (below m)
  where
    none : (js : List ℕ) → sum_bits n (map (λ j. zeros n) js) ≡ zeros n
    none [] = refl
    none (j ∷ js) = ap (xor_bits (zeros n)) (none js) ∙ zeros_xor (zeros n) n (length-zeros n)
held_once n m f each h (i ∷ is) =
    let rest : ℕ → List Bool = λ j. sum_bits n (map f (filter (λ i. eqb (i % m) j) is)) in
    ap (sum_bits n) (map_same (λ j. sum_bits n (map f (filter (λ i. eqb (i % m) j) (i ∷ is)))) (λ j. xor_bits (placed n (f i) (i % m) j) (rest j)) (below m)
    (λ j. ⊎_elim
    (λ (yes : eqb (i % m) j ≡ true). rw yes refl)
    (λ (other : eqb (i % m) j ≡ false). rw other (sym (zeros_xor (rest j) n (length-sum n f each (filter (λ i. eqb (i % m) j) is)))))
    (cases_Bool (eqb (i % m) j))))
    ∙ sum_of_xor n (placed n (f i) (i % m)) rest (below m)
    ∙ ap (λ x. xor_bits x (sum_bits n (map rest (below m)))) (place_one n (f i) (i % m) 0 m (each i) (omega arith) (omega (arith, mod_below i m h)))
    ∙ ap (xor_bits (f i)) (held_once n m f each h is)

-- what is added twice is gone
twice : (n : ℕ) (a b : List Bool) → length a ≡ n → length b ≡ n → xor_bits a (xor_bits b a) ≡ b
twice n a b h g =
    ap (xor_bits a) (xor_comm b a) ∙ sym (xor_assoc a a b) ∙ ap (λ x. xor_bits x b) (xor_self a n h) ∙ zeros_xor b n g

-- the sum of the servers' ciphertexts is the sum of the messages
pub sum_of_servers : (p : Plain) → IsScript p → sum_bits p.bits (map (server p) (below p.servers)) ≡ output p
sum_of_servers p h =
    let n = p.bits in
    let js = below p.servers in
    let is = counted p in
    let pads : ℕ → List Bool = λ i. sum_bits n (map (pair_pad p i) js) in
    let all_pads = sum_bits n (map pads is) in
    sum_of_xor n (λ j. sum_bits n (map (λ i. pair_pad p i j) is)) (λ j. sum_bits n (map (cipher p) (held p j))) js
    ∙ ap (λ x. xor_bits x (sum_bits n (map (λ j. sum_bits n (map (cipher p) (held p j))) js))) (sum_swap n (pair_pad p) is js)
    ∙ ap (xor_bits all_pads) (held_once n p.servers (cipher p) (length-cipher p h) h.some_servers is
    ∙ sum_of_xor n (message p) pads is)
    ∙ twice n all_pads (output p)
    (length-sum n pads (λ i. length-sum n (pair_pad p i) (length-pad p i) js) is)
    (length-sum n (message p) (length-message p h) is)

-- an element of a list that is made from another
pub at_place : (f : ℕ → List Bool) (is : List ℕ) (xs : List (List Bool)) (k x : ℕ) (r : List Bool) → xs ≡ map f is → r ≡ get_or xs k r
    → x ≡ get_or is k 0 → k < length is → r ≡ f x
at_place f is xs k x r e is-r is-x lt = is-r ∙ ap (λ l. get_or l k r) e ∙ get_or-map f is k 0 r lt ∙ ap f (sym is-x)

-- an element of a list that is made from a function of the index
pub at_index : (f : ℕ → List Bool) (n : ℕ) (xs : List (List Bool)) (i : ℕ) (r : List Bool) → xs ≡ map f (below n) → r ≡ get_or xs i r → i < n → r ≡ f i
at_index f n xs i r e is lt = is ∙ ap (λ l. get_or l i r) e ∙ get_or-map-range_with_len f 0 n i i r lt (omega arith)

-- each client that counts is a client
all_below : (n : ℕ) → All (λ i. i < n) (below n)
all_below n = All-from_get_or (λ i. i < n) (below n) 0 (λ k h.
    let within : k < n = omega (arith, length-range_with_len 0 n) in
    omega (arith, get_or-range_with_len 0 n k 0 within))

pub counted_within : (p : Plain) (is : List ℕ) (k : ℕ) → is ≡ counted p → k < length is → get_or is k 0 < p.clients
counted_within p is k e h =
    let some : k < length (counted p) = omega (arith, ap length e) in
    let all : All (λ i. i < p.clients) (counted p) =
    cond_both (has_window p.lines) _ (below p.clients) (All (λ i. i < p.clients))
    (λ t. All-filter (is_included (with_lines p.clients p.lines [])) (λ i. i < p.clients) (below p.clients) (all_below p.clients))
    (λ t. all_below p.clients) in
    omega (arith, ap (λ l. get_or l k 0) e, All-get_or (λ i. i < p.clients) (counted p) k 0 some all)
