-- The server's ciphertext.
use Rattle.std.proofs.Common.{◌≡◌, ℕ, Bool, true, false, List, [], ◌∷◌, ◌++◌, length, get_or, map, Some, None, refl, sym, ap, ◌∙◌}
use Rattle.std.specs.Prelude.{Option, All, nat_lt, not, ◌==◌, if◌then◌else◌}
use Rattle.std.proofs.lemmas.List.{length-map}
use Rattle.std.proofs.lemmas.List.FromFn.{length-range_with_len}
use Rattle.std.proofs.lemmas.List.Elements.{All-cons, All-nil, All-append}
use Rattle.dn_bits.specs.Bits.{sum_bits, flip_at, bit, below}
use Rattle.dn_combine.specs.Parts.{pads_of}
use Rattle.dn_combine.proofs.Sums.{Long, pads_long, length-sum_all}
use Rattle.dn_record_types.specs.declared.body.Listed.{Listed}
use Rattle.dn_record_types.specs.declared.shown.ShownCipher.{ShownCipher}
use Rattle.dn_server.specs.Justified.{Seat, Course, AreOfRows, pad_with, server_string}
use Rattle.dn_cert.specs.Trim.{given_to}
use Rattle.dn_server.specs.declared.run.Sum.{Sum}
use Rattle.dn_server.specs.Server.{ServerView, course_of}
use Rattle.dn_rounds.specs.Going.{turned, IsSum}

-- the ciphertexts have the round's length
pub ciphers_long : (course : Course) (rows : List Listed) (own : List ShownCipher) → AreOfRows course rows own
    → All (Long course.bits) (map (λ (s : ShownCipher). s.cipher) own)
ciphers_long course [] [] h = All-nil (Long course.bits)
ciphers_long course [] (s ∷ ss) h = absurd h
ciphers_long course (l ∷ ls) [] h = absurd h
ciphers_long course (l ∷ ls) (s ∷ ss) h =
    All-cons (Long course.bits) s.cipher (map (λ (x : ShownCipher). x.cipher) ss) h.0.long (ciphers_long course ls ss h.1)

abbrev pub seeds_of : List (List ℕ) → List Listed → List (List ℕ)
seeds_of seeds listed = map (λ (l : Listed). get_or seeds l.client.0 []) listed

pub pads_same : (seat : Seat) (course : Course) (listed : List Listed)
    → pads_of (seeds_of seat.seeds listed) course.r.0 course.bits ≡ map (λ (l : Listed). pad_with seat course l.client.0) listed
pads_same seat course [] = refl
pads_same seat course (l ∷ ls) = ap (λ x. pad_with seat course l.client.0 ∷ x) (pads_same seat course ls)

-- the sum that is computed
pub string_is : (seat : Seat) (course : Course) (listed : List Listed) (own : List ShownCipher)
    → sum_bits course.bits (pads_of (seeds_of seat.seeds listed) course.r.0 course.bits ++ map (λ (s : ShownCipher). s.cipher) own) ≡ server_string seat course listed own
string_is seat course listed own = ap (λ x. sum_bits course.bits (x ++ map (λ (s : ShownCipher). s.cipher) own)) (pads_same seat course listed)

pub length-string : (seat : Seat) (course : Course) (listed rows : List Listed) (own : List ShownCipher) → AreOfRows course rows own
    → length (server_string seat course listed own) ≡ course.bits
length-string seat course listed rows own h =
    ap length (sym (string_is seat course listed own))
    ∙ length-sum_all course.bits (pads_of (seeds_of seat.seeds listed) course.r.0 course.bits ++ map (λ (s : ShownCipher). s.cipher) own)
    (All-append (Long course.bits) (pads_of (seeds_of seat.seeds listed) course.r.0 course.bits) (map (λ (s : ShownCipher). s.cipher) own)
    (pads_long (seeds_of seat.seeds listed) course.r.0 course.bits) (ciphers_long course rows own h))

length-flip : (s : List Bool) (k : ℕ) → length (flip_at s k) ≡ length s
length-flip s k = length-map (below (length s)) (λ j. if j == k then not (bit s j) else bit s j) ∙ length-range_with_len 0 (length s)

choose : (b : Bool) (x y : List Bool) (n : ℕ) → length x ≡ n → length y ≡ n → length (if b then x else y) ≡ n
choose true x y n h g = h
choose false x y n h g = g

pub length-turned : (at : Option ℕ) (s : List Bool) → length (turned at s) ≡ length s
length-turned None s = refl
length-turned (Some k) s = choose (nat_lt k (length s)) (flip_at s k) s (length s) (length-flip s k) refl

pub sum_long : (v : ServerView) (sum : Sum) → IsSum v sum → length sum.s ≡ v.run.bits
sum_long v sum is =
    ap length is.value ∙ length-turned v.bend (server_string v.seat (course_of v.run) sum.listed sum.own)
    ∙ length-string v.seat (course_of v.run) sum.listed (given_to sum.listed v.seat.number) sum.own is.rows
