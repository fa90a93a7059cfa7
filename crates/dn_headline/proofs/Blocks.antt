-- Where all else is 0, an honest client's bits stand in the output.
use Rattle.std.proofs.Common.{◌≡◌, ℕ, ◌+◌, List, [], ◌∷◌, map, length, refl, sym, ap, ◌∙◌, arith, inl, inr, Bool, true, false}
use Rattle.std.specs.Prelude.{Contains}
use Rattle.std.proofs.lemmas.Bool.{cases_eq}
use Rattle.std.proofs.lemmas.List.Elements.{All-map}
use Rattle.dn_wire.specs.declared.ids.ClientId.{ClientId}
use Rattle.dn_bits.specs.Bits.{xor, bit, below}
use Rattle.dn_record_types.specs.Lists.{AscendFrom}
use Rattle.dn_record_types.specs.declared.body.Listed.{Listed}
use Rattle.dn_cert.proofs.Orders.{here, later, nothing, first_or_later, above_floor, one_each, same_client, All-from_contains}
use Rattle.dn_bits.specs.XorAll.{xor_all}
use Rattle.dn_bits.proofs.BitLemmas.{bit-xor, bit-sum}
use Rattle.dn_headline.specs.Group.{servers_of}
use Rattle.dn_headline.specs.Run.{RunView}
use Rattle.dn_headline.specs.Strings.{contribution, contributions, deviation}
use Rattle.dn_headline.specs.Clean.{Clean}
use Rattle.dn_headline.specs.Headline.{BlocksStand}
use Rattle.dn_headline.specs.Invariant.{Facts, Invariant}
use Rattle.dn_headline.proofs.Listing.{certified_is_justified}
use Rattle.dn_bits.proofs.TotalLemmas.{total, length-total}
use Rattle.dn_headline.proofs.Output.{below_within, length-contribution, length-deviation, output_is_whole, honest_clients_add_their_text_lem}

-- the XOR of bits none of which is set
all_false : {A : Type 0} (g : A → Bool) (xs : List A) → ((x : A) → Contains xs x → g x ≡ false) → xor_all (map g xs) ≡ false
all_false g [] none = refl
all_false g (x ∷ xs) none = λ i. xor (none x (here x xs) i) (all_false g xs (λ y h. none y (later x xs y h)) i)

xor_false : (b : Bool) → xor b false ≡ b
xor_false true = refl
xor_false false = refl

-- the XOR of bits of which one may be set
only_one : (g : Listed → Bool) (floor : ℕ) (ls : List Listed) (l : Listed) → AscendFrom floor (map (λ (l : Listed). l.client) ls) → Contains ls l
    → ((o : Listed) → Contains ls o → ¬ (o.client ≡ l.client) → g o ≡ false) → xor_all (map g ls) ≡ g l
only_one g floor [] l up there none = absurd (nothing l there)
only_one g floor (m ∷ ls) l up there none =
    elim (cases_eq m.client.0 l.client.0) [
      | inl e ↦
          let same = one_each (λ (l : Listed). l.client) floor (m ∷ ls) m l up (here m ls) there (same_client m.client l.client e) in
          let rest = all_false g ls (λ o h. none o (later m ls o h) (λ eq.
          let past = above_floor (λ (l : Listed). l.client) (m.client.0 + 1) ls o up.1 h in
          let number = ap (λ (i : ClientId). i.0) eq in
          omega (arith, past, number, e))) in
          (λ i. xor (g (same i)) (rest i)) ∙ xor_false (g l)
      | inr ne ↦ elim (first_or_later m ls l there) [
        | inl is ↦ absurd (ne (ap (λ (l : Listed). l.client.0) is))
        | inr behind ↦
            let first = none m (here m ls) (λ eq. ne (ap (λ (i : ClientId). i.0) eq)) in
            let rest = only_one g (m.client.0 + 1) ls l up.1 behind (λ o h. none o (later m ls o h)) in
            λ i. xor (first i) (rest i)
      ]
    ]

pub map-map : {A B C : Type 0} (g : B → C) (f : A → B) (xs : List A) → map g (map f xs) ≡ map (λ x. g (f x)) xs
map-map g f [] = refl
map-map g f (x ∷ xs) = ap (λ l. g (f x) ∷ l) (map-map g f xs)

-- a bit of a total
bit-total : {A : Type 0} (n k : ℕ) (f : A → List Bool) (xs : List A) → ((x : A) → Contains xs x → length (f x) ≡ n) → bit (total n f xs) k ≡ xor_all (map (λ x. bit (f x) k) xs)
bit-total n k f xs each =
    bit-sum n (map f xs) k (All-map (λ (y : List Bool). length y ≡ n) f xs (All-from_contains (λ x. length (f x) ≡ n) xs each))
    ∙ ap xor_all (map-map (λ y. bit y k) f xs)

pub blocks_stand_lem : (w : RunView) (f : Facts) → Invariant w f → Clean w → BlocksStand w
blocks_stand_lem w f inv clean b n x l k has there honest within alone =
    let c = has.certified in
    let g = w.group in
    let of : ℕ → List Bool = deviation g b n x.cipher x.sum in
    let from : Listed → List Bool = λ o. contribution g b n x.cipher o.client.0 in
    let text = honest_clients_add_their_text_lem w f inv clean b n x l has there honest in
    let whole = output_is_whole w f inv clean b n x has in
    let from_long : (o : Listed) → Contains b.listed o → length (from o) ≡ n = λ o h. length-contribution w f inv clean b n x o h in
    let of_long : (j : ℕ) → Contains (below (servers_of g)) j → length (of j) ≡ n = λ j h. length-deviation w f inv clean b n x c j (below_within (servers_of g) j h) in
    let theirs : bit (contributions g b n x.cipher) k ≡ bit (from l) k =
    bit-total n k from b.listed from_long
    ∙ only_one (λ o. bit (from o) k) 0 b.listed l (certified_is_justified w f inv clean b clean.honest.0 clean.honest.1 c).trim.ascends there alone.clients in
    let none : bit (total n of (below (servers_of g))) k ≡ false =
    bit-total n k of (below (servers_of g)) of_long
    ∙ all_false (λ j. bit (of j) k) (below (servers_of g)) (λ j h. alone.servers (record { 0 = j }) (below_within (servers_of g) j h)) in (
      text.0,
      text.1,
      ap (λ (z : List Bool). bit z k) whole
          ∙ bit-xor (contributions g b n x.cipher) (total n of (below (servers_of g))) k (length-total n from b.listed from_long ∙ sym (length-total n of (below (servers_of g)) of_long))
          ∙ (λ i. xor (theirs i) (none i)) ∙ xor_false (bit (from l) k) ∙ ap (λ (z : List Bool). bit z k) text.2,
    )
