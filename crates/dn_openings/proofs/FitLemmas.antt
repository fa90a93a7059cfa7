-- What a server shows fits into an envelope.
use Rattle.std.proofs.Common.{◌≡◌, ℕ, ◌+◌, ◌<◌, ◌≤◌, ◌^◌, Bool, List, [], ◌∷◌, map, length, cond, refl, sym, ap, ◌∙◌, subst, arith, inl, inr}
use Rattle.std.specs.Prelude.{All, filter, ◌==◌}
use Rattle.std.specs.List.{AllByRecursion}
use Rattle.std.proofs.lemmas.Bool.{cases_Bool}
use Rattle.std.proofs.lemmas.List.Elements.{All-head, All-tail, All-filter}
use Rattle.dn_wire.specs.declared.ids.ClientId.{ClientId}
use Rattle.dn_wire.specs.declared.limits.TheConstants.{MAX_BITS, MAX_CLIENTS}
use Rattle.dn_record_types.specs.Lists.{AscendFrom, Ascend, FitsRow}
use Rattle.dn_record_types.specs.Records.{shown_cipher}
use Rattle.dn_record_types.specs.declared.body.Listed.{Listed}
use Rattle.dn_record_types.specs.declared.shown.ShownCipher.{ShownCipher}
use Rattle.dn_record_types.specs.declared.statement.Statement.TheVariants as kinds
use Rattle.dn_seal.specs.Dealt.{server}
use Rattle.dn_seal.specs.Signer.{CanSign}
use Rattle.dn_seal.proofs.SizeLemmas.{can_sign}
use Rattle.dn_cert.specs.Trim.{given_to}
use Rattle.dn_server.specs.Justified.{Course, AreOfRows}

abbrev clients : List Listed → List ClientId
clients ls = map (λ (l : Listed). l.client) ls

lower : (f g : ℕ) (ids : List ClientId) → g ≤ f → AscendFrom f ids → AscendFrom g ids
lower f g [] low up = tt
lower f g (i ∷ ids) low up = (omega (arith, up.0), up.1)

-- some of ascending rows ascend
some_ascend : (p : Listed → Bool) (floor : ℕ) (ls : List Listed) → AscendFrom floor (clients ls) → AscendFrom floor (clients (filter p ls))
some_ascend p floor [] up = tt
some_ascend p floor (l ∷ ls) up =
    let rest = some_ascend p (l.client.0 + 1) ls up.1 in
    elim (cases_Bool (p l)) [
      | inl is ↦ subst (λ b. AscendFrom floor (clients (cond b (l ∷ filter p ls) (filter p ls)))) (sym is) (up.0, rest)
      | inr isnt ↦
          let low : floor ≤ l.client.0 + 1 = omega (arith, up.0) in
          subst (λ b. AscendFrom floor (clients (cond b (l ∷ filter p ls) (filter p ls)))) (sym isnt) (lower (l.client.0 + 1) floor (clients (filter p ls)) low rest)
    ]

-- there are no more of them
some_few : (p : Listed → Bool) (ls : List Listed) → length (filter p ls) ≤ length ls
some_few p [] = omega arith
some_few p (l ∷ ls) =
    let rest = some_few p ls in
    elim (cases_Bool (p l)) [
      | inl is ↦ subst (λ b. length (cond b (l ∷ filter p ls) (filter p ls)) ≤ length (l ∷ ls)) (sym is) (omega arith)
      | inr isnt ↦ subst (λ b. length (cond b (l ∷ filter p ls) (filter p ls)) ≤ length (l ∷ ls)) (sym isnt) (omega arith)
    ]

-- ciphertexts of rows are as many as these, of the same clients
same_clients : (course : Course) (ls : List Listed) (ss : List ShownCipher) → AreOfRows course ls ss → map (λ (s : ShownCipher). s.client) ss ≡ clients ls
same_clients course [] [] are = refl
same_clients course [] (s ∷ ss) are = absurd are
same_clients course (l ∷ ls) [] are = absurd are
same_clients course (l ∷ ls) (s ∷ ss) are = ap (λ i. i ∷ map (λ (x : ShownCipher). x.client) ss) are.0.client ∙ ap (λ is. l.client ∷ is) (same_clients course ls ss are.1)

as_many : (course : Course) (ls : List Listed) (ss : List ShownCipher) → AreOfRows course ls ss → length ss ≡ length ls
as_many course [] [] are = refl
as_many course [] (s ∷ ss) are = absurd are
as_many course (l ∷ ls) [] are = absurd are
as_many course (l ∷ ls) (s ∷ ss) are = let rest = as_many course ls ss are.1 in omega arith

-- each fits as a row
rows_fit : (course : Course) (ls : List Listed) (ss : List ShownCipher) → course.bits ≤ MAX_BITS → All (λ (l : Listed). l.client.0 < 2 ^ 32) ls
    → AreOfRows course ls ss → AllByRecursion (FitsRow shown_cipher) ss
rows_fit course [] [] few low are = tt
rows_fit course [] (s ∷ ss) few low are = absurd are
rows_fit course (l ∷ ls) [] few low are = absurd are
rows_fit course (l ∷ ls) (s ∷ ss) few low are =
    let first : l.client.0 < 2 ^ 32 = All-head (λ (x : Listed). x.client.0 < 2 ^ 32) l ls low in
    let here : s.client.0 < 2 ^ 32 = subst (λ (i : ClientId). i.0 < 2 ^ 32) (sym are.0.client) first in
    let long : length s.cipher ≤ MAX_BITS = subst (λ n. n ≤ MAX_BITS) (sym are.0.long) few in
    ((here, long), rows_fit course ls ss few (All-tail (λ (x : Listed). x.client.0 < 2 ^ 32) l ls low) are.1)

pub shown_fits : (number : ℕ) (course : Course) (listed : List Listed) (s : List Bool) (own : List ShownCipher) → number < 2 ^ 32 → course.r.0 < 2 ^ 64
    → course.bits ≤ 65536 → length listed ≤ 512 → Ascend (map (λ (l : Listed). l.client) listed) → All (λ (l : Listed). l.client.0 < 2 ^ 32) listed
    → length s ≡ course.bits → AreOfRows course (given_to listed number) own → CanSign (server number) (kinds.Shown course.r s own)
shown_fits number course listed s own low round few rows up clients_low long are =
    let mine : Listed → Bool = λ l. l.server.0 == number in
    let bits : length s ≤ MAX_BITS = omega arith in
    let course_bits : course.bits ≤ MAX_BITS = omega arith in
    let count : length own ≤ MAX_CLIENTS = omega (arith, as_many course (given_to listed number) own are, some_few mine listed) in
    let ascend : Ascend (map (λ (x : ShownCipher). x.client) own) =
    subst (λ is. AscendFrom 0 is) (sym (same_clients course (given_to listed number) own are)) (some_ascend mine 0 listed up) in
    let fit : AllByRecursion (FitsRow shown_cipher) own =
    rows_fit course (given_to listed number) own course_bits (All-filter mine (λ (l : Listed). l.client.0 < 2 ^ 32) listed clients_low) are in
    can_sign (server number) (kinds.Shown course.r s own) low (round, (bits, (count, ascend, fit))) tt
