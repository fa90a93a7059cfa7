-- What is kept, and what of it opens a place.
use Rattle.std.proofs.Common.{◌≡◌, ℕ, ◌+◌, ◌<◌, ◌≤◌, ◌^◌, [], ◌∷◌, ◌++◌, map, Bool, true, List, refl, sym, ap, ◌∙◌, subst, arith, length}
use Rattle.std.specs.Prelude.{Contains, ◌&&◌, ◌==◌, Some, None}
use Rattle.std.proofs.lemmas.Bool.{eqb-true, eq-eqb, false≢true, and_parts}
use Rattle.std.proofs.lemmas.Option.{none-some}
use Rattle.dn_wire.specs.declared.ids.Round.{Round}
use Rattle.dn_wire.specs.declared.ids.SignerId.{SignerId}
use Rattle.dn_wire.specs.declared.ids.SignerId.TheVariants as signers
use Rattle.dn_record_types.specs.declared.statement.Statement.{Statement}
use Rattle.dn_record_types.specs.declared.statement.Statement.TheVariants as kinds
use Rattle.dn_seal.specs.Dealt.{server}
use Rattle.dn_seal.specs.Said.{SaidView, IsSaid}
use Rattle.dn_seal.specs.Sizes.{HasShortSignatures, most_bytes, longest_signature, longest_bits}
use Rattle.dn_seal.proofs.SizeLemmas.{said_few}
use Rattle.std.proofs.lemmas.List.{map-append}
use Rattle.dn_bits.specs.Bits.{below}
use Rattle.dn_bits.proofs.SumLemmas.{below_more}
use Rattle.dn_trace.specs.Trial.{Says}
use Rattle.dn_trace.proofs.HeardLemmas.{found, finds}
use Rattle.dn_server.specs.declared.places.Place.{Place}
use Rattle.dn_server.specs.Server.{is_server}
use Rattle.dn_openings.specs.Evidence.{is_pad, pad_by, AreEnvelopes}

pub server_is : (j : ℕ) (who : SignerId) → is_server j who ≡ true → who ≡ server j
server_is j (signers.Client i) h = absurd (false≢true h)
server_is j (signers.Server x) h = ap server (eqb-true x.0 j h)
server_is j (signers.Slot s) h = absurd (false≢true h)

pub is_its_server : (j : ℕ) (who : SignerId) → who ≡ server j → is_server j who ≡ true
is_its_server j who e = ap (is_server j) e ∙ eq-eqb j j refl

pub pad_is : (r : Round) (k : ℕ) (s : Statement) → is_pad r k s ≡ true → (pad : List Bool) × (s ≡ kinds.PadBits r k pad)
pad_is r k (kinds.Submission round prev i d) h = absurd (false≢true h)
pad_is r k (kinds.Receipt round i d t) h = absurd (false≢true h)
pad_is r k (kinds.Inventory v) h = absurd (false≢true h)
pad_is r k (kinds.Commit round d) h = absurd (false≢true h)
pad_is r k (kinds.Reveal round s) h = absurd (false≢true h)
pad_is r k (kinds.Sign b) h = absurd (false≢true h)
pad_is r k (kinds.PadBits round at bits) h =
    let parts = and_parts (round.0 == r.0) (at == k) h in
    (bits, ap (λ n. kinds.PadBits record { 0 = n } at bits) (eqb-true round.0 r.0 parts.0) ∙ ap (λ n. kinds.PadBits r n bits) (eqb-true at k parts.1))
pad_is r k (kinds.Shown round s xs) h = absurd (false≢true h)
pad_is r k (kinds.Accusation round s at) h = absurd (false≢true h)
pad_is r k (kinds.Rebuttal round at x seed e) h = absurd (false≢true h)
pad_is r k (kinds.Concede round at) h = absurd (false≢true h)

both : (a b : Bool) → a ≡ true → b ≡ true → (a && b) ≡ true
both a b p q = ap (λ x. x && b) p ∙ q

pub is_its_pad : (r : Round) (k : ℕ) (pad : List Bool) → is_pad r k (kinds.PadBits r k pad) ≡ true
is_its_pad r k pad = both (r.0 == r.0) (k == k) (eq-eqb r.0 r.0 refl) (eq-eqb k k refl)

abbrev pub test_of : Place → ℕ → SaidView → Bool
test_of place j x = is_server j x.signer && is_pad place.r place.k x.statement

pub pad_found : (kept : List SaidView) (place : Place) (j : ℕ) (x : SaidView) → pad_by kept place j ≡ Some x
    → Contains kept x × (x.signer ≡ server j) × ((pad : List Bool) × (x.statement ≡ kinds.PadBits place.r place.k pad))
pad_found kept place j x e =
    let there = found (test_of place j) kept x e in
    let parts = and_parts (is_server j x.signer) (is_pad place.r place.k x.statement) there.1 in
    (there.0, server_is j x.signer parts.0, pad_is place.r place.k x.statement parts.1)

pub pad_none : (kept : List SaidView) (place : Place) (j : ℕ) → pad_by kept place j ≡ None
    → (pad : List Bool) → Says kept (server j) (kinds.PadBits place.r place.k pad) → ⊥
pad_none kept place j e pad says =
    let x = says.0 in
    let passes : test_of place j x ≡ true =
    both (is_server j x.signer) (is_pad place.r place.k x.statement) (is_its_server j x.signer says.2)
    (ap (is_pad place.r place.k) says.3 ∙ is_its_pad place.r place.k pad) in
    let first = finds (test_of place j) kept says.1.0 x says.1.1 (ap (test_of place j) says.1.2 ∙ passes) in
    none-some first.0 (sym e ∙ first.1)

-- one server's envelope more
pub envelopes_more : (kept : List SaidView) (place : Place) (n : ℕ) (es : List (List ℕ)) (x : SaidView) → AreEnvelopes kept place n es → pad_by kept place n ≡ Some x
    → AreEnvelopes kept place (n + 1) (es ++ x.bytes ∷ [])
envelopes_more kept place n es x are found_x = record {
  pads = are.pads ++ x ∷ [];
  each =
      map-append (λ y. Some y) are.pads (x ∷ [])
      ∙ ap (λ l. l ++ Some x ∷ []) are.each
      ∙ ap (λ o. map (pad_by kept place) (below n) ++ o ∷ []) (sym found_x)
      ∙ sym (map-append (pad_by kept place) (below n) (n ∷ []))
      ∙ ap (map (pad_by kept place)) (sym (below_more n));
  spelled = ap (λ l. l ++ x.bytes ∷ []) are.spelled ∙ sym (map-append (λ y. y.bytes) are.pads (x ∷ []));
}

-- pad bits fit behind four bytes
pub short_pad : (x : SaidView) (r : Round) (k : ℕ) (pad : List Bool) → IsSaid x → x.statement ≡ kinds.PadBits r k pad → length x.bytes < 2 ^ 32
short_pad x r k pad is e =
    let short : HasShortSignatures x.statement = subst HasShortSignatures (sym e) tt in
    let few : length x.bytes ≤ 9 + most_bytes x.statement + longest_signature = said_few x is short in
    let most : most_bytes x.statement ≡ 1 + 8 + 4 + longest_bits = ap most_bytes e in
    omega arith
