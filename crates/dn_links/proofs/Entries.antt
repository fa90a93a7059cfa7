-- An inventory's entries are the claims told Included.
use Rattle.std.proofs.Common.{◌≡◌, ℕ, zero, suc, ◌+◌, ◌<◌, List, [], ◌∷◌, length, refl, sym, ap, subst, ◌∙◌, arith, inl, inr}
use Rattle.std.specs.Prelude.{Contains, Option, Some, None, slice_get}
use Rattle.std.specs.List.{filter_map, cons_option, range_with_len}
use Rattle.std.proofs.lemmas.Option.{same_Some, slice_get_within}
use Rattle.dn_bits.specs.Bits.{below}
use Rattle.dn_record_types.specs.declared.inventory.Entry.{Entry}
use Rattle.dn_record_types.specs.declared.statement.WordTold.{WordTold}
use Rattle.dn_record_types.specs.declared.statement.WordTold.TheVariants as words
use Rattle.dn_cert.proofs.Orders.{here, later, nothing, first_or_later}
use Rattle.dn_server.specs.declared.claims.Claim.{Claim}
use Rattle.dn_exchange.specs.Closing.{entry_for, entry_from, entry_at, entries_of}

-- what a filter that maps gives of an element stands in its list
kept_on : {X Y : Type 0} (h : X → Option Y) (o : Option Y) (xs : List X) (y : Y) → Contains (filter_map h xs) y → Contains (cons_option o (filter_map h xs)) y
kept_on h None xs y c = c
kept_on h (Some z) xs y c = later z (filter_map h xs) y c

to_filter_map : {X Y : Type 0} (h : X → Option Y) (xs : List X) (x : X) (y : Y) → Contains xs x → h x ≡ Some y → Contains (filter_map h xs) y
to_filter_map h [] x y c e = absurd (nothing x c)
to_filter_map h (z ∷ zs) x y c e =
    elim (first_or_later z zs x c) [
      | inl same ↦ subst (λ o. Contains (cons_option o (filter_map h zs)) y) (sym (ap h same ∙ e)) (here y (filter_map h zs))
      | inr behind ↦ kept_on h (h z) zs y (to_filter_map h zs x y behind e)
    ]

from_one : {X Y : Type 0} (h : X → Option Y) (z : X) (zs : List X) (y : Y) (o : Option Y) → h z ≡ o
    → (Contains (filter_map h zs) y → (x : X) × (h x ≡ Some y)) → Contains (cons_option o (filter_map h zs)) y → (x : X) × (h x ≡ Some y)
from_one h z zs y None is rest c = rest c
from_one h z zs y (Some v) is rest c =
    elim (first_or_later v (filter_map h zs) y c) [ inl same ↦ (z, is ∙ ap Some same) | inr behind ↦ rest behind ]

from_filter_map : {X Y : Type 0} (h : X → Option Y) (xs : List X) (y : Y) → Contains (filter_map h xs) y → (x : X) × (h x ≡ Some y)
from_filter_map h [] y c = absurd (nothing y c)
from_filter_map h (z ∷ zs) y c = from_one h z zs y (h z) refl (from_filter_map h zs y) c

number_in : (a n i : ℕ) → i < n → Contains (range_with_len a n) (a + i)
number_in a zero i lt = absurd (omega arith)
number_in a (suc n) zero lt = subst (Contains (range_with_len a (suc n))) (omega arith) (here a (range_with_len (a + 1) n))
number_in a (suc n) (suc i) lt =
    later a (range_with_len (a + 1) n) (a + suc i) (subst (Contains (range_with_len (a + 1) n)) (omega arith) (number_in (a + 1) n i (omega arith)))

-- the entry of a claim
abbrev own_entry : ℕ → Claim → Entry
own_entry i claim = record { client = record { 0 = i }; digest = claim.digest; signature = claim.signature }

included_entry : (i : ℕ) (claim : Claim) (t : WordTold) → t ≡ words.Included → entry_for i t claim ≡ Some (own_entry i claim)
included_entry i claim words.Included e = refl
included_entry i claim words.Late e = absurd cc

pub entry_in : (claims : List (Option Claim)) (i : ℕ) (claim : Claim) → slice_get claims i ≡ Some (Some claim) → claim.told ≡ words.Included
    → (e : Entry) × Contains (entries_of claims) e × (e.client.0 ≡ i) × (e.digest ≡ claim.digest)
entry_in claims i claim at told =
    let is : entry_at claims i ≡ Some (own_entry i claim) = ap (entry_from i) at ∙ included_entry i claim claim.told told in
    let number : Contains (below (length claims)) i =
    subst (Contains (below (length claims))) (omega arith) (number_in 0 (length claims) i (slice_get_within claims i (Some claim) at)) in
    (own_entry i claim, to_filter_map (entry_at claims) (below (length claims)) i (own_entry i claim) number is, refl, refl)

by_word : (i : ℕ) (claim : Claim) (t : WordTold) (e : Entry) → entry_for i t claim ≡ Some e → (t ≡ words.Included) × (own_entry i claim ≡ e)
by_word i claim words.Included e is = (refl, same_Some (own_entry i claim) e is)
by_word i claim words.Late e is = absurd cc

entry_found : (i : ℕ) (o : Option (Option Claim)) (e : Entry) → entry_from i o ≡ Some e
    → (claim : Claim) × (o ≡ Some (Some claim)) × (claim.told ≡ words.Included) × (own_entry i claim ≡ e)
entry_found i None e is = absurd cc
entry_found i (Some None) e is = absurd cc
entry_found i (Some (Some claim)) e is = let parts = by_word i claim claim.told e is in (claim, refl, parts.0, parts.1)

pub claim_of : (claims : List (Option Claim)) (e : Entry) → Contains (entries_of claims) e
    → (claim : Claim) × (slice_get claims e.client.0 ≡ Some (Some claim)) × (claim.told ≡ words.Included) × (e.digest ≡ claim.digest)
claim_of claims e c =
    let from = from_filter_map (entry_at claims) (below (length claims)) e c in
    let has = entry_found from.0 (slice_get claims from.0) e from.1 in
    let number : from.0 ≡ e.client.0 = ap (λ (x : Entry). x.client.0) has.3 in
    (has.0, ap (slice_get claims) (sym number) ∙ has.1, has.2, ap (λ (x : Entry). x.digest) (sym has.3))
