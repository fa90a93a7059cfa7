-- What stands in a store of payloads.
use Rattle.std.proofs.Common.{◌≡◌, ℕ, Bool, true, false, List, [], ◌∷◌, ◌++◌, map, Option, None, Some, Contains, All, ap, sym, subst, ◌∙◌, true≢false, is_some, position, ◌<◌, ◌≤◌, ◌⊎◌, inl, inr, get_or, arith, length, zero, suc, refl}
use Rattle.std.specs.Prelude.{slice_get}
use Rattle.std.specs.Option.{option_map}
use Rattle.std.specs.Global.{Vec}
use Rattle.std.specs.Str.{bytes_eq}
use Rattle.std.specs.Map.{keys_of}
use Rattle.std.specs.List.{slice_index_or, AllByRecursion}
use Rattle.std.proofs.lemmas.Map.{none_passes_from_lookup}
use Rattle.std.proofs.lemmas.List.Elements.{All-push}
use Rattle.std.proofs.lemmas.List.{map-append, length-map}
use Rattle.indexmap.proofs.MapLemmas.{Missing-position, insert_entry-absent}
use Rattle.indexmap.specs.IndexMap.{insert_entry}
use Rattle.std.proofs.lemmas.Option.{slice_get-map, slice_get_within, get_or_from_slice_get, slice_get_cases}
use Rattle.std.proofs.lemmas.List.Quantifiers.{position-Some}
use Rattle.std.proofs.lemmas.Map.Entries.{length-keys_of}
use Rattle.std.proofs.lemmas.Slice.Eq.{bytes_eq-Decides}
use Rattle.dn_roster.specs.Roster.{RosterView}
use Rattle.dn_payloads.specs.declared.content.Content.{Content}
use Rattle.dn_payloads.specs.Payloads.{PayloadView, PayloadsView, IsContent, IsFound, IsNumberedBy}
use Rattle.dn_payloads.specs.Inside.{payload_in, items_of, AreKept}

module _ (entries : List (Vec ℕ × Content)) (p : ℕ) (e : Vec ℕ × Content) where
  -- an entry is the payload with its place as number
  pub stored : slice_get entries p ≡ Some e → slice_get (items_of entries) p ≡ Some (payload_in e)
  stored at = slice_get-map payload_in entries p ∙ ap (option_map payload_in) at

  pub content_at : (roster : RosterView) → AreKept roster entries → slice_get entries p ≡ Some e → IsContent roster e.0.items e.1
  content_at roster all at = subst (λ x. IsContent roster x.0.items x.1) (get_or_from_slice_get entries p e e at) (all p e (slice_get_within entries p e at))

-- where an entry stands, its payload is found
pub found : (roster : RosterView) (entries : List (Vec ℕ × Content)) (p : ℕ) (bytes : Vec ℕ) (content : Content) (is : PayloadView → Type 0)
    → AreKept roster entries → slice_get entries p ≡ Some (bytes, content) → is (record { bytes = bytes.items; content = content })
    → IsFound (record { roster = roster; items = items_of entries }) p is
found roster entries p bytes content is all at holds =
    (record { bytes = bytes.items; content = content }, stored entries p (bytes, content) at, holds, content_at entries p (bytes, content) roster all at)

-- bytes stand at the place at which their key is found
pub known : (entries : List (Vec ℕ × Content)) (p : ℕ) (bytes : Vec ℕ) → position (λ k. bytes_eq bytes.items k.items) (keys_of entries) ≡ Some p
    → (x : PayloadView) × (slice_get (items_of entries) p ≡ Some x) × (x.bytes ≡ bytes.items)
known entries p bytes at = by (slice_get_cases entries p).1
  where
    key_at : (e : Vec ℕ × Content) → slice_get entries p ≡ Some e → get_or (keys_of entries) p bytes ≡ e.0
    key_at e here = get_or_from_slice_get (keys_of entries) p e.0 bytes (slice_get-map (λ (x : Vec ℕ × Content). x.0) entries p ∙ ap (option_map (λ (x : Vec ℕ × Content). x.0)) here)

    by : ((e : Vec ℕ × Content) × (p < length entries) × (slice_get entries p ≡ Some e) × (get_or entries p e ≡ e)) ⊎ ((length entries ≤ p) × (slice_get entries p ≡ None))
        → (x : PayloadView) × (slice_get (items_of entries) p ≡ Some x) × (x.bytes ≡ bytes.items)
    by (inl h) =
        let there = position-Some (λ (k : Vec ℕ). bytes_eq bytes.items k.items) (keys_of entries) p bytes at in
        let same = subst (λ (k : Vec ℕ). bytes_eq bytes.items k.items ≡ true) (key_at h.0 h.2) there.1 in
        (payload_in h.0, stored entries p h.0 h.2, sym ((bytes_eq-Decides bytes.items h.0.0.items).0 same))
    by (inr h) =
        let there = position-Some (λ (k : Vec ℕ). bytes_eq bytes.items k.items) (keys_of entries) p bytes at in
        absurd (omega (arith, there.0, h.0, length-keys_of entries))

abbrev payloads_of : RosterView → List PayloadView → PayloadsView
payloads_of roster items = record { roster = roster; items = items }

absent : (entries : List (Vec ℕ × Content)) (bytes : Vec ℕ) → AllByRecursion (λ e. bytes_eq bytes.items e.0.items ≡ false) entries
    → (k : ℕ) → k < length (map (λ x. x.bytes) (items_of entries)) → slice_index_or (map (λ x. x.bytes) (items_of entries)) k bytes.items ≡ bytes.items → ⊥
absent [] bytes all k within is = omega (arith, within)
absent (e ∷ entries) bytes all zero within is = true≢false (sym ((bytes_eq-Decides bytes.items e.0.items).1 (sym is)) ∙ all.0)
absent (e ∷ entries) bytes all (suc k) within is = absent entries bytes all.1 k (omega (arith, within)) is

-- bytes whose key isn't found were not put
pub unknown : (entries : List (Vec ℕ × Content)) (bytes : Vec ℕ) → position (λ k. bytes_eq bytes.items k.items) (keys_of entries) ≡ None
    → ¬ Contains (map (λ x. x.bytes) (items_of entries)) bytes.items
unknown entries bytes none (k, within, is) =
    absent entries bytes
    (none_passes_from_lookup (λ (x : Vec ℕ). bytes_eq bytes.items x.items) entries (Missing-position (λ (x : Vec ℕ). bytes_eq bytes.items x.items) entries none).value)
    k within is

-- a payload more
pub added : (roster : RosterView) (entries : List (Vec ℕ × Content)) (bytes : Vec ℕ) (content : Content)
    → AreKept roster entries → IsContent roster bytes.items content → AreKept roster (entries ++ (bytes, content) ∷ [])
added roster entries bytes content all is = All-push (λ (e : Vec ℕ × Content). IsContent roster e.0.items e.1) entries (bytes, content) all is

-- what is inserted at a key that isn't there stands last
pub appended : (old new : List (Vec ℕ × Content)) (bytes : Vec ℕ) (content : Content)
    → new ≡ insert_entry (λ x y. bytes_eq x.items y.items) old bytes content → position (λ k. bytes_eq bytes.items k.items) (keys_of old) ≡ None
    → new ≡ old ++ (bytes, content) ∷ []
appended old new bytes content is none =
    is ∙ insert_entry-absent (λ (x : Vec ℕ) (y : Vec ℕ). bytes_eq x.items y.items) bytes content old (Missing-position (λ (x : Vec ℕ). bytes_eq bytes.items x.items) old none).absent

-- bytes that were not put, and what they open to, stand last
pub put : (roster : RosterView) (old new : List (Vec ℕ × Content)) (bytes : Vec ℕ) (content : Content) (number : ℕ) → new ≡ old ++ (bytes, content) ∷ []
    → position (λ k. bytes_eq bytes.items k.items) (keys_of old) ≡ None → IsContent roster bytes.items content → number ≡ length old
    → IsNumberedBy (record { roster = roster; items = items_of old }) bytes.items (record { roster = roster; items = items_of new }) number true
put roster old new bytes content number is none opens counted = (
  unknown old bytes none,
  counted ∙ sym (length-map old payload_in),
  record { bytes = bytes.items; content = content },
  refl,
  opens,
  ap (payloads_of roster) (ap items_of is ∙ map-append payload_in old ((bytes, content) ∷ [])),
)
