-- Trimmed lists: one more inventory, that there is one, and what they give to each server.
use Rattle.std.proofs.Common.{◌≡◌, ℕ, zero, suc, ◌<◌, ◌⊎◌, inl, inr, List, [], ◌∷◌, ◌++◌, map, length, refl, ap, sym, subst, ◌∙◌, arith}
use Rattle.std.specs.Prelude.{Option, Some, None, slice_get}
use Rattle.std.specs.List.{All, Contains}
use Rattle.std.proofs.lemmas.Bool.{cases_order}
use Rattle.std.proofs.lemmas.Option.{slice_get_within, get_or_from_slice_get}
use Rattle.std.proofs.lemmas.List.Elements.{All-contains}
use Rattle.dn_wire.specs.declared.ids.ClientId.{ClientId}
use Rattle.dn_wire.specs.declared.ids.ServerId.{ServerId}
use Rattle.dn_records.specs.Lists.{Ascend}
use Rattle.dn_record_types.specs.declared.inventory.Entry.{Entry}
use Rattle.dn_record_types.specs.declared.inventory.Inventory.{Inventory}
use Rattle.dn_record_types.specs.declared.body.Listed.{Listed}
use Rattle.dn_cert.specs.Trim.{IsInventory, HasEntry, IsNamed, IsOfLeast, IsTrim}
use Rattle.dn_cert.proofs.Orders.{All-from_contains, one_each, same_members}
use Rattle.dn_cert.proofs.Merging.{row_of, merged, merged-ascends, IsRow, merged-only, merged-keeps, merged-names}

ascends : (v : Inventory) → IsInventory v → Ascend (map (λ e. e.client) v.entries)
ascends v h = h.1.1.1

-- ---- places in a list that got one more

place_kept : {A : Type 0} (xs ys : List A) (i : ℕ) (x : A) → slice_get xs i ≡ Some x → slice_get (xs ++ ys) i ≡ Some x
place_kept [] ys i x h = absurd cc
place_kept (y ∷ xs) ys zero x h = h
place_kept (y ∷ xs) ys (suc i) x h = place_kept xs ys i x h

last_place : {A : Type 0} (xs : List A) (y : A) → slice_get (xs ++ y ∷ []) (length xs) ≡ Some y
last_place [] y = refl
last_place (x ∷ xs) y = last_place xs y

place_cases : {A : Type 0} (xs : List A) (y : A) (i : ℕ) (x : A) → slice_get (xs ++ y ∷ []) i ≡ Some x → (slice_get xs i ≡ Some x) ⊎ ((i ≡ length xs) × (y ≡ x))
place_cases [] y zero x h = inr (refl, cc)
place_cases [] y (suc i) x h = absurd cc
place_cases (z ∷ xs) y zero x h = inl h
place_cases (z ∷ xs) y (suc i) x h =
    elim (place_cases xs y i x h) [ inl old ↦ inl old | inr new ↦ inr (ap suc new.0, new.1) ]

-- ---- one more inventory

module _ (inventories : List Inventory) (v : Inventory) (listed : List Listed) (t : IsTrim inventories listed) where
  named_still : (i : ClientId) → IsNamed (inventories ++ v ∷ []) i → (l : Listed) × Contains (merged (length inventories) listed v.entries) l × (l.client ≡ i)
  named_still i (j, w, at, names) =
      elim (place_cases inventories v j w at) [
        | inl old ↦
            let had = t.named i (j, w, old, names) in
            (had.0, merged-keeps (length inventories) listed v.entries had.0 had.1, had.2)
        | inr new ↦
            let there = subst (λ (u : Inventory). Contains u.entries names.1.0) (sym new.1) names.1.1 in
            let row = merged-names (length inventories) listed v.entries names.1.0 there in
            (row.0, row.1, row.2 ∙ names.1.2)
      ]

  least_still : (x : Listed) → IsOfLeast inventories x → IsOfLeast (inventories ++ v ∷ []) x
  least_still x o = record {
    inventory = o.inventory;
    there = place_kept inventories (v ∷ []) x.server.0 o.inventory o.there;
    entry = o.entry;
    least = λ j lt w at. elim (place_cases inventories v j w at) [
      | inl old ↦ o.least j lt w old
      | inr new ↦ absurd (omega (arith, new.0, slice_get_within inventories x.server.0 o.inventory o.there))
    ];
  }

  least_of_row : (x : Listed) → IsRow (length inventories) listed v.entries x → IsOfLeast (inventories ++ v ∷ []) x
  least_of_row x r =
      let of_row : IsOfLeast (inventories ++ v ∷ []) (row_of (length inventories) r.entry) = record {
        inventory = v;
        there = last_place inventories v;
        entry = (r.entry, r.there, refl, refl);
        least = λ j lt w at names. elim (place_cases inventories v j w at) [
          | inl old ↦ let had = t.named r.entry.client (j, w, old, names) in r.new had.0 had.1 had.2
          | inr new ↦ omega (arith, new.0, lt)
        ];
      } in
      subst (λ (y : Listed). IsOfLeast (inventories ++ v ∷ []) y) (sym r.is) of_row

  pub with_inventory_trims : IsInventory v → IsTrim (inventories ++ v ∷ []) (merged (length inventories) listed v.entries)
  with_inventory_trims keeps = record {
    ascends = merged-ascends (length inventories) 0 listed v.entries t.ascends (ascends v keeps);
    named = named_still;
    least = All-from_contains (IsOfLeast (inventories ++ v ∷ [])) (merged (length inventories) listed v.entries) (λ x has.
        elim (merged-only (length inventories) listed 0 0 v.entries x t.ascends (ascends v keeps) has) [
          | inl old ↦ least_still x (All-contains (IsOfLeast inventories) listed x t.least old)
          | inr row ↦ least_of_row x row
        ]);
  }

pub no_inventory_trims : IsTrim [] []
no_inventory_trims = record { ascends = tt; named = λ i h. absurd (none_at h.0 h.1 h.2); least = λ k d lt. absurd (omega arith) }
  where
    none_at : (j : ℕ) (w : Inventory) → ◌≡◌ {A = Option Inventory} None (Some w) → ⊥
    none_at j w e = cc

-- ---- one trimmed list

contains_place : {A : Type 0} (xs : List A) (i : ℕ) (x : A) → slice_get xs i ≡ Some x → Contains xs x
contains_place xs i x h = (i, slice_get_within xs i x h, get_or_from_slice_get xs i x x h)

same_row : (x y : Listed) → x.client ≡ y.client → x.server ≡ y.server → x.digest ≡ y.digest → x ≡ y
same_row x y c s d =
    let by_client : x ≡ record x { client = y.client } = ap (λ (i : ClientId). record x { client = i }) c in
    let by_server : record x { client = y.client } ≡ record x { client = y.client; server = y.server } = ap (λ (j : ServerId). record x { client = y.client; server = j }) s in
    let by_digest : record x { client = y.client; server = y.server } ≡ y = ap (λ (b : List ℕ). record y { digest = b }) d in
    by_client ∙ by_server ∙ by_digest

same_server : (j k : ServerId) → j.0 ≡ k.0 → j ≡ k
same_server j k h = let server : ℕ → ServerId = λ n. record { 0 = n } in ap server h

module _ (inventories : List Inventory) (keep : All IsInventory inventories) where
  -- no lower server names the client of the other
  not_lower : (x y : Listed) → IsOfLeast inventories x → IsOfLeast inventories y → x.client ≡ y.client → x.server.0 < y.server.0 → ⊥
  not_lower x y ox oy same lt =
      oy.least x.server.0 lt ox.inventory ox.there (x.digest, (ox.entry.0, ox.entry.1, ox.entry.2 ∙ same, ox.entry.3))

  same_digest : (v : Inventory) (i k : ClientId) (b d : List ℕ) → IsInventory v → HasEntry v i b → HasEntry v k d → i ≡ k → b ≡ d
  same_digest v i k b d keeps hb hd same =
      let one = one_each (λ (e : Entry). e.client) 0 v.entries hb.0 hd.0 (ascends v keeps) hb.1 hd.1 (hb.2 ∙ same ∙ sym hd.2) in
      sym hb.3 ∙ ap (λ (e : Entry). e.digest) one ∙ hd.3

  one_row : (x y : Listed) → IsOfLeast inventories x → IsOfLeast inventories y → x.client ≡ y.client → x ≡ y
  one_row x y ox oy same =
      elim (cases_order x.server.0 y.server.0) [
        | inl eq ↦
            let at : slice_get inventories x.server.0 ≡ Some oy.inventory = ap (slice_get inventories) eq ∙ oy.there in
            let both : ◌≡◌ {A = Option Inventory} (Some ox.inventory) (Some oy.inventory) = sym ox.there ∙ at in
            let one : ox.inventory ≡ oy.inventory = cc in
            let entry : HasEntry ox.inventory y.client y.digest = subst (λ (v : Inventory). HasEntry v y.client y.digest) (sym one) oy.entry in
            let keeps : IsInventory ox.inventory = All-contains IsInventory inventories ox.inventory keep (contains_place inventories x.server.0 ox.inventory ox.there) in
            same_row x y same (same_server x.server y.server eq) (same_digest ox.inventory x.client y.client x.digest y.digest keeps ox.entry entry same)
        | inr other ↦ elim other [
          | inl lt ↦ absurd (not_lower x y ox oy same lt)
          | inr gt ↦ absurd (not_lower y x oy ox (sym same) gt)
        ]
      ]

  in_other : (listed other : List Listed) → IsTrim inventories listed → IsTrim inventories other → (x : Listed) → Contains listed x → Contains other x
  in_other listed other t u x h =
      let ox = All-contains (IsOfLeast inventories) listed x t.least h in
      let found = u.named x.client (x.server.0, ox.inventory, ox.there, (x.digest, ox.entry)) in
      let oy = All-contains (IsOfLeast inventories) other found.0 u.least found.1 in
      subst (λ (y : Listed). Contains other y) (one_row found.0 x oy ox found.2) found.1

  pub trims_are_one_lem : (listed other : List Listed) → IsTrim inventories listed → IsTrim inventories other → listed ≡ other
  trims_are_one_lem listed other t u =
      same_members (λ (l : Listed). l.client) 0 0 listed other t.ascends u.ascends (in_other listed other t u) (in_other other listed u t)
