-- Two lists in order of clients, joined into one.
use Rattle.std.proofs.Common.{◌≡◌, ℕ, ◌+◌, ◌<◌, ◌≤◌, ◌⊎◌, inl, inr, cond, eqb, ltb, List, [], ◌∷◌, ◌++◌, map, length, drop, ap, sym, subst, ◌∙◌, arith}
use Rattle.std.specs.List.{Contains}
use Rattle.std.proofs.lemmas.Bool.{cond_both, ltb-true, ltb-false, eqb-true, eqb-false}
use Rattle.std.proofs.lemmas.List.{append-nil, drop_all}
use Rattle.dn_wire.specs.declared.ids.ClientId.{ClientId}
use Rattle.dn_records.specs.Lists.{AscendFrom}
use Rattle.dn_record_types.specs.declared.inventory.Entry.{Entry}
use Rattle.dn_record_types.specs.declared.body.Listed.{Listed}
use Rattle.dn_cert.proofs.Orders.{here, later, first_or_later, nothing, same_client, above_floor}

abbrev pub row_of : ℕ → Entry → Listed
row_of j e = record { client = e.client; server = record { 0 = j }; digest = e.digest }

-- the entries without that of a client, where it is the first
abbrev pub skipped : ClientId → List Entry → List Entry
skipped i [] = []
skipped i (e ∷ es) = cond (eqb e.client.0 i.0) es (e ∷ es)

-- the entries before a row, the row, and what the rest makes of the entries behind it
abbrev pub merged_at : ℕ → Listed → (List Entry → List Listed) → List Entry → List Listed
merged_at j l rest [] = l ∷ rest []
merged_at j l rest (e ∷ es) = cond (ltb e.client.0 l.client.0) (row_of j e ∷ merged_at j l rest es) (l ∷ rest (skipped l.client (e ∷ es)))

-- the rows and the entries of server j in order of clients; a client that has a row keeps it
abbrev pub merged : ℕ → List Listed → List Entry → List Listed
merged j [] es = map (row_of j) es
merged j (l ∷ ls) es = merged_at j l (λ rest. merged j ls rest) es

-- the client comes before the first entry, or is its client
abbrev IsAhead : ClientId → List Entry → Type 0
IsAhead i [] = Unit {0}
IsAhead i (e ∷ es) = i.0 ≤ e.client.0

-- ---- order

-- the clients of rows, and of entries
abbrev clients : List Listed → List ClientId
clients ls = map (λ l. l.client) ls

abbrev entered : List Entry → List ClientId
entered es = map (λ e. e.client) es

rows-ascend : (j floor : ℕ) (es : List Entry) → AscendFrom floor (entered es) → AscendFrom floor (clients (map (row_of j) es))
rows-ascend j floor [] up = tt
rows-ascend j floor (e ∷ es) up = (up.0, rows-ascend j (e.client.0 + 1) es up.1)

skipped-ascends : (i : ClientId) (floor : ℕ) (e : Entry) (es : List Entry) → i.0 ≤ e.client.0 → AscendFrom floor (entered (e ∷ es)) → AscendFrom (i.0 + 1) (entered (skipped i (e ∷ es)))
skipped-ascends i floor e es le up =
    cond_both (eqb e.client.0 i.0) es (e ∷ es) (λ xs. AscendFrom (i.0 + 1) (entered xs))
    (λ t. subst (λ (n : ℕ). AscendFrom (n + 1) (entered es)) (eqb-true e.client.0 i.0 t) up.1)
    (λ f. let apart = eqb-false e.client.0 i.0 f in (omega arith, up.1))

module _ (j : ℕ) (l : Listed) (rest : List Entry → List Listed) where
  merged_at-ascends : ((es : List Entry) → AscendFrom (l.client.0 + 1) (entered es) → AscendFrom (l.client.0 + 1) (clients (rest es)))
      → (floor : ℕ) (es : List Entry) → floor ≤ l.client.0 → AscendFrom floor (entered es) → AscendFrom floor (clients (merged_at j l rest es))
  merged_at-ascends behind floor [] le up = (le, behind [] tt)
  merged_at-ascends behind floor (e ∷ es) le up =
      cond_both (ltb e.client.0 l.client.0) (row_of j e ∷ merged_at j l rest es) (l ∷ rest (skipped l.client (e ∷ es))) (λ xs. AscendFrom floor (clients xs))
      (λ t. (up.0, merged_at-ascends behind (e.client.0 + 1) es (let lt = ltb-true e.client.0 l.client.0 t in omega arith) up.1))
      (λ f. (le, behind (skipped l.client (e ∷ es)) (skipped-ascends l.client floor e es (ltb-false e.client.0 l.client.0 f) up)))

pub merged-ascends : (j floor : ℕ) (ls : List Listed) (es : List Entry) → AscendFrom floor (clients ls) → AscendFrom floor (entered es) → AscendFrom floor (clients (merged j ls es))
merged-ascends j floor [] es ul ue = rows-ascend j floor es ue
merged-ascends j floor (l ∷ ls) es ul ue =
    merged_at-ascends j l (λ rest. merged j ls rest) (λ rest up. merged-ascends j (l.client.0 + 1) ls rest ul.1 up) floor es ul.0 ue

-- ---- what it contains

-- the row of an entry whose client has no row yet
pub record IsRow (j : ℕ) (ls : List Listed) (es : List Entry) (x : Listed) : Type 0 where
  pub entry : Entry
  pub there : Contains es entry
  pub is : x ≡ row_of j entry
  pub new : (l : Listed) → Contains ls l → l.client ≡ entry.client → ⊥

rows_only : (j : ℕ) (es : List Entry) (x : Listed) → Contains (map (row_of j) es) x → IsRow j [] es x
rows_only j [] x h = absurd (nothing x h)
rows_only j (e ∷ es) x h =
    elim (first_or_later (row_of j e) (map (row_of j) es) x h) [
      | inl first ↦ record { entry = e; there = here e es; is = sym first; new = λ l none _. nothing l none }
      | inr behind ↦ let r = rows_only j es x behind in record { entry = r.entry; there = later e es r.entry r.there; is = r.is; new = r.new }
    ]

skipped-contains : (i : ClientId) (es : List Entry) (x : Entry) → Contains (skipped i es) x → Contains es x
skipped-contains i [] x h = h
skipped-contains i (e ∷ es) x h =
    cond_both (eqb e.client.0 i.0) es (e ∷ es) (λ xs. Contains xs x → Contains (e ∷ es) x) (λ _ behind. later e es x behind) (λ _ all. all) h

-- none that is left has the client
skipped-past : (i : ClientId) (floor : ℕ) (es : List Entry) (x : Entry) → IsAhead i es → AscendFrom floor (entered es) → Contains (skipped i es) x → i.0 < x.client.0
skipped-past i floor [] x le up h = absurd (nothing x h)
skipped-past i floor (e ∷ es) x le up h =
    let past = above_floor (λ (y : Entry). y.client) (i.0 + 1) (skipped i (e ∷ es)) x (skipped-ascends i floor e es le up) h in
    omega (arith, past)

module _ (j : ℕ) (l : Listed) (ls : List Listed) (rest : List Entry → List Listed) where
  merged_at-only : ((floor : ℕ) (es : List Entry) (x : Listed) → AscendFrom floor (entered es) → Contains (rest es) x → Contains ls x ⊎ IsRow j ls es x)
      → AscendFrom (l.client.0 + 1) (clients ls) → (floor : ℕ) (es : List Entry) (x : Listed) → AscendFrom floor (entered es)
      → Contains (merged_at j l rest es) x → Contains (l ∷ ls) x ⊎ IsRow j (l ∷ ls) es x
  merged_at-only behind ul floor [] x ue h =
      elim (first_or_later l (rest []) x h) [
        | inl first ↦ inl (subst (λ (y : Listed). Contains (l ∷ ls) y) first (here l ls))
        | inr past ↦ elim (behind floor [] x ue past) [
          | inl old ↦ inl (later l ls x old)
          | inr r ↦ absurd (nothing r.entry r.there)
        ]
      ]
  merged_at-only behind ul floor (e ∷ es) x ue h =
      cond_both (ltb e.client.0 l.client.0) (row_of j e ∷ merged_at j l rest es) (l ∷ rest (skipped l.client (e ∷ es)))
      (λ xs. Contains xs x → Contains (l ∷ ls) x ⊎ IsRow j (l ∷ ls) (e ∷ es) x)
      (λ t entry_first. elim (first_or_later (row_of j e) (merged_at j l rest es) x entry_first) [
        | inl first ↦ inr record {
          entry = e;
          there = here e es;
          is = sym first;
          new = λ old has same.
              let past = above_floor (λ (y : Listed). y.client) l.client.0 (l ∷ ls) old (omega arith, ul) has in
              let one : old.client.0 ≡ e.client.0 = ap (λ (i : ClientId). i.0) same in
              let lt = ltb-true e.client.0 l.client.0 t in
              omega (arith, past, one, lt);
        }
        | inr past ↦ elim (merged_at-only behind ul (e.client.0 + 1) es x ue.1 past) [
          | inl old ↦ inl old
          | inr r ↦ inr record { entry = r.entry; there = later e es r.entry r.there; is = r.is; new = r.new }
        ]
      ])
      (λ f row_first. elim (first_or_later l (rest (skipped l.client (e ∷ es))) x row_first) [
        | inl first ↦ inl (subst (λ (y : Listed). Contains (l ∷ ls) y) first (here l ls))
        | inr past ↦ elim (behind (l.client.0 + 1) (skipped l.client (e ∷ es)) x (skipped-ascends l.client floor e es (ltb-false e.client.0 l.client.0 f) ue) past) [
          | inl old ↦ inl (later l ls x old)
          | inr r ↦ inr record {
            entry = r.entry;
            there = skipped-contains l.client (e ∷ es) r.entry r.there;
            is = r.is;
            new = λ old has same. elim (first_or_later l ls old has) [
              | inl first ↦
                  let beyond = skipped-past l.client floor (e ∷ es) r.entry (ltb-false e.client.0 l.client.0 f) ue r.there in
                  let one : l.client.0 ≡ r.entry.client.0 = ap (λ (y : Listed). y.client.0) first ∙ ap (λ (i : ClientId). i.0) same in
                  omega (arith, beyond, one)
              | inr had ↦ r.new old had same
            ];
          }
        ]
      ])
      h

-- a row of it is a row of before, or that of an entry whose client had none
pub merged-only : (j : ℕ) (ls : List Listed) (floor low : ℕ) (es : List Entry) (x : Listed) → AscendFrom floor (clients ls) → AscendFrom low (entered es)
    → Contains (merged j ls es) x → Contains ls x ⊎ IsRow j ls es x
merged-only j [] floor low es x ul ue h = inr (rows_only j es x h)
merged-only j (l ∷ ls) floor low es x ul ue h =
    merged_at-only j l ls (λ rest. merged j ls rest) (λ f rest y up has. merged-only j ls (l.client.0 + 1) f rest y ul.1 up has) ul.1 low es x ue h

module _ (j : ℕ) (l : Listed) (ls : List Listed) (rest : List Entry → List Listed) where
  merged_at-keeps : ((es : List Entry) (x : Listed) → Contains ls x → Contains (rest es) x)
      → (es : List Entry) (x : Listed) → Contains (l ∷ ls) x → Contains (merged_at j l rest es) x
  merged_at-keeps behind [] x h =
      elim (first_or_later l ls x h) [
        | inl first ↦ subst (λ (y : Listed). Contains (l ∷ rest []) y) first (here l (rest []))
        | inr old ↦ later l (rest []) x (behind [] x old)
      ]
  merged_at-keeps behind (e ∷ es) x h =
      let left = skipped l.client (e ∷ es) in
      cond_both (ltb e.client.0 l.client.0) (row_of j e ∷ merged_at j l rest es) (l ∷ rest left) (λ xs. Contains xs x)
      (λ _. later (row_of j e) (merged_at j l rest es) x (merged_at-keeps behind es x h))
      (λ _. elim (first_or_later l ls x h) [
        | inl first ↦ subst (λ (y : Listed). Contains (l ∷ rest left) y) first (here l (rest left))
        | inr old ↦ later l (rest left) x (behind left x old)
      ])

-- each row of before is kept
pub merged-keeps : (j : ℕ) (ls : List Listed) (es : List Entry) (x : Listed) → Contains ls x → Contains (merged j ls es) x
merged-keeps j [] es x h = absurd (nothing x h)
merged-keeps j (l ∷ ls) es x h = merged_at-keeps j l ls (λ rest. merged j ls rest) (λ rest y has. merged-keeps j ls rest y has) es x h

-- a row of this client
abbrev pub HasRow : List Listed → ClientId → Type 0
HasRow ls i = (x : Listed) × Contains ls x × (x.client ≡ i)

row-later : (y : Listed) (ls : List Listed) (i : ClientId) → HasRow ls i → HasRow (y ∷ ls) i
row-later y ls i h = (h.0, later y ls h.0 h.1, h.2)

rows-name : (j : ℕ) (es : List Entry) (e : Entry) → Contains es e → HasRow (map (row_of j) es) e.client
rows-name j [] e h = absurd (nothing e h)
rows-name j (d ∷ es) e h =
    elim (first_or_later d es e h) [
      | inl first ↦ (row_of j d, here (row_of j d) (map (row_of j) es), ap (λ (y : Entry). y.client) first)
      | inr behind ↦ row-later (row_of j d) (map (row_of j) es) e.client (rows-name j es e behind)
    ]

module _ (j : ℕ) (l : Listed) (rest : List Entry → List Listed) where
  merged_at-names : ((es : List Entry) (e : Entry) → Contains es e → HasRow (rest es) e.client)
      → (es : List Entry) (e : Entry) → Contains es e → HasRow (merged_at j l rest es) e.client
  merged_at-names behind [] e h = absurd (nothing e h)
  merged_at-names behind (d ∷ es) e h =
      let entry_first : HasRow (row_of j d ∷ merged_at j l rest es) e.client =
      elim (first_or_later d es e h) [
        | inl first ↦ (row_of j d, here (row_of j d) (merged_at j l rest es), ap (λ (y : Entry). y.client) first)
        | inr past ↦ row-later (row_of j d) (merged_at j l rest es) e.client (merged_at-names behind es e past)
      ] in
      let row_first : HasRow (l ∷ rest (skipped l.client (d ∷ es))) e.client =
      cond_both (eqb d.client.0 l.client.0) es (d ∷ es) (λ xs. HasRow (l ∷ rest xs) e.client)
      (λ t. elim (first_or_later d es e h) [
        | inl first ↦ (l, here l (rest es), sym (same_client d.client l.client (eqb-true d.client.0 l.client.0 t)) ∙ ap (λ (y : Entry). y.client) first)
        | inr past ↦ row-later l (rest es) e.client (behind es e past)
      ])
      (λ _. row-later l (rest (d ∷ es)) e.client (behind (d ∷ es) e h)) in
      cond_both (ltb d.client.0 l.client.0) (row_of j d ∷ merged_at j l rest es) (l ∷ rest (skipped l.client (d ∷ es))) (λ xs. HasRow xs e.client)
      (λ _. entry_first) (λ _. row_first)

-- the client of each entry has a row
pub merged-names : (j : ℕ) (ls : List Listed) (es : List Entry) (e : Entry) → Contains es e → HasRow (merged j ls es) e.client
merged-names j [] es e h = rows-name j es e h
merged-names j (l ∷ ls) es e h = merged_at-names j l (λ rest. merged j ls rest) (λ rest d has. merged-names j ls rest d has) es e h

-- what the loop has made, when both lists are at their end
pub merged_whole : (j : ℕ) (ls : List Listed) (es : List Entry) (i k : ℕ) (all : List Listed) → length ls ≤ i → length es ≤ k
    → all ++ merged j (drop i ls) (drop k es) ≡ merged j ls es → all ≡ merged j ls es
merged_whole j ls es i k all hi hk e =
    let same : all ++ [] ≡ merged j ls es = rw (drop_all i ls hi, drop_all k es hk) at e in
    sym (append-nil all) ∙ same
