-- Lists of parts, and parts inside a number of bytes.
use Rattle.std.specs.Prelude.{ℕ, zero, suc, ◌+◌, ◌≤◌, nat_lt, ◌==◌, List, [], ◌∷◌, ◌++◌, length, map, Ok, Err, if◌then◌else◌}
use Rattle.std.specs.Int.{w32}
use Rattle.std.specs.List.{flat_map, AllByRecursion}
use Rattle.dn_wire.specs.Cursor.{Cursor}
use Rattle.dn_wire.specs.declared.limits.TheConstants.{MAX_CLIENTS}
use Rattle.dn_wire.specs.declared.ids.ClientId.{ClientId}
use Rattle.dn_record_types.specs.declared.fault.RecordFault.TheVariants.{Shape, Trailing}
use Rattle.dn_record_types.specs.Part.{Part, Read, ◌>>=◌}
use Rattle.dn_record_types.specs.Fields.{client_field, read_limited, read_inner, spell_number}

-- n values, one after the other; each may set the floor of the next
unfoldable pub read_list : {A : Type 0} → (ℕ → Cursor → Read A) → (A → ℕ) → ℕ → ℕ → Cursor → Read (List A)
read_list item next zero floor c = Ok ([], c)
read_list item next (suc n) floor c =
    item floor c >>= λ first. read_list item next n (next first.0) first.1
    >>= λ others. Ok (first.0 ∷ others.0, others.1)

-- n values of one part
abbrev pub read_items : {A : Type 0} → Part A → ℕ → Cursor → Read (List A)
read_items p n c = read_list (λ _. p.read) (λ _. 0) n 0 c

-- a list behind its number
abbrev pub several : {A : Type 0} → Part ℕ → Part A → Part (List A)
several count p = record {
  spell = λ xs. count.spell (length xs) ++ flat_map p.spell xs;
  read = λ c. count.read c >>= λ n. read_items p n.0 n.1;
  Fits = λ xs. count.Fits (length xs) × AllByRecursion p.Fits xs;
}

-- each client is above the one before it, and the first is at least floor
abbrev pub AscendFrom : ℕ → List ClientId → Type 0
AscendFrom floor [] = Unit {0}
AscendFrom floor (i ∷ ids) = (floor ≤ i.0) × AscendFrom (i.0 + 1) ids

-- strictly ascending clients
abbrev pub Ascend : List ClientId → Type 0
Ascend ids = AscendFrom 0 ids

-- a client that may not be below floor
unfoldable pub read_client : ℕ → Cursor → Read ClientId
read_client floor c = client_field.read c >>= λ i. if nat_lt i.0.0 floor then Err (Shape c.at) else Ok i

-- A kind of value that begins with a client, and is made of it and the rest.
pub record Row (B : Type 0) : Type 1 where
  pub Rest : Type 0
  pub key : B → ClientId
  pub rest : B → Rest
  pub make : ClientId → Rest → B
  pub part : Part Rest

unfoldable pub read_row : {B : Type 0} → Row B → ℕ → Cursor → Read B
read_row w floor c = read_client floor c >>= λ i. w.part.read i.1 >>= λ x. Ok (w.make i.0 x.0, x.1)

unfoldable pub read_rows : {B : Type 0} → Row B → ℕ → Cursor → Read (List B)
read_rows w n c = read_list (read_row w) (λ x. (w.key x).0 + 1) n 0 c

-- its bytes: the client, and the rest
abbrev pub spell_row : {B : Type 0} → Row B → B → List ℕ
spell_row w x = client_field.spell (w.key x) ++ w.part.spell (w.rest x)

-- what is asked of it, but for the order
abbrev pub FitsRow : {B : Type 0} → Row B → B → Type 0
FitsRow w x = client_field.Fits (w.key x) × w.part.Fits (w.rest x)

-- at most as many of them as a group has clients, behind their number, whose clients ascend
abbrev pub rows : {B : Type 0} → Row B → Part (List B)
rows w = record {
  spell = λ xs. spell_number w32 (length xs) ++ flat_map (spell_row w) xs;
  read = λ c. read_limited MAX_CLIENTS c >>= λ n. read_rows w n.0 n.1;
  Fits = λ xs. (length xs ≤ MAX_CLIENTS) × Ascend (map w.key xs) × AllByRecursion (FitsRow w) xs;
}

-- a value inside bytes whose number stands before them: where they are too few, the bytes are cut,
-- and where the value ends before them, bytes are trailing
unfoldable pub read_inside : {A : Type 0} → Part ℕ → Part A → Cursor → Read A
read_inside count p c =
    count.read c >>= λ n. read_inner n.0 n.1 >>= λ inner. p.read inner.0
    >>= λ x. if length x.1.rest == 0 then Ok (x.0, inner.1) else Err (Trailing x.1.at)

abbrev pub inside : {A : Type 0} → Part ℕ → Part A → Part A
inside count p = record {
  spell = λ x. count.spell (length (p.spell x)) ++ p.spell x;
  read = read_inside count p;
  Fits = λ x. count.Fits (length (p.spell x)) × p.Fits x;
}
