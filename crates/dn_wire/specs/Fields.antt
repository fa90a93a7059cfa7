-- Reading one field: its value and the cursor behind it, or why it could not be read.
use Rattle.std.specs.Prelude.{◌≡◌, ℕ, List, length, take, Result, Ok, Err, nat_lt, slice_index, if◌then◌else◌}
use Rattle.std.specs.Int.{Width, w32, byte_len, from_be_bytes}
use Rattle.dn_wire.specs.Cursor.{Cursor, past}
use Rattle.dn_wire.specs.declared.reader.FieldFault.{FieldFault}
use Rattle.dn_wire.specs.declared.reader.FieldFault.TheVariants.{Cut, Over}

-- the next n bytes
abbrev pub bytes_at : ℕ → Cursor → Result (List ℕ × Cursor) FieldFault
bytes_at n c = if nat_lt (length c.rest) n then Err (Cut c.at) else Ok (take n c.rest, past c n)

-- the number that the next bytes spell, the high byte first
abbrev pub number_at : Width → Cursor → Result (ℕ × Cursor) FieldFault
number_at w c =
    if nat_lt (length c.rest) (byte_len w) then Err (Cut c.at)
    else Ok (from_be_bytes w (take (byte_len w) c.rest), past c (byte_len w))

-- the next byte
abbrev pub byte_at : Cursor → Result (ℕ × Cursor) FieldFault
byte_at c = if nat_lt (length c.rest) 1 then Err (Cut c.at) else Ok (slice_index c.rest 0, past c 1)

-- a number of four bytes that may not pass a limit
abbrev pub limited_at : ℕ → Cursor → Result (ℕ × Cursor) FieldFault
limited_at limit c =
    if nat_lt (length c.rest) 4 then Err (Cut c.at)
    else if nat_lt limit (from_be_bytes w32 (take 4 c.rest)) then Err (Over c.at limit)
    else Ok (from_be_bytes w32 (take 4 c.rest), past c 4)

-- the next n bytes, as a cursor of their own
abbrev pub inner_at : ℕ → Cursor → Result (Cursor × Cursor) FieldFault
inner_at n c =
    if nat_lt (length c.rest) n then Err (Cut c.at) else Ok (record { at = c.at; rest = take n c.rest }, past c n)

-- What a call answered, seen by view, and where its reader stands behind it, is what reading gives. Nothing moves on a refusal.
abbrev pub Takes : {X Y : Type 0} → (X → Y) → Result X FieldFault → Cursor → Cursor → Result (Y × Cursor) FieldFault → Type 0
Takes view (Ok x) old new read = read ≡ Ok (view x, new)
Takes view (Err f) old new read = (read ≡ Err f) × (new ≡ old)
