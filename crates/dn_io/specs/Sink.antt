-- What a put does to the bytes that a sink holds, and to the count of its faults.
use Rattle.std.specs.Prelude.{ℕ, ◌<◌, ◌≤◌, List, length, take, Result, Ok, Err, IfOk}
use Rattle.std.specs.declared.option.Option.{Option}
use Rattle.std.specs.Io.KnownBytes.{Appends}
use Rattle.dn_io.specs.declared.sink.SinkEnd.{SinkEnd}
use Rattle.dn_io.specs.declared.sink.SinkEnd.TheVariants.{Failed, NoMemory}
use Rattle.dn_io.specs.Faults.{Rose}

-- known bytes grew by a front of bs
abbrev pub AppendsFront : Option (List ℕ) → Option (List ℕ) → List ℕ → Type 0
AppendsFront old new bs = (n : ℕ) × Appends old new (take n bs)

-- the bytes that a sink holds grew by what the put answered, or by some front where it failed
abbrev pub PutAppends : Option (List ℕ) → Option (List ℕ) → Result ℕ SinkEnd → List ℕ → Type 0
PutAppends old new (Ok n) buf = Appends old new (take n buf)
PutAppends old new (Err e) buf = AppendsFront old new buf

-- a put takes at most all of a piece, and some of it where there is any
abbrev pub PutsSome : Result ℕ SinkEnd → List ℕ → Type 0
PutsSome result buf = IfOk result (λ n. (n ≤ length buf) × (0 < length buf → 0 < n))

-- the count of a sink never falls, and rises where a put failed
abbrev pub CountsPut : ℕ → ℕ → Result ℕ SinkEnd → Type 0
CountsPut before now (Ok n) = before ≤ now
CountsPut before now (Err Failed) = (before ≤ now) × Rose before now
CountsPut before now (Err NoMemory) = before ≤ now
