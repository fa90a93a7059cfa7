-- What loops that read and write keep.
use Rattle.std.proofs.Common.{◌≡◌, ◌<◌, ◌≤◌, ◌+◌, ◌-◌, ℕ, List, take, drop, ◌++◌, length, arith, sym, subst, Err, length-append}
use Rattle.std.specs.declared.option.Option.{Option}
use Rattle.std.specs.Io.KnownBytes.{Appends, Consumes}
use Rattle.std.proofs.Math.Seq.{take-add}
use Rattle.std.proofs.lemmas.List.{take_rest}
use Rattle.std.proofs.KnownBytes.{Appends-trans, Consumes-trans, Consumes-kept}
use Rattle.dn_io.specs.declared.reading.ReadEnd.{ReadEnd}
use Rattle.dn_io.specs.declared.reading.ReadEnd.TheVariants.{ReadFault, TooLong, NoMemory}
use Rattle.dn_io.specs.Reading.{ReadsPiece, ReadsWhole}

-- what a loop that reads has come to
pub record HasRead (old new : Option (List ℕ)) (before now limit : ℕ) (bytes : List ℕ) : Type 0 where
  pub within : length bytes ≤ limit + 1
  pub taken : Consumes old new bytes
  pub later : before ≤ now

-- what a loop that writes has come to
pub record HasWritten (old new : Option (List ℕ)) (before now at : ℕ) (bytes : List ℕ) : Type 0 where
  pub within : at ≤ length bytes
  pub put : Appends old new (take at bytes)
  pub later : before ≤ now

pub front_more : (a b c : Option (List ℕ)) (at k : ℕ) (bytes : List ℕ) → Appends a b (take at bytes)
    → Appends b c (take k (take (length bytes - at) (drop at bytes))) → Appends a c (take (at + k) bytes)
front_more a b c at k bytes first second =
    let rest : take (length bytes - at) (drop at bytes) ≡ drop at bytes = take_rest bytes at in
    subst (Appends a c) (sym (take-add at k bytes))
    (Appends-trans a b c (take at bytes) (take k (drop at bytes)) first (subst (λ l. Appends b c (take k l)) rest second))

pub read_err : {T : Type 0} (items : T → List ℕ) (old mid new : Option (List ℕ)) (before now limit room : ℕ) (bytes after : List ℕ) (e : ReadEnd)
    → HasRead old mid before now limit bytes → length bytes + room ≤ limit + 1 → 0 < room → ReadsPiece mid new room (Err e) bytes after
    → ReadsWhole items old new limit (Err e)
read_err items old mid new before now limit room bytes after ReadFault h fits some kept = (bytes, omega (arith, fits, some), Consumes-kept old mid new bytes h.taken kept)
read_err items old mid new before now limit room bytes after (TooLong n) h fits some never = absurd never
read_err items old mid new before now limit room bytes after NoMemory h fits some p =
    (bytes ++ p.0, omega (arith, length-append bytes p.0, p.1), Consumes-trans old mid new bytes p.0 h.taken p.2)
