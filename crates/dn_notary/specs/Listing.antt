-- What a call that reads a list of entries or a line of it answers.
use Rattle.std.specs.Prelude.{◌≡◌, ℕ, List, Result, Ok, Err}
use Rattle.dn_notary.specs.declared.entries.ListFault.{ListFault}
use Rattle.dn_notary.specs.declared.entries.ListFault.TheVariants.{BadLine, NoMemory}
use Rattle.dn_notary.specs.Entries.{Read}

-- reading ends with this fault, unless memory ran out
abbrev pub IsRefused : ListFault → Read → Type 0
IsRefused (BadLine n cause) read = read ≡ Err (n, cause)
IsRefused NoMemory read = Unit {0}

-- the entries are what reading gives
abbrev pub GivesEntries : {T : Type 0} → (T → List (List ℕ)) → Result T ListFault → Read → Type 0
GivesEntries items (Ok entries) read = read ≡ Ok (items entries)
GivesEntries items (Err fault) read = IsRefused fault read

-- reading goes on with what is left, or ends with the fault
abbrev pub GoesOn : Result (Unit {0}) ListFault → Read → Read → Type 0
GoesOn (Ok x) read left = read ≡ left
GoesOn (Err fault) read left = IsRefused fault read
