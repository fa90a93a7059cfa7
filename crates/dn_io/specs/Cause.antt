-- What is wrong with a line of a script, in words.
use Rattle.std.specs.Prelude.{ℕ, List, ◌++◌, codes}
use Rattle.std.specs.Fmt.{decimal}
use Rattle.dn_io.specs.declared.cause.Cause.{Cause}
use Rattle.dn_io.specs.declared.cause.Cause.TheVariants.{Bytes, Many, Word, Order, Fields, Number, Hex, Range, Honest, Corrupt, Missing}

-- the cause as it is written: its word, and the field where it has one
unfoldable pub cause_text : Cause → List ℕ
cause_text Bytes = codes "bytes"
cause_text Many = codes "many"
cause_text Word = codes "word"
cause_text Order = codes "order"
cause_text Fields = codes "fields"
cause_text (Number field) = codes "number " ++ decimal field
cause_text (Hex field) = codes "hex " ++ decimal field
cause_text (Range field) = codes "range " ++ decimal field
cause_text (Honest field) = codes "honest " ++ decimal field
cause_text (Corrupt field) = codes "corrupt " ++ decimal field
cause_text Missing = codes "missing"
