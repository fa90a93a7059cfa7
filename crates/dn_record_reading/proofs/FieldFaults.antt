-- A field's fault is the record's.
use Rattle.std.proofs.Common.{◌≡◌, Result, Err, refl, subst, sym}
use Rattle.dn_wire.specs.Cursor.{Cursor}
use Rattle.dn_wire.specs.declared.reader.FieldFault.{FieldFault}
use Rattle.dn_wire.specs.declared.reader.FieldFault.TheVariants as fields
use Rattle.dn_record_types.specs.declared.fault.RecordFault.{RecordFault}
use Rattle.dn_record_types.specs.Part.{field, fault_of, Fails}

refuses : (A : Type 0) (f : FieldFault) → Fails {A = A × Cursor} (fault_of f) (Err (fault_of f))
refuses A (fields.Cut at) = refl
refuses A (fields.Over at limit) = refl

pub field_fails : {A : Type 0} (f : FieldFault) (e : RecordFault) (r : Result (A × Cursor) FieldFault) → r ≡ Err f → e ≡ fault_of f → Fails e (field r)
field_fails {A} f e r refused is = subst (λ (d : RecordFault). Fails d (field r)) (sym is) (subst (λ (s : Result (A × Cursor) FieldFault). Fails (fault_of f) (field s)) (sym refused) (refuses A f))
