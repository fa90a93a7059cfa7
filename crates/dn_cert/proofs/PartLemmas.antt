-- The parts of a certificate's payload, from what reading a payload gives.
use Rattle.std.proofs.Common.{◌≡◌, ℕ, ◌<◌, List, [], ◌∷◌, length, Result, Ok, Err, refl, sym, ap, ◌∙◌, arith, le-ltb, ne_eqb}
use Rattle.std.specs.List.{slice_index}
use Rattle.dn_wire.specs.Cursor.{start, past}
use Rattle.dn_records.specs.Part.{◌>>=◌, whole, Fails}
use Rattle.dn_records.specs.Fields.{read_byte}
use Rattle.dn_records.specs.Records.{certificate, payload_of, read_tag, read_certificate, payload_bytes, IsPayload}
use Rattle.dn_record_types.specs.declared.body.Body.{Body}
use Rattle.dn_record_types.specs.declared.fault.RecordFault.{RecordFault}
use Rattle.dn_record_types.specs.declared.fault.RecordFault.TheVariants as faults
use Rattle.dn_record_types.specs.declared.payload.Payload.{Payload}
use Rattle.dn_record_types.specs.declared.payload.Payload.TheVariants as payloads
use Rattle.dn_record_types.proofs.RecordLaws.{payload_again}
use Rattle.dn_cert.specs.Certificate.{certificate_of}

-- without bytes there is no tag
pub no_tag : (bytes : List ℕ) → length bytes ≡ 0 → certificate_of bytes ≡ Err (faults.Cut 0)
unfolding read_byte
no_tag [] h = refl
no_tag (b ∷ bs) h = absurd (omega arith)

first_byte : (bytes : List ℕ) → 0 < length bytes → read_byte (start bytes) ≡ Ok (slice_index bytes 0, past (start bytes) 1)
unfolding read_byte
first_byte bytes h = rw (le-ltb (length bytes) 1 (omega arith)) refl

-- another tag
pub other_tag : (bytes : List ℕ) (tag : ℕ) → 0 < length bytes → slice_index bytes 0 ≡ tag → (tag ≡ 3 → ⊥) → certificate_of bytes ≡ Err (faults.Kind tag)
other_tag bytes tag h is other = rw (first_byte bytes h, is, ne_eqb tag 3 other) refl

-- with a certificate's tag: what follows it
abbrev rest_of : List ℕ → Result (Body × List (List ℕ)) RecordFault
rest_of bytes = whole certificate (past (start bytes) 1)

abbrev as_payload : Result (Body × List (List ℕ)) RecordFault → Result Payload RecordFault
as_payload r = r >>= λ x. Ok (payloads.Certificate x.0 x.1)

by_rest : (bytes : List ℕ) → 0 < length bytes → slice_index bytes 0 ≡ 3 → certificate_of bytes ≡ rest_of bytes
by_rest bytes h is = rw (first_byte bytes h, is) refl

payload_by_rest : (bytes : List ℕ) → 0 < length bytes → slice_index bytes 0 ≡ 3 → payload_of bytes ≡ as_payload (rest_of bytes)
unfolding payload_of read_tag read_certificate
payload_by_rest bytes h is = rw (first_byte bytes h, is) refl

ok_parts : (r : Result (Body × List (List ℕ)) RecordFault) (b : Body) (signatures : List (List ℕ)) → as_payload r ≡ Ok (payloads.Certificate b signatures) → r ≡ Ok (b, signatures)
ok_parts (Ok x) b signatures e = let p : x.0 ≡ b = cc in let q : x.1 ≡ signatures = cc in λ i. Ok (p i, q i)
ok_parts (Err f) b signatures e = absurd cc

ok_certificate : (r : Result (Body × List (List ℕ)) RecordFault) (p : Payload) → as_payload r ≡ Ok p → (b : Body) × (signatures : List (List ℕ)) × (p ≡ payloads.Certificate b signatures)
ok_certificate (Ok x) p e = (x.0, x.1, cc)
ok_certificate (Err f) p e = absurd cc

failed : (r : Result (Body × List (List ℕ)) RecordFault) (f : RecordFault) → as_payload r ≡ Err f → r ≡ Err f
failed (Ok x) f e = absurd cc
failed (Err g) f e = cc

-- a payload that is read after a certificate's tag is a certificate
pub read_parts : (bytes : List ℕ) (b : Body) (signatures : List (List ℕ)) → 0 < length bytes → slice_index bytes 0 ≡ 3
    → payload_of bytes ≡ Ok (payloads.Certificate b signatures) → certificate_of bytes ≡ Ok (b, signatures)
read_parts bytes b signatures h is e =
    by_rest bytes h is ∙ ok_parts (rest_of bytes) b signatures (sym (payload_by_rest bytes h is) ∙ e)

pub read_certificate_alone : (bytes : List ℕ) (p : Payload) → 0 < length bytes → slice_index bytes 0 ≡ 3 → payload_of bytes ≡ Ok p
    → ((b : Body) (signatures : List (List ℕ)) → p ≡ payloads.Certificate b signatures → ⊥) → ⊥
read_certificate_alone bytes p h is e not =
    let k = ok_certificate (rest_of bytes) p (sym (payload_by_rest bytes h is) ∙ e) in not k.0 k.1 k.2

read_fault : (bytes : List ℕ) (f : RecordFault) → 0 < length bytes → slice_index bytes 0 ≡ 3 → payload_of bytes ≡ Err f → certificate_of bytes ≡ Err f
read_fault bytes f h is e = by_rest bytes h is ∙ failed (rest_of bytes) f (sym (payload_by_rest bytes h is) ∙ e)

pub fails_so : (bytes : List ℕ) (f : RecordFault) → 0 < length bytes → slice_index bytes 0 ≡ 3 → Fails f (payload_of bytes) → Fails f (certificate_of bytes)
fails_so bytes (faults.Cut at) h is e = read_fault bytes (faults.Cut at) h is e
fails_so bytes (faults.Kind byte) h is e = read_fault bytes (faults.Kind byte) h is e
fails_so bytes (faults.Over at limit) h is e = read_fault bytes (faults.Over at limit) h is e
fails_so bytes (faults.Shape at) h is e = read_fault bytes (faults.Shape at) h is e
fails_so bytes (faults.Trailing at) h is e = read_fault bytes (faults.Trailing at) h is e
fails_so bytes faults.NoMemory h is e = tt

-- a certificate's payload is read as its parts
pub parts_again : (bytes : List ℕ) (b : Body) (signatures : List (List ℕ)) → IsPayload (payloads.Certificate b signatures)
    → bytes ≡ payload_bytes (payloads.Certificate b signatures) → certificate_of bytes ≡ Ok (b, signatures)
unfolding payload_bytes
parts_again bytes b signatures fits e =
    ap certificate_of e ∙ read_parts (payload_bytes (payloads.Certificate b signatures)) b signatures (omega arith) refl (payload_again (payloads.Certificate b signatures) fits)
