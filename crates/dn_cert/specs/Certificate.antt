-- Certificates: bodies that every server of a group signed.
use Rattle.std.specs.Prelude.{◌≡◌, ◌≢◌, ◌<◌, ◌==◌, ℕ, List, [], length, min, All, slice_index_or, Option, Some, None, Result, Ok, Err, if◌then◌else◌}
use Rattle.dn_wire.specs.Cursor.{start}
use Rattle.dn_wire.specs.declared.ids.ServerId.{ServerId}
use Rattle.dn_records.specs.Part.{◌>>=◌, whole}
use Rattle.dn_records.specs.Fields.{read_byte}
use Rattle.dn_records.specs.Records.{certificate, payload_bytes, IsPayload}
use Rattle.dn_record_types.specs.declared.body.Body.{Body}
use Rattle.dn_record_types.specs.declared.fault.RecordFault.{RecordFault}
use Rattle.dn_record_types.specs.declared.fault.RecordFault.TheVariants as faults
use Rattle.dn_record_types.specs.declared.payload.Payload.TheVariants as payloads
use Rattle.dn_roster.specs.Roster.{RosterView, digest_of}
use Rattle.dn_cert.specs.declared.fault.CertFault.{CertFault}
use Rattle.dn_cert.specs.declared.fault.CertFault.TheVariants as refusals
use Rattle.dn_cert.specs.Signed.{SignsBody}

-- the digest of its group, how many clients that has, the public keys of its servers, the body, and the payload's bytes
pub record CertificateView : Type 0 where
  pub digest : List ℕ
  pub clients : ℕ
  pub keys : List (List ℕ)
  pub body : Body
  pub bytes : List ℕ

-- how many digests a body has in a group of so many servers: one for each, and none where it is thin
abbrev pub digests_due : ℕ → Body → ℕ
digests_due servers body = if body.thin then 0 else servers

-- a body as a group of this version with so many clients and servers may have it
pub record IsInGroup (version clients servers : ℕ) (body : Body) : Type 0 where
  pub of_version : body.version ≡ version
  pub digests : length body.digests ≡ digests_due servers body
  pub listed : All (λ l. (l.client.0 < clients) × (l.server.0 < servers)) body.listed
  pub after : body.prev.0 < body.r.0

-- the signature at place j is that of server j
abbrev pub IsSignedAt : List ℕ → List (List ℕ) → Body → List (List ℕ) → ℕ → Type 0
IsSignedAt digest keys body signatures j = SignsBody digest (slice_index_or keys j []) j body (slice_index_or signatures j [])

-- A body and signatures that a payload can carry, in the group with this digest, of this version, with so many clients and these keys of its
-- servers: the body is one of the group's, and each server signed it.
pub record IsSigned (digest : List ℕ) (version clients : ℕ) (keys : List (List ℕ)) (body : Body) (signatures : List (List ℕ)) : Type 0 where
  pub fits : IsPayload (payloads.Certificate body signatures)
  pub each : length signatures ≡ length keys
  pub within : IsInGroup version clients (length keys) body
  pub signed : (j : ℕ) → j < length keys → IsSignedAt digest keys body signatures j

-- a certificate of its body, whose version is that of the group
pub record IsCertificate (c : CertificateView) : Type 0 where
  pub signatures : List (List ℕ)
  pub signed : IsSigned c.digest c.body.version c.clients c.keys c.body signatures
  pub spelled : c.bytes ≡ payload_bytes (payloads.Certificate c.body signatures)

-- the group is that of this roster
pub record IsCertificateUnder (roster : RosterView) (c : CertificateView) : Type 0 where
  pub digest : c.digest ≡ digest_of roster
  pub version : c.body.version ≡ roster.version
  pub clients : c.clients ≡ length roster.clients
  pub keys : c.keys ≡ roster.servers

-- bytes as a certificate's payload: the body and the signatures, or the first fault. Another tag than a certificate's is its fault.
abbrev pub certificate_of : List ℕ → Result (Body × List (List ℕ)) RecordFault
certificate_of bytes =
    read_byte (start bytes) >>= λ tag. if tag.0 == 3 then whole certificate tag.1 else Err (faults.Kind tag.0)

-- a body as the group of this roster may have it
abbrev pub IsOfRoster : RosterView → Body → Type 0
IsOfRoster roster body = IsInGroup roster.version (length roster.clients) (length roster.servers) body

-- the server is the first whose signature of the body doesn't verify
pub record IsFirstUnsigned (roster : RosterView) (body : Body) (signatures : List (List ℕ)) (server : ServerId) : Type 0 where
  pub within : server.0 < length roster.servers
  pub before : (j : ℕ) → j < server.0 → IsSignedAt (digest_of roster) roster.servers body signatures j
  pub unsigned : ¬ IsSignedAt (digest_of roster) roster.servers body signatures server.0

-- the first server whose signature of the body doesn't verify, or nothing where each verifies
abbrev pub FirstUnsigned : RosterView → Body → List (List ℕ) → Option ServerId → Type 0
FirstUnsigned roster body signatures None =
    (j : ℕ) → j < length roster.servers → IsSignedAt (digest_of roster) roster.servers body signatures j
FirstUnsigned roster body signatures (Some server) = IsFirstUnsigned roster body signatures server

-- a fault of the form, as a refusal: want of memory is one of its own
abbrev pub refusal_of : RecordFault → CertFault
refusal_of faults.NoMemory = refusals.NoMemory
refusal_of fault = refusals.Form fault

-- Why a body and signatures in a certificate's form are no certificate under a roster: the first of these that is so.
abbrev pub ArePartsRefused : RosterView → Body → List (List ℕ) → CertFault → Type 0
ArePartsRefused roster body signatures (refusals.Form fault) = ⊥
ArePartsRefused roster body signatures (refusals.Missing server) =
    (length signatures ≢ length roster.servers) × (server.0 ≡ min (length signatures) (length roster.servers))
ArePartsRefused roster body signatures (refusals.Body server) =
    (length signatures ≡ length roster.servers)
    × (¬ IsOfRoster roster body) × (server.0 ≡ 0)
ArePartsRefused roster body signatures (refusals.Signature server) =
    (length signatures ≡ length roster.servers)
    × IsOfRoster roster body
    × IsFirstUnsigned roster body signatures server
ArePartsRefused roster body signatures refusals.NoMemory = ⊥

-- the bytes are in a certificate's form, and that is why they are no certificate
abbrev pub IsRefusedByParts : RosterView → List ℕ → CertFault → Type 0
IsRefusedByParts roster bytes fault =
    (body : Body) × (signatures : List (List ℕ)) × (certificate_of bytes ≡ Ok (body, signatures)) × ArePartsRefused roster body signatures fault

-- Why bytes are no certificate under a roster: the first of these that is so.
abbrev pub IsRefused : RosterView → List ℕ → CertFault → Type 0
IsRefused roster bytes (refusals.Form fault) = (fault ≢ faults.NoMemory) × (certificate_of bytes ≡ Err fault)
IsRefused roster bytes (refusals.Missing server) = IsRefusedByParts roster bytes (refusals.Missing server)
IsRefused roster bytes (refusals.Body server) = IsRefusedByParts roster bytes (refusals.Body server)
IsRefused roster bytes (refusals.Signature server) = IsRefusedByParts roster bytes (refusals.Signature server)
IsRefused roster bytes refusals.NoMemory = Unit {0}
