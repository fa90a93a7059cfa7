-- The roster of a group, its bytes and its digest, and the bytes that are signed in the group. Numbers have their high byte first.
use Rattle.std.specs.Prelude.{◌≡◌, ℕ, ◌+◌, ◌*◌, ◌≤◌, List, ◌++◌, length, Option, codes, slice_get}
use Rattle.std.specs.List.{flat_map}
use Rattle.std.specs.Int.{w32, to_be_bytes}
use Rattle.dn_wire.specs.Signer.{signer_bytes}
use Rattle.dn_wire.specs.declared.ids.SignerId.{SignerId}
use Rattle.dn_wire.specs.declared.ids.SignerId.TheVariants.{Client, Server, Slot}
use Rattle.dn_hash.specs.Digests.{group_digest_of}

-- the version of the group, the typecodes, the public keys by number, and the commitments to the pairs' seeds, client by client and within
-- it server by server
pub record RosterView : Type 0 where
  pub version : ℕ
  pub ots : ℕ
  pub client_lms : ℕ
  pub server_lms : ℕ
  pub clients : List (List ℕ)
  pub servers : List (List ℕ)
  pub slots : List (List ℕ)
  pub seals : List (List ℕ)

-- all of it is within its limits: a slot for each client, and a commitment for each pair
pub record IsRoster (roster : RosterView) : Type 0 where
  pub version : (1 ≤ roster.version) × (roster.version ≤ 2)
  pub ots : (1 ≤ roster.ots) × (roster.ots ≤ 4)
  pub client_lms : (5 ≤ roster.client_lms) × (roster.client_lms ≤ 6)
  pub server_lms : (5 ≤ roster.server_lms) × (roster.server_lms ≤ 7)
  pub clients : (1 ≤ length roster.clients) × (length roster.clients ≤ 512)
  pub servers : (1 ≤ length roster.servers) × (length roster.servers ≤ 16)
  pub slots : length roster.slots ≡ length roster.clients
  pub seals : length roster.seals ≡ length roster.clients * length roster.servers

-- the public key of a signer, if its number is in the roster
abbrev pub key_of : RosterView → SignerId → Option (List ℕ)
key_of roster (Client i) = slice_get roster.clients i.0
key_of roster (Server j) = slice_get roster.servers j.0
key_of roster (Slot s) = slice_get roster.slots s.0

-- the commitment to the seed of client i and server j
abbrev pub commitment_of : RosterView → ℕ → ℕ → Option (List ℕ)
commitment_of roster i j = slice_get roster.seals (i * length roster.servers + j)

abbrev pub joined : List (List ℕ) → List ℕ
joined parts = flat_map (λ x. x) parts

unfoldable pub roster_bytes_of : RosterView → List ℕ
roster_bytes_of roster =
    to_be_bytes w32 (length roster.clients) ++ to_be_bytes w32 (length roster.servers)
    ++ to_be_bytes w32 roster.ots ++ to_be_bytes w32 roster.client_lms ++ to_be_bytes w32 roster.server_lms
    ++ joined roster.clients ++ joined roster.servers ++ joined roster.slots ++ joined roster.seals

-- the digest of the group, whose tag goes by the version; the bytes don't tell it
abbrev pub digest_of : RosterView → List ℕ
digest_of roster = group_digest_of roster.version (roster_bytes_of roster)

-- what is signed where a signer makes a statement in the group with this digest
unfoldable pub signed_bytes_of : List ℕ → SignerId → List ℕ → List ℕ
signed_bytes_of digest who statement =
    codes "dnstmt" ++ digest ++ signer_bytes who ++ statement
