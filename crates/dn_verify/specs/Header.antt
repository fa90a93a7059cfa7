-- The lines of a report's header: the version, the numbers of the group, the keys of its clients, servers and slots, the commitments to the
-- seeds of each client and server, and the corrupt members, in this order.
use Rattle.std.specs.Prelude.{◌≡◌, ◌+◌, ◌-◌, ◌*◌, ◌/◌, ◌%◌, ◌<◌, ◌≤◌, nat_lt, ℕ, List, [], length, map, slice_get, Option, Some, None, if◌then◌else◌}
use Rattle.dn_bits.specs.Bits.{below}
use Rattle.dn_wire.specs.declared.ids.Member.{Member}
use Rattle.dn_report.specs.declared.line.ReportLine.{ReportLine}
use Rattle.dn_report.specs.declared.line.ReportLine.TheVariants as lines
use Rattle.dn_roster.specs.Roster.{RosterView}

-- what a line of the header tells
pub data Place : Type 0 where
  version : Place
  numbers : Place
  key_of_client : ℕ → Place
  key_of_server : ℕ → Place
  key_of_slot : ℕ → Place
  seal_of : ℕ → ℕ → Place
  corrupt : Place

-- the numbers of a group and the codes of its keys are within their limits
pub record AreSizes (clients servers ots client_lms server_lms : ℕ) : Type 0 where
  pub clients_within : (1 ≤ clients) × (clients ≤ 512)
  pub servers_within : (1 ≤ servers) × (servers ≤ 16)
  pub ots_within : (1 ≤ ots) × (ots ≤ 4)
  pub client_lms_within : (5 ≤ client_lms) × (client_lms ≤ 6)
  pub server_lms_within : (5 ≤ server_lms) × (server_lms ≤ 7)

-- The line is the one of this place, with keys of 56 bytes and commitments of 32.
abbrev pub IsLineOf : Place → ReportLine → Type 0
IsLineOf version (lines.Report v) = (1 ≤ v) × (v ≤ 2)
IsLineOf numbers (lines.Group clients servers ots client_lms server_lms) = AreSizes clients servers ots client_lms server_lms
IsLineOf (key_of_client i) (lines.ClientKey client key) = (client.0 ≡ i) × (length key ≡ 56)
IsLineOf (key_of_server j) (lines.ServerKey server key) = (server.0 ≡ j) × (length key ≡ 56)
IsLineOf (key_of_slot s) (lines.SlotKey slot key) = (slot.0 ≡ s) × (length key ≡ 56)
IsLineOf (seal_of i j) (lines.Seal client server seal) = (client.0 ≡ i) × (server.0 ≡ j) × (length seal ≡ 32)
IsLineOf corrupt (lines.Corrupt members) = Unit {0}
IsLineOf place l = ⊥

-- there is a line, and it is the one of this place
abbrev pub Tells : Place → Option ReportLine → Type 0
Tells place None = ⊥
Tells place (Some l) = IsLineOf place l

-- behind the version and the numbers stand the keys of n clients, m servers and n slots, and then the commitments
abbrev pub seals_at : ℕ → ℕ → ℕ
seals_at n m = 2 + n + m + n

-- the place of the last line
abbrev pub last_at : ℕ → ℕ → ℕ
last_at n m = seals_at n m + n * m

-- what the line at place k of the header of a group of n clients and m servers tells
unfoldable pub place_at : ℕ → ℕ → ℕ → Place
place_at n m k =
    if nat_lt k 1 then version else
    (if nat_lt k 2 then numbers else
    (if nat_lt k (2 + n) then key_of_client (k - 2) else
    (if nat_lt k (2 + n + m) then key_of_server (k - (2 + n)) else
    (if nat_lt k (seals_at n m) then key_of_slot (k - (2 + n + m)) else
    (if nat_lt k (last_at n m) then seal_of ((k - seals_at n m) / m) ((k - seals_at n m) % m) else corrupt)))))

-- the numbers of clients and servers that a line tells
abbrev pub clients_in : Option ReportLine → ℕ
clients_in (Some (lines.Group clients servers ots client_lms server_lms)) = clients
clients_in _ = 0

abbrev pub servers_in : Option ReportLine → ℕ
servers_in (Some (lines.Group clients servers ots client_lms server_lms)) = servers
servers_in _ = 0

abbrev pub clients_of : List ReportLine → ℕ
clients_of ls = clients_in (slice_get ls 1)

abbrev pub servers_of : List ReportLine → ℕ
servers_of ls = servers_in (slice_get ls 1)

-- line k is the one of its place
abbrev pub IsRightAt : List ReportLine → ℕ → Type 0
IsRightAt ls k = Tells (place_at (clients_of ls) (servers_of ls) k) (slice_get ls k)

-- a key or a commitment that a line tells
abbrev pub bytes_in : Option ReportLine → List ℕ
bytes_in (Some (lines.ClientKey client key)) = key
bytes_in (Some (lines.ServerKey server key)) = key
bytes_in (Some (lines.SlotKey slot key)) = key
bytes_in (Some (lines.Seal client server seal)) = seal
bytes_in _ = []

-- those of so many lines from a place on
abbrev pub bytes_from : List ReportLine → ℕ → ℕ → List (List ℕ)
bytes_from ls first count = map (λ k. bytes_in (slice_get ls (first + k))) (below count)

-- the codes, the version and the corrupt members that lines tell
abbrev pub version_in : Option ReportLine → ℕ
version_in (Some (lines.Report v)) = v
version_in _ = 0

abbrev pub ots_in : Option ReportLine → ℕ
ots_in (Some (lines.Group clients servers ots client_lms server_lms)) = ots
ots_in _ = 0

abbrev pub client_lms_in : Option ReportLine → ℕ
client_lms_in (Some (lines.Group clients servers ots client_lms server_lms)) = client_lms
client_lms_in _ = 0

abbrev pub server_lms_in : Option ReportLine → ℕ
server_lms_in (Some (lines.Group clients servers ots client_lms server_lms)) = server_lms
server_lms_in _ = 0

abbrev pub corrupt_in : Option ReportLine → List Member
corrupt_in (Some (lines.Corrupt members)) = members
corrupt_in _ = []

-- the roster of a header
abbrev pub roster_of : List ReportLine → RosterView
roster_of ls =
    let n = clients_of ls in
    let m = servers_of ls in
    record {
      version = version_in (slice_get ls 0);
      ots = ots_in (slice_get ls 1);
      client_lms = client_lms_in (slice_get ls 1);
      server_lms = server_lms_in (slice_get ls 1);
      clients = bytes_from ls 2 n;
      servers = bytes_from ls (2 + n) m;
      slots = bytes_from ls (2 + n + m) n;
      seals = bytes_from ls (seals_at n m) (n * m);
    }

abbrev pub corrupt_of : List ReportLine → List Member
corrupt_of ls = corrupt_in (slice_get ls (last_at (clients_of ls) (servers_of ls)))

-- the first lines, up to a place, are a whole header, which tells this roster and these corrupt members
pub record IsHeader (ls : List ReportLine) (roster : RosterView) (corrupt : List Member) (first : ℕ) : Type 0 where
  pub right : (k : ℕ) → k < first → IsRightAt ls k
  pub whole : first ≡ last_at (clients_of ls) (servers_of ls) + 1
  pub within : first ≤ length ls
  pub tells : roster ≡ roster_of ls
  pub names : corrupt ≡ corrupt_of ls

-- the line at this place, or its want, is the first that isn't the one of its place in a header
pub record IsFirstWrong (ls : List ReportLine) (at : ℕ) : Type 0 where
  pub right : (k : ℕ) → k < at → IsRightAt ls k
  pub wrong : IsRightAt ls at → ⊥
  pub there : at ≤ length ls
  pub within : at ≤ last_at (clients_of ls) (servers_of ls)
