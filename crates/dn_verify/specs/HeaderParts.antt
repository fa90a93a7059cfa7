-- What private functions of the header's reading promise each other.
use Rattle.std.specs.Prelude.{◌≡◌, ◌+◌, ◌<◌, ◌≤◌, ℕ, List, Option, slice_get}
use Rattle.dn_report.specs.declared.line.ReportLine.{ReportLine}
use Rattle.dn_verify.specs.declared.stop.Stop.{Stop}
use Rattle.dn_verify.specs.declared.stop.Stop.TheVariants.{Broken, NoMemory}
use Rattle.dn_verify.specs.declared.key_of.KeyOf.{KeyOf}
use Rattle.dn_verify.specs.declared.key_of.KeyOf.TheVariants.{Client, Server, Slot}
use Rattle.dn_verify.specs.declared.sizes.Sizes.{Sizes}
use Rattle.dn_verify.specs.Header.{Place, Tells, IsFirstWrong, clients_in, servers_in, ots_in, client_lms_in, server_lms_in}
use Rattle.dn_verify.specs.Header.Place.{key_of_client, key_of_server, key_of_slot}

-- whose key it is
abbrev pub place_of : KeyOf → ℕ → Place
place_of Client i = key_of_client i
place_of Server j = key_of_server j
place_of Slot s = key_of_slot s

-- so many lines from a place on are those of these places
abbrev pub Holds : (ℕ → Place) → List ReportLine → ℕ → ℕ → Type 0
Holds place ls first count = (k : ℕ) → k < count → Tells (place k) (slice_get ls (first + k))

-- the first of them that isn't is this
pub record Fails (place : ℕ → Place) (ls : List ReportLine) (first count at : ℕ) : Type 0 where
  pub k : ℕ
  pub below : k < count
  pub is : at ≡ first + k
  pub before : Holds place ls first k
  pub wrong : Tells (place k) (slice_get ls (first + k)) → ⊥

abbrev pub StopsAmong : (ℕ → Place) → List ReportLine → ℕ → ℕ → Stop → Type 0
StopsAmong place ls first count (Broken at rule) = (rule ≡ 1) × Fails place ls first count at
StopsAmong place ls first count NoMemory = Unit {0}

abbrev pub StopsInHeader : List ReportLine → Stop → Type 0
StopsInHeader ls (Broken at rule) = (rule ≡ 1) × IsFirstWrong ls at
StopsInHeader ls NoMemory = Unit {0}

-- the numbers are those that the line tells
pub record AreSizesIn (sizes : Sizes) (l : Option ReportLine) : Type 0 where
  pub clients : sizes.clients ≡ clients_in l
  pub servers : sizes.servers ≡ servers_in l
  pub ots : sizes.ots ≡ ots_in l
  pub client_lms : sizes.client_lms ≡ client_lms_in l
  pub server_lms : sizes.server_lms ≡ server_lms_in l
