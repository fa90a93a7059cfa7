-- What a store of payloads keeps.
use Rattle.std.specs.Prelude.{ℕ, List, map, All}
use Rattle.std.specs.Global.{Vec}
use Rattle.dn_roster.specs.Roster.{RosterView}
use Rattle.dn_payloads.specs.declared.content.Content.{Content}
use Rattle.dn_payloads.specs.Payloads.{PayloadView, IsContent}

-- the payload of an entry of a map from bytes to contents
abbrev pub payload_in : Vec ℕ × Content → PayloadView
payload_in e = record { bytes = e.0.items; content = e.1 }

-- the payloads of all entries
abbrev pub items_of : List (Vec ℕ × Content) → List PayloadView
items_of entries = map payload_in entries

-- the content of each entry is what its bytes open to
abbrev pub AreKept : RosterView → List (Vec ℕ × Content) → Type 0
AreKept roster entries = All (λ e. IsContent roster e.0.items e.1) entries
