-- What ties the openings of an honest server's core to its group.
use Rattle.std.specs.Prelude.{◌≡◌, Contains, Some}
use Rattle.dn_roster.specs.Roster.{RosterView}
use Rattle.dn_seal.specs.Said.{SaidView, Unseals}
use Rattle.dn_server.specs.declared.past.Past.{Past}
use Rattle.dn_server.specs.declared.places.Place.{Place}
use Rattle.dn_server.specs.Server.{ServerView, past_of}
use Rattle.dn_openings.specs.Accusing.{shown_of}

-- each opening or answer of a client that it keeps unseals in the group; and of each round of which it opened a place it signed what it shows
pub record KeepsOpenings (roster : RosterView) (c : ServerView) : Type 0 where
  pub evidence : (said : SaidView) → Contains c.evidence said → Unseals roster said.bytes said.signer said.statement
  pub opened : (place : Place) → Contains c.opened place → (past : Past) × (past_of c.pasts place.r.0 ≡ Some past) × Contains c.signed (shown_of past)
