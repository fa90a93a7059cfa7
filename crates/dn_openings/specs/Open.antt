-- What a server keeps true of its openings, from call to call.
use Rattle.std.specs.Prelude.{◌≡◌, ◌<◌, false, true, length, All, Contains, Some}
use Rattle.dn_wire.specs.declared.ids.Round.{Round}
use Rattle.dn_record_types.specs.declared.body.Body.{Body}
use Rattle.dn_lms.specs.Signature.{public_key}
use Rattle.dn_roster.specs.Roster.{key_of}
use Rattle.dn_seal.specs.Said.{IsUnder}
use Rattle.dn_seal.specs.Signer.{CanSign}
use Rattle.dn_cert.specs.Certificate.{IsOfRoster}
use Rattle.dn_cert.specs.Chain.{bodies}
use Rattle.dn_trace.specs.Trial.{Says}
use Rattle.dn_server.specs.declared.past.Past.{Past}
use Rattle.dn_server.specs.declared.places.Place.{Place}
use Rattle.dn_server.specs.Server.{ServerView, itself, past_of}
use Rattle.dn_lms.specs.Key.{leaf_count}
use Rattle.dn_openings.specs.Accusing.{HasSigned, shown_of, has_opened}

-- The place is one of a round with data, whose body the server holds and signed, and its ciphertexts of that body are kept as it showed them.
pub record IsOpenPlace (v : ServerView) (place : Place) : Type 0 where
  pub body : Body
  pub past : Past
  pub signed : HasSigned v place.r body past
  pub full : body.thin ≡ false
  pub within : place.k < length body.out
  pub shown : Says v.evidence (itself v) (shown_of past)

-- It signs by its key in its group; the bodies that it holds are of the group, and it has a seed with each client; what it keeps was said in its group; its ciphertexts of each
-- round fit into an envelope; and the places that it opened are such.
pub record CanOpen (v : ServerView) : Type 0 where
  pub member : key_of v.seat.roster (itself v) ≡ Some (public_key v.key)
  pub in_group : All (IsOfRoster v.seat.roster) (bodies v.chain)
  pub seeds : length v.seat.seeds ≡ length v.seat.roster.clients
  pub under : All (IsUnder v.seat.roster) v.evidence
  pub sizes : (past : Past) → Contains v.pasts past → CanSign (itself v) (shown_of past)
  pub places : (place : Place) → Contains v.opened place → IsOpenPlace v place

-- What a server needs to sign pad bits of round r: it holds a body of the round, of its group, and has a seed with each client.
pub record CanPad (v : ServerView) (r : Round) : Type 0 where
  pub body : Body
  pub held : Contains (bodies v.chain) body
  pub round : body.r ≡ r
  pub in_group : IsOfRoster v.seat.roster body
  pub seeds : length v.seat.seeds ≡ length v.seat.roster.clients

-- What a server needs to show its ciphertexts of round r: it keeps them, and they fit into an envelope; a leaf, where it shows them first; and where
-- it showed them before, what it signed then.
pub record CanShow (v : ServerView) (r : Round) : Type 0 where
  pub past : Past
  pub kept : past_of v.pasts r.0 ≡ Some past
  pub round : past.body.r ≡ r
  pub fits : CanSign (itself v) (shown_of past)
  pub leaf : has_opened v r ≡ false → length v.signed < leaf_count v.key
  pub shown : has_opened v r ≡ true → Says v.evidence (itself v) (shown_of past)
