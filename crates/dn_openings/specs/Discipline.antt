-- What holds of the openings that a server ever signed.
use Rattle.std.specs.Prelude.{◌≡◌, ℕ, ◌<◌, Bool, false, List, length, All, Contains, Some}
use Rattle.dn_wire.specs.declared.ids.Round.{Round}
use Rattle.dn_record_types.specs.declared.body.Body.{Body}
use Rattle.dn_record_types.specs.declared.shown.ShownCipher.{ShownCipher}
use Rattle.dn_record_types.specs.declared.statement.Statement.TheVariants as kinds
use Rattle.dn_seal.specs.Signer.{CanSign}
use Rattle.dn_cert.specs.Certificate.{IsOfRoster}
use Rattle.dn_cert.specs.Chain.{bodies}
use Rattle.dn_server.specs.declared.past.Past.{Past}
use Rattle.dn_server.specs.Server.{ServerView, itself, past_of}
use Rattle.dn_openings.specs.Accusing.{HasSigned, opened_bits, shown_of}

-- The pad bits are those of a round with data, whose body the server holds and signed, at a place of its output: the true ones of the clients
-- that the body lists, and 0 for others.
pub record ArePads (v : ServerView) (r : Round) (k : ℕ) (bits : List Bool) : Type 0 where
  pub body : Body
  pub past : Past
  pub signed : HasSigned v r body past
  pub full : body.thin ≡ false
  pub within : k < length body.out
  pub true_bits : bits ≡ opened_bits v.seat body k

-- What is shown are the server's ciphertext of a round with data, whose body the server holds and signed, and those of the clients that the body
-- gives to it.
pub record AreShown (v : ServerView) (r : Round) (s : List Bool) (own : List ShownCipher) : Type 0 where
  pub body : Body
  pub past : Past
  pub signed : HasSigned v r body past
  pub full : body.thin ≡ false
  pub are : kinds.Shown r s own ≡ shown_of past

-- all openings that the server ever signed are such
pub record KeepsOpenings (v : ServerView) : Type 0 where
  pub pads : (r : Round) (k : ℕ) (bits : List Bool) → Contains v.signed (kinds.PadBits r k bits) → ArePads v r k bits
  pub shown : (r : Round) (s : List Bool) (own : List ShownCipher) → Contains v.signed (kinds.Shown r s own) → AreShown v r s own

-- The server does something else: it opens no place and keeps none of its openings anew; it holds what it held, and more of its group; and it
-- keeps its ciphertexts, and more that fit into an envelope.
pub record LeavesOpenings (v after : ServerView) : Type 0 where
  pub seat : after.seat ≡ v.seat
  pub key : after.key ≡ v.key
  pub opened : after.opened ≡ v.opened
  pub evidence : after.evidence ≡ v.evidence
  pub held : (b : Body) → Contains (bodies v.chain) b → Contains (bodies after.chain) b
  pub in_group : All (IsOfRoster after.seat.roster) (bodies after.chain)
  pub pasts : (r : ℕ) (past : Past) → past_of v.pasts r ≡ Some past → past_of after.pasts r ≡ Some past
  pub sizes : (past : Past) → Contains after.pasts past → CanSign (itself after) (shown_of past)

-- it signs no openings
pub record SignsNoOpenings (v after : ServerView) : Type 0 where
  pub pads : (r : Round) (k : ℕ) (bits : List Bool) → Contains after.signed (kinds.PadBits r k bits) → Contains v.signed (kinds.PadBits r k bits)
  pub shown : (r : Round) (s : List Bool) (own : List ShownCipher) → Contains after.signed (kinds.Shown r s own) → Contains v.signed (kinds.Shown r s own)
