-- Whose signature verifies on what.
use Rattle.std.specs.Prelude.{◌≡◌, ℕ, List, Some}
use Rattle.dn_wire.specs.declared.ids.Round.{Round}
use Rattle.dn_wire.specs.declared.ids.SignerId.TheVariants.{Client, Server}
use Rattle.dn_record_types.specs.declared.body.Body.{Body}
use Rattle.dn_record_types.specs.declared.inventory.Entry.{Entry}
use Rattle.dn_record_types.specs.declared.statement.Statement.TheVariants.{Submission, Sign}
use Rattle.dn_roster.specs.Roster.{RosterView, key_of, digest_of}
use Rattle.dn_seal.specs.Signer.{envelope}
use Rattle.dn_seal.specs.Said.{Signs}

-- The client of an entry is in the roster, and the entry's signature verifies for it on the submission of this round, after this prev,
-- with the entry's client and digest.
abbrev pub EntryVerifies : RosterView → Round → Round → Entry → Type 0
EntryVerifies roster r prev e =
    (key : List ℕ) × (key_of roster (Client e.client) ≡ Some key)
    × Signs (digest_of roster) key (envelope (Client e.client) (Submission r prev e.client e.digest) e.signature)

-- the signature of server j on the body verifies under this key, in the group with this digest
abbrev pub SignsBody : List ℕ → List ℕ → ℕ → Body → List ℕ → Type 0
SignsBody digest key j body signature = Signs digest key (envelope (Server record { 0 = j }) (Sign body) signature)
