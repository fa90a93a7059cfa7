-- A server's key at work: its place in its group, and all that its key signed.
use Rattle.std.specs.Prelude.{◌≡◌, ℕ, Bool, false, List, [], ◌∷◌, ◌++◌, length, Some}
use Rattle.dn_wire.specs.declared.ids.Member.{Member}
use Rattle.dn_lms.specs.Key.{Key, IsKey}
use Rattle.dn_lms.specs.Signature.{public_key, lms_signature}
use Rattle.dn_record_types.specs.declared.payload.Payload.TheVariants as payloads
use Rattle.dn_record_types.specs.declared.statement.Statement.{Statement}
use Rattle.dn_records.specs.Records.{statement_bytes, payload_bytes}
use Rattle.dn_roster.specs.Roster.{RosterView, key_of, digest_of, signed_bytes_of}
use Rattle.dn_seal.specs.Dealt.{server}
use Rattle.dn_seal.specs.Said.{SaidView}
use Rattle.dn_seal.specs.Signer.{sealed_bytes}
use Rattle.dn_seal.specs.SigningKey.{SigningKeyView}
use Rattle.dn_server.specs.declared.act.Act.{Act}
use Rattle.dn_server.specs.declared.act.Act.TheVariants as acts

-- the roster, the server's number, its key, and what that signed, in order
pub record IdentityView : Type 0 where
  pub roster : RosterView
  pub number : ℕ
  pub key : Key
  pub signed : List Statement

-- a key that signs for the server in the group of the roster, which has its public key; it can sign unless it is lost
pub record IsIdentity (roster : RosterView) (number : ℕ) (key : SigningKeyView) (lost : Bool) : Type 0 where
  pub digest : key.digest ≡ digest_of roster
  pub who : key.who ≡ server number
  pub is_key : IsKey key.key
  pub member : key_of roster (server number) ≡ Some (public_key key.key)
  pub whole : lost ≡ false → key.lost ≡ false

-- the signature of a statement at leaf q of a server's key
abbrev pub signature_at : RosterView → ℕ → Key → ℕ → Statement → List ℕ
signature_at roster number key q s = lms_signature key q (signed_bytes_of (digest_of roster) (server number) (statement_bytes s))

-- what a server of a group says by signing a statement at leaf q of its key
abbrev pub said_by : RosterView → ℕ → Key → ℕ → Statement → SaidView
said_by roster number key q s = record {
  digest = digest_of roster;
  key = public_key key;
  signer = server number;
  statement = s;
  signature = signature_at roster number key q s;
  bytes = sealed_bytes roster (server number) key q s;
}

-- the envelope that is sealed next
abbrev pub sealed_at : IdentityView → Statement → List ℕ
sealed_at d s = sealed_bytes d.roster (server d.number) d.key (length d.signed) s

-- what is said next
abbrev pub said_at : IdentityView → Statement → SaidView
said_at d s = said_by d.roster d.number d.key (length d.signed) s

-- the post to these members, where the statement is signed next
abbrev pub posted_at : IdentityView → List Member → Statement → Act
posted_at d to s = acts.Post to (payload_bytes (payloads.Plain (sealed_at d s)))

-- with one statement more
abbrev pub with_said : IdentityView → Statement → IdentityView
with_said d s = record d { signed = d.signed ++ s ∷ [] }
