-- What a server seals at a leaf of its key it says.
use Rattle.std.proofs.Common.{◌≡◌, ℕ, ◌<◌, List, refl, sym, subst, ◌∙◌}
use Rattle.std.specs.Prelude.{Some}
use Rattle.dn_wire.specs.declared.ids.ServerId.{ServerId}
use Rattle.dn_wire.specs.declared.ids.SignerId.{SignerId}
use Rattle.dn_wire.specs.declared.ids.SignerId.TheVariants.{Server}
use Rattle.dn_lms.specs.Key.{Key, IsKey, leaf_count}
use Rattle.dn_lms.specs.Signature.{public_key}
use Rattle.dn_record_types.specs.declared.statement.Statement.{Statement}
use Rattle.dn_record_types.specs.declared.payload.Payload.TheVariants as payloads
use Rattle.dn_records.specs.Records.{payload_bytes}
use Rattle.dn_roster.specs.Roster.{RosterView, key_of, digest_of}
use Rattle.dn_seal.specs.Said.{Unseals}
use Rattle.dn_seal.specs.Signer.{CanSign, sealed_bytes}
use Rattle.dn_seal.proofs.SaidLemmas.{sealed_unseals, unsealed_once}
use Rattle.dn_headline.specs.Spoken.{Says, IsInFront}
use Rattle.dn_steps.proofs.Fronts.{front_of_plain}

-- the bytes are a plain payload of a statement that the server can sign, sealed at a leaf of its key
pub record IsSealedOf (roster : RosterView) (j : ServerId) (key : Key) (s : Statement) (bytes : List ℕ) : Type 0 where
  pub can : CanSign (Server j) s
  pub leaf : ℕ
  pub low : leaf < leaf_count key
  pub spelled : bytes ≡ payload_bytes (payloads.Plain (sealed_bytes roster (Server j) key leaf s))

module _ (roster : RosterView) (j : ServerId) (key : Key) (known : key_of roster (Server j) ≡ Some (public_key key)) (is_key : IsKey key) (s : Statement) (bytes : List ℕ)
    (is : IsSealedOf roster j key s bytes) where
  pub unseals_so : Unseals roster (sealed_bytes roster (Server j) key is.leaf s) (Server j) s
  unseals_so = sealed_unseals roster (digest_of roster) (Server j) key is.leaf s refl known is_key is.low is.can

  pub says_so : Says roster bytes (Server j) s
  says_so = record {
    envelope = sealed_bytes roster (Server j) key is.leaf s;
    is = record { fits = tt; spelled = is.spelled };
    unseals = unseals_so;
  }

  -- and nothing else stands in front of it
  pub front_so : (who : SignerId) (t : Statement) → IsInFront roster bytes who t → (who ≡ Server j) × (t ≡ s)
  front_so who t front =
      unsealed_once roster (sealed_bytes roster (Server j) key is.leaf s) who (Server j) t s
      (front_of_plain roster bytes who t (sealed_bytes roster (Server j) key is.leaf s) is.spelled front) unseals_so
