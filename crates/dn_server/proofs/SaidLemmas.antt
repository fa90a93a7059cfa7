-- What a server says is known whole from its bytes.
use Rattle.std.proofs.Common.{◌≡◌, ℕ, ◌<◌, Some, refl}
use Rattle.dn_lms.specs.Key.{Key, IsKey, leaf_count}
use Rattle.dn_lms.specs.Signature.{public_key}
use Rattle.dn_lms_definitions.proofs.Laws.{lms_signature-verifies}
use Rattle.dn_record_types.specs.declared.statement.Statement.{Statement}
use Rattle.dn_records.specs.Records.{statement_bytes}
use Rattle.dn_roster.specs.Roster.{RosterView, key_of, digest_of, signed_bytes_of}
use Rattle.dn_seal.specs.Dealt.{server}
use Rattle.dn_seal.specs.Signer.{CanSign, sealed_bytes}
use Rattle.dn_seal.specs.Said.{SaidView, IsSaid, IsUnder, Unseals}
use Rattle.dn_seal.proofs.SaidLemmas.{one_said, sealed_unseals}
use Rattle.dn_server.specs.Identity.{said_by}

module _ (roster : RosterView) (number : ℕ) (key : Key) (q : ℕ) (s : Statement) (is : IsKey key) (lt : q < leaf_count key) (fits : CanSign (server number) s) where
  -- it verifies
  pub said_by-said : IsSaid (said_by roster number key q s)
  said_by-said = record {
    fits = fits;
    spelled = refl;
    verifies = lms_signature-verifies key q (signed_bytes_of (digest_of roster) (server number) (statement_bytes s)) is lt;
  }

  module _ (known : key_of roster (server number) ≡ Some (public_key key)) where
    pub said_by-unseals : Unseals roster (sealed_bytes roster (server number) key q s) (server number) s
    said_by-unseals = sealed_unseals roster (digest_of roster) (server number) key q s refl known is lt fits

    pub said_is : (x : SaidView) → IsSaid x → IsUnder roster x → x.bytes ≡ sealed_bytes roster (server number) key q s → x ≡ said_by roster number key q s
    said_is x said under same = one_said roster x (said_by roster number key q s) said said_by-said under (refl, known) same
