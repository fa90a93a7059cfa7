-- Signatures in payloads, as audits and runs speak of them.
use Rattle.std.proofs.Common.{◌≡◌, ℕ, List, [], ◌∷◌, get_or, subst, arith, inl, inr}
use Rattle.std.specs.Prelude.{Contains, Some}
use Rattle.std.specs.List.{AllByRecursion}
use Rattle.std.proofs.lemmas.Option.{slice_get-get_or}
use Rattle.dn_wire.specs.declared.ids.SignerId.{SignerId}
use Rattle.dn_wire.specs.declared.ids.SignerId.TheVariants.{Client, Server}
use Rattle.dn_record_types.specs.declared.inventory.Entry.{Entry}
use Rattle.dn_record_types.specs.declared.inventory.Inventory.{Inventory}
use Rattle.dn_record_types.specs.declared.payload.Payload.{Payload}
use Rattle.dn_record_types.specs.declared.payload.Payload.TheVariants as payloads
use Rattle.dn_record_types.specs.declared.statement.Statement.{Statement}
use Rattle.dn_record_types.specs.declared.statement.Statement.TheVariants as kinds
use Rattle.dn_record_types.specs.Lists.{FitsRow}
use Rattle.dn_record_types.specs.Records.{entry as entry_row, IsStatement, IsPayload}
use Rattle.dn_roster.specs.Roster.{RosterView, IsRoster, key_of}
use Rattle.dn_seal.specs.Signer.{CanSign}
use Rattle.dn_seal.proofs.SizeLemmas.{can_sign}
use Rattle.dn_cert.proofs.Orders.{first_or_later, nothing}
use Rattle.dn_audit.specs.Signatures.{SealedIn as SealedThere, SignedIn as SignedThere, HasSignature as IsSignedThere}
use Rattle.dn_audit.specs.Signatures.SealedIn.{itself as itself_there, entry as entry_there, carried as carried_there}
use Rattle.dn_audit.specs.Signatures.SignedIn.{submission as submission_there, plain as plain_there, certificate as certificate_there, challenge as challenge_there}
use Rattle.dn_headline.specs.Signatures.{SealedIn, SignedIn, HasSignature}
use Rattle.dn_headline.specs.Signatures.SealedIn.{itself, entry, carried}
use Rattle.dn_headline.specs.Signatures.SignedIn.{submission, plain, certificate, challenge}
use Rattle.dn_headline.specs.Spoken.{IsInFront}

-- ---- the two words are one

module _ (roster : RosterView) where
  sealed_here : {bytes : List ℕ} {who : SignerId} {s : Statement} → SealedThere roster bytes who s → SealedIn roster bytes who s
  sealed_here (itself_there u) = itself u
  sealed_here (entry_there e v x is of among verifies) = entry e v x (record { fits = is.fits; spelled = is.spelled }) of among verifies
  sealed_here (carried_there e r k server seed envelope is of inside) =
      carried e r k server seed envelope (record { fits = is.fits; spelled = is.spelled }) of (sealed_here inside)

  sealed_there : {bytes : List ℕ} {who : SignerId} {s : Statement} → SealedIn roster bytes who s → SealedThere roster bytes who s
  sealed_there (itself u) = itself_there u
  sealed_there (entry e v x is of among verifies) = entry_there e v x (record { fits = is.fits; spelled = is.spelled }) of among verifies
  sealed_there (carried e r k server seed envelope is of inside) =
      carried_there e r k server seed envelope (record { fits = is.fits; spelled = is.spelled }) of (sealed_there inside)

  signed_here : {p : Payload} {who : SignerId} {s : Statement} → SignedThere roster p who s → SignedIn roster p who s
  signed_here (submission_there cipher envelope inside) = submission cipher envelope (sealed_here inside)
  signed_here (plain_there envelope inside) = plain envelope (sealed_here inside)
  signed_here (certificate_there body signatures j within signs) = certificate body signatures j within signs
  signed_here (challenge_there r k envelopes envelope among inside) = challenge r k envelopes envelope among (sealed_here inside)

  signed_there : {p : Payload} {who : SignerId} {s : Statement} → SignedIn roster p who s → SignedThere roster p who s
  signed_there (submission cipher envelope inside) = submission_there cipher envelope (sealed_there inside)
  signed_there (plain envelope inside) = plain_there envelope (sealed_there inside)
  signed_there (certificate body signatures j within signs) = certificate_there body signatures j within signs
  signed_there (challenge r k envelopes envelope among inside) = challenge_there r k envelopes envelope among (sealed_there inside)

  pub to_run : (bytes : List ℕ) (who : SignerId) (s : Statement) → IsSignedThere roster bytes who s → HasSignature roster bytes who s
  to_run bytes who s h = record { payload = h.payload; is = record { fits = h.is.fits; spelled = h.is.spelled }; signed = signed_here h.signed }

  pub to_audit : (bytes : List ℕ) (who : SignerId) (s : Statement) → HasSignature roster bytes who s → IsSignedThere roster bytes who s
  to_audit bytes who s h = record { payload = h.payload; is = record { fits = h.is.fits; spelled = h.is.spelled }; signed = signed_there h.signed }

  -- what stands in front of a payload is signed in it
  pub front_is_signed : (bytes : List ℕ) (who : SignerId) (s : Statement) → IsInFront roster bytes who s → HasSignature roster bytes who s
  front_is_signed bytes who s h =
      elim h [
        | inl says ↦ record { payload = payloads.Plain says.envelope; is = says.is; signed = plain says.envelope (itself says.unseals) }
        | inr submits ↦ record {
          payload = payloads.Submission submits.0 submits.1.envelope;
          is = submits.1.is;
          signed = submission submits.0 submits.1.envelope (itself submits.1.unseals);
        }
      ]

-- ---- what is signed can be, by a key of the roster

each_of : {X : Type 0} (P : X → Type 0) (xs : List X) (x : X) → AllByRecursion P xs → Contains xs x → P x
each_of P [] x h c = absurd (nothing x c)
each_of {X} P (y ∷ ys) x h c = elim (first_or_later y ys x c) [ inl same ↦ subst P same h.0 | inr behind ↦ each_of P ys x h.1 behind ]

entry_can : (v : Inventory) (x : Entry) → IsStatement (kinds.Inventory v) → Contains v.entries x → CanSign (Client x.client) (kinds.Submission v.r v.prev x.client x.digest)
entry_can v x fits among =
    let row = each_of (FitsRow entry_row) v.entries x fits.1.1.2 among in
    can_sign (Client x.client) (kinds.Submission v.r v.prev x.client x.digest) row.0 (fits.0, (fits.1.0, (row.0, row.1.0))) tt

module _ (roster : RosterView) (is_roster : IsRoster roster) where
  sealed_can : {bytes : List ℕ} {who : SignerId} {s : Statement} → SealedIn roster bytes who s → CanSign who s
  sealed_can (itself u) = u.fits
  sealed_can (entry e v x is of among verifies) = entry_can v x (subst IsStatement of is.fits.1.1) among
  sealed_can (carried e r k server seed envelope is of inside) = sealed_can inside

  signed_can : {p : Payload} {who : SignerId} {s : Statement} → IsPayload p → SignedIn roster p who s → CanSign who s
  signed_can fits (submission cipher envelope inside) = sealed_can inside
  signed_can fits (plain envelope inside) = sealed_can inside
  signed_can fits (certificate body signatures j within signs) =
      let servers = is_roster.servers in can_sign (Server j) (kinds.Sign body) (omega (arith, within, servers.1)) fits.0.1 tt
  signed_can fits (challenge r k envelopes envelope among inside) = sealed_can inside

  pub can_be_signed : (bytes : List ℕ) (who : SignerId) (s : Statement) → HasSignature roster bytes who s → CanSign who s
  can_be_signed bytes who s h = signed_can h.is.fits h.signed

  sealed_known : {bytes : List ℕ} {who : SignerId} {s : Statement} → SealedIn roster bytes who s → (key : List ℕ) × (key_of roster who ≡ Some key)
  sealed_known (itself u) = (u.key, u.known)
  sealed_known (entry e v x is of among verifies) = (verifies.0, verifies.1)
  sealed_known (carried e r k server seed envelope is of inside) = sealed_known inside

  signed_known : {p : Payload} {who : SignerId} {s : Statement} → SignedIn roster p who s → (key : List ℕ) × (key_of roster who ≡ Some key)
  signed_known (submission cipher envelope inside) = sealed_known inside
  signed_known (plain envelope inside) = sealed_known inside
  signed_known (certificate body signatures j within signs) = (get_or roster.servers j.0 [], slice_get-get_or roster.servers j.0 [] within)
  signed_known (challenge r k envelopes envelope among inside) = sealed_known inside

  pub key_is_known : (bytes : List ℕ) (who : SignerId) (s : Statement) → HasSignature roster bytes who s → (key : List ℕ) × (key_of roster who ≡ Some key)
  key_is_known bytes who s h = signed_known h.signed
