-- The signatures in a payload.
use Rattle.std.proofs.Common.{◌≡◌, ℕ, ◌<◌, List, [], length, slice_index_or, ap, sym, subst, ◌∙◌, inl, inr, arith}
use Rattle.std.specs.Prelude.{All, Bool, IsTrue, Result, Ok, Err, IfOk, ◌↔◌}
use Rattle.std.proofs.lemmas.Bool.{cases_lt}
use Rattle.std.proofs.lemmas.List.{get_or_past}
use Rattle.std.proofs.lemmas.List.Elements.{All-contains}
use Rattle.std.proofs.lemmas.Option.{slice_get_within, slice_get-get_or, get_or_from_slice_get}
use Rattle.dn_wire.specs.declared.ids.SignerId.{SignerId}
use Rattle.dn_wire.specs.declared.ids.SignerId.TheVariants.{Server}
use Rattle.dn_record_types.specs.declared.payload.Payload.{Payload}
use Rattle.dn_record_types.specs.declared.payload.Payload.TheVariants as payloads
use Rattle.dn_record_types.specs.declared.statement.Statement.{Statement}
use Rattle.dn_record_types.specs.declared.statement.Statement.TheVariants as kinds
use Rattle.dn_record_types.proofs.RecordLaws.{payload_once}
use Rattle.dn_records.specs.Records.{statement_bytes}
use Rattle.dn_lms.specs.Signature.{Verifies}
use Rattle.dn_roster.specs.Roster.{RosterView, digest_of, signed_bytes_of}
use Rattle.dn_audit.specs.Group.{GroupView, IsHonestKey}
use Rattle.dn_audit.specs.Signatures.{IsPayloadOf, SignedIn}
use Rattle.dn_audit.specs.Signatures.SignedIn.{submission, plain, certificate, challenge}
use Rattle.dn_audit.specs.Auditor.{HasSigned, MayStand, SealsAreTheirs, SignaturesAreTheirs}
use Rattle.dn_audit.proofs.Lists.{All-from_contains}

-- an empty signature doesn't verify
unverified : (key message : List ℕ) → Verifies key message [] → ⊥
unverified key message h = let e : 0 ≡ 4 = ap length h.same_ots in omega (arith, e)

module _ (roster : RosterView) (group : GroupView) (signed : List (List ℕ)) where
  abbrev pub PartsOfPayload : Payload → Type 0
  PartsOfPayload (payloads.Submission cipher e) = SealsAreTheirs roster group signed e
  PartsOfPayload (payloads.Plain e) = SealsAreTheirs roster group signed e
  PartsOfPayload (payloads.Certificate b signatures) = (j : ℕ) → j < length signatures
      → MayStand roster group signed (Server record { 0 = j }) (statement_bytes (kinds.Sign b)) (slice_index_or signatures j [])
  PartsOfPayload (payloads.Challenge r k es) = All (SealsAreTheirs roster group signed) es

  pub to_payload : (bytes : List ℕ) (p : Payload) → IsPayloadOf bytes p → SignaturesAreTheirs roster group signed bytes → PartsOfPayload p
  to_payload bytes (payloads.Submission cipher e) at theirs = λ who s sealed honest.
      theirs who s (record { payload = payloads.Submission cipher e; is = at; signed = submission cipher e sealed }) honest
  to_payload bytes (payloads.Plain e) at theirs = λ who s sealed honest. theirs who s (record { payload = payloads.Plain e; is = at; signed = plain e sealed }) honest
  to_payload bytes (payloads.Certificate b signatures) at theirs = λ j within honest key known verifies.
      theirs (Server record { 0 = j }) (kinds.Sign b) (record {
        payload = payloads.Certificate b signatures;
        is = at;
        signed = certificate b signatures (record { 0 = j }) (slice_get_within roster.servers j key known)
            (subst (λ (k : List ℕ). Verifies k (signed_bytes_of (digest_of roster) (Server record { 0 = j }) (statement_bytes (kinds.Sign b))) (slice_index_or signatures j []))
            (sym (get_or_from_slice_get roster.servers j key [] known)) verifies);
      }) honest
  to_payload bytes (payloads.Challenge r k es) at theirs = All-from_contains (SealsAreTheirs roster group signed) es (λ e there who s sealed honest.
      theirs who s (record { payload = payloads.Challenge r k es; is = at; signed = challenge r k es e there sealed }) honest)

  by_payload : (p : Payload) → PartsOfPayload p → (who : SignerId) (s : Statement) → SignedIn roster p who s → IsHonestKey group who → HasSigned signed roster who s
  by_payload p parts who s (submission cipher e sealed) honest = parts who s sealed honest
  by_payload p parts who s (plain e sealed) honest = parts who s sealed honest
  by_payload p parts who s (certificate b signatures j within h) honest =
      elim (cases_lt j.0 (length signatures)) [
        | inl lt ↦ parts j.0 lt honest (slice_index_or roster.servers j.0 []) (slice_get-get_or roster.servers j.0 [] within) h
        | inr ge ↦ absurd (unverified (slice_index_or roster.servers j.0 []) (signed_bytes_of (digest_of roster) (Server j) (statement_bytes (kinds.Sign b)))
            (subst (λ (x : List ℕ). Verifies (slice_index_or roster.servers j.0 []) (signed_bytes_of (digest_of roster) (Server j) (statement_bytes (kinds.Sign b))) x)
            (get_or_past signatures j.0 [] ge) h))
      ]
  by_payload p parts who s (challenge r k es e there sealed) honest = All-contains (SealsAreTheirs roster group signed) es e parts there who s sealed honest

  pub from_payload : (bytes : List ℕ) (p : Payload) → IsPayloadOf bytes p → PartsOfPayload p → SignaturesAreTheirs roster group signed bytes
  from_payload bytes p at parts who s h honest =
      let same : h.payload ≡ p = payload_once h.payload p h.is.fits at.fits (sym h.is.spelled ∙ at.spelled) in
      by_payload p parts who s (subst (λ (x : Payload). SignedIn roster x who s) same h.signed) honest

  pub both_payload : (bytes : List ℕ) (p : Payload) → IsPayloadOf bytes p → PartsOfPayload p ↔ SignaturesAreTheirs roster group signed bytes
  both_payload bytes p at = (from_payload bytes p at, to_payload bytes p at)

-- an answer to what is the same
pub same_answer : {E : Type 0} (r : Result Bool E) (P Q : Type 0) → P ↔ Q → IfOk r (λ b. IsTrue b ↔ P) → IfOk r (λ b. IsTrue b ↔ Q)
same_answer (Ok b) P Q both is = (λ h. both.0 (is.0 h), λ q. is.1 (both.1 q))
same_answer (Err e) P Q both is = is
