-- What stands in front of a payload that a member puts.
use Rattle.std.proofs.Common.{◌≡◌, ℕ, List, sym, subst, ◌∙◌, inl, inr, Bool}
use Rattle.dn_wire.specs.declared.ids.SignerId.{SignerId}
use Rattle.dn_record_types.specs.declared.statement.Statement.{Statement}
use Rattle.dn_record_types.specs.declared.payload.Payload.{Payload}
use Rattle.dn_record_types.specs.declared.payload.Payload.TheVariants as payloads
use Rattle.dn_records.specs.Records.{payload_bytes, IsPayload}
use Rattle.dn_record_types.proofs.RecordLaws.{payload_once}
use Rattle.dn_roster.specs.Roster.{RosterView}
use Rattle.dn_seal.specs.Said.{Unseals}
use Rattle.dn_headline.specs.Spoken.{IsInFront}

module _ (roster : RosterView) (bytes : List ℕ) (who : SignerId) (t : Statement) where
  same_plain : (d e : List ℕ) → payloads.Plain d ≡ payloads.Plain e → d ≡ e
  same_plain d e h = cc

  same_submission : (c x : List Bool) (d e : List ℕ) → payloads.Submission c d ≡ payloads.Submission x e → d ≡ e
  same_submission c x d e h = cc

  apart : (c : List Bool) (d e : List ℕ) → payloads.Submission c d ≡ payloads.Plain e → ⊥
  apart c d e h = absurd cc

  once : (p q : Payload) → IsPayload p → IsPayload q → bytes ≡ payload_bytes p → bytes ≡ payload_bytes q → p ≡ q
  once p q fits other_fits is other_is = payload_once p q fits other_fits (sym is ∙ other_is)

  -- in front of a plain payload stands its envelope
  pub front_of_plain : (e : List ℕ) → bytes ≡ payload_bytes (payloads.Plain e) → IsInFront roster bytes who t → Unseals roster e who t
  front_of_plain e is h =
      elim h [
        | inl says ↦ subst (λ (d : List ℕ). Unseals roster d who t)
            (same_plain says.envelope e (once (payloads.Plain says.envelope) (payloads.Plain e) says.is.fits tt says.is.spelled is)) says.unseals
        | inr submits ↦
            let s = submits.1 in
            absurd (apart submits.0 s.envelope e (once (payloads.Submission submits.0 s.envelope) (payloads.Plain e) s.is.fits tt s.is.spelled is))
      ]

  -- and in front of a submission payload too
  pub front_of_submission : (c : List Bool) (e : List ℕ) → IsPayload (payloads.Submission c e) → bytes ≡ payload_bytes (payloads.Submission c e)
      → IsInFront roster bytes who t → Unseals roster e who t
  front_of_submission c e fits is h =
      elim h [
        | inl says ↦ absurd (apart c e says.envelope (once (payloads.Submission c e) (payloads.Plain says.envelope) fits says.is.fits is says.is.spelled))
        | inr submits ↦
            let s = submits.1 in
            subst (λ (d : List ℕ). Unseals roster d who t)
            (same_submission submits.0 c s.envelope e (once (payloads.Submission submits.0 s.envelope) (payloads.Submission c e) s.is.fits fits s.is.spelled is)) s.unseals
      ]
