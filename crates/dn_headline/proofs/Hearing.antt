-- What a judge hears of an honest member, this member signed.
use Rattle.std.proofs.Common.{◌≡◌, ℕ, List, refl, sym, subst, inl, inr}
use Rattle.std.specs.Prelude.{Contains, Some}
use Rattle.dn_wire.specs.declared.ids.Round.{Round}
use Rattle.dn_wire.specs.declared.ids.SignerId.{SignerId}
use Rattle.dn_wire.specs.declared.ids.SignerId.TheVariants.{Client, Server, Slot}
use Rattle.dn_record_types.specs.declared.statement.Statement.{Statement}
use Rattle.dn_record_types.specs.declared.statement.Statement.TheVariants as kinds
use Rattle.dn_record_types.specs.declared.payload.Payload.TheVariants as payloads
use Rattle.dn_roster.specs.Roster.{RosterView, key_of}
use Rattle.dn_report.specs.declared.outcome.Outcome.{Outcome}
use Rattle.dn_seal.specs.Signer.{envelope}
use Rattle.dn_seal.specs.Said.{Unseals}
use Rattle.dn_cert.specs.Signed.{EntryVerifies}
use Rattle.dn_trace.specs.Trial.{Heard}
use Rattle.dn_headline.specs.Group.{IsHonestKey}
use Rattle.dn_headline.specs.Log.{Put}
use Rattle.dn_headline.specs.Run.{RunView, log}
use Rattle.dn_headline.specs.Spoken.{IsInFront, Signed}
use Rattle.dn_headline.specs.Signatures.{SealedIn, HasSignature}
use Rattle.dn_headline.specs.Signatures.SealedIn.{itself, entry, carried}
use Rattle.dn_headline.specs.Signatures.SignedIn.{submission, plain}
use Rattle.dn_headline.specs.Heard.{IsHeard}
use Rattle.dn_headline.specs.Clean.{Clean}
use Rattle.dn_headline.specs.Verdict.{IsVerdictOf}
use Rattle.dn_headline.specs.Invariant.{Facts, Invariant}
use Rattle.dn_headline.proofs.Signing.{carried_is_signed}

-- a payload that was put, with this statement in front
pub record InFront (w : RunView) (who : SignerId) (s : Statement) : Type 0 where
  pub put : Put
  pub there : Contains (log w).puts put
  pub front : IsInFront w.group.roster put.bytes who s

-- the envelope in front, and what it carries
pub envelope_in_front : (w : RunView) (who : SignerId) (s : Statement) → InFront w who s → (bytes : List ℕ) × Unseals w.group.roster bytes who s
envelope_in_front w who s h = elim h.front [ inl says ↦ (says.envelope, says.unseals) | inr sub ↦ (sub.1.envelope, sub.1.unseals) ]

pub sealed_in_front : (roster : RosterView) (bytes : List ℕ) (who : SignerId) (s : Statement) (by : SignerId) (t : Statement) → IsInFront roster bytes who s
    → ((e : List ℕ) → Unseals roster e who s → SealedIn roster e by t) → HasSignature roster bytes by t
sealed_in_front roster bytes who s by t front has =
    elim front [
      | inl says ↦ record { payload = payloads.Plain says.envelope; is = says.is; signed = plain says.envelope (has says.envelope says.unseals) }
      | inr sub ↦ record {
        payload = payloads.Submission sub.0 sub.1.envelope;
        is = sub.1.is;
        signed = submission sub.0 sub.1.envelope (has sub.1.envelope sub.1.unseals);
      }
    ]

module _ (w : RunView) (f : Facts) (inv : Invariant w f) where
  pub heard_in_front : (who : SignerId) (s : Statement) → IsHeard w who s → InFront w who s
  heard_in_front (Server j) s h = record { put = h.put; there = h.there; front = inl h.says }
  heard_in_front (Client i) s h =
      let p = inv.messages.was_put h.message h.there in
      record { put = p.0; there = p.1; front = subst (λ bytes. IsInFront w.group.roster bytes (Client i) s) (sym p.2) h.front }
  heard_in_front (Slot k) s h =
      let p = inv.messages.was_put h.message h.there in
      record { put = p.0; there = p.1; front = subst (λ bytes. IsInFront w.group.roster bytes (Slot k) s) (sym p.2) h.front }

  module _ (clean : Clean w) (r : Round) (k : ℕ) (lines : List Outcome) (v : IsVerdictOf w r k lines) where
    pub heard_is_signed : (who : SignerId) (s : Statement) → IsHonestKey w.group who → Heard v.trial who s → Signed w who s
    heard_is_signed who s honest heard =
        elim heard [
          | inl given ↦
              let h = heard_in_front who s (v.heard who s given) in
              carried_is_signed w clean h.put who s h.there honest (sealed_in_front w.group.roster h.put.bytes who s who s h.front (λ e u. itself u))
          | inr rest ↦ elim rest [
            | inl c ↦
                let rebuttal = kinds.Rebuttal c.r c.k c.server c.seed c.envelope in
                let h = heard_in_front c.by rebuttal (v.heard c.by rebuttal c.rebuttal) in
                let inner : Unseals w.group.roster c.envelope who s = subst (λ (z : RosterView). Unseals z c.envelope who s) v.roster c.unseals in
                carried_is_signed w clean h.put who s h.there honest
                (sealed_in_front w.group.roster h.put.bytes c.by rebuttal who s h.front (λ e u.
                carried (envelope c.by rebuttal u.signature) c.r c.k c.server c.seed c.envelope (record { fits = u.fits; spelled = u.spelled }) refl (itself inner)))
            | inr x ↦
                let inventory = kinds.Inventory x.held in
                let h = heard_in_front x.by inventory (v.heard x.by inventory x.inventory) in
                let verifies : EntryVerifies w.group.roster x.held.r x.held.prev x.entry = subst (λ (z : RosterView). EntryVerifies z x.held.r x.held.prev x.entry) v.roster x.verifies in
                let named = x.client in
                let is = x.is in
                carried_is_signed w clean h.put who s h.there honest
                (sealed_in_front w.group.roster h.put.bytes x.by inventory who s h.front (λ e u.
                subst (λ (z : SignerId). SealedIn w.group.roster e z s) (sym named)
                (subst (λ (z : Statement). SealedIn w.group.roster e (Client x.entry.client) z) (sym is)
                (entry (envelope x.by inventory u.signature) x.held x.entry (record { fits = u.fits; spelled = u.spelled }) refl x.among verifies))))
          ]
        ]

    -- who is heard has a key
    pub heard_has_key : (who : SignerId) (s : Statement) → Heard v.trial who s → (key : List ℕ) × (key_of w.group.roster who ≡ Some key)
    heard_has_key who s heard =
        elim heard [
          | inl given ↦ let h = envelope_in_front w who s (heard_in_front who s (v.heard who s given)) in (h.1.key, h.1.known)
          | inr rest ↦ elim rest [
            | inl c ↦ (c.unseals.key, subst (λ (z : RosterView). key_of z who ≡ Some c.unseals.key) v.roster c.unseals.known)
            | inr x ↦
                let known = subst (λ (z : RosterView). key_of z (Client x.entry.client) ≡ Some x.verifies.0) v.roster x.verifies.1 in
                (x.verifies.0, subst (λ (z : SignerId). key_of w.group.roster z ≡ Some x.verifies.0) (sym x.client) known)
          ]
        ]
