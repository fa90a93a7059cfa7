-- What an honest client puts by its own core, and what stands in front of it.
use Rattle.std.proofs.Common.{◌≡◌, ℕ, ◌≤◌, List, [], ◌∷◌, ◌++◌, length, sym, ap, subst, ◌∙◌, inl, inr, true, Bool}
use Rattle.std.specs.Prelude.{Contains, ◌⊎◌, slice_get, Some}
use Rattle.std.proofs.lemmas.List.Elements.{Contains-append_cases}
use Rattle.dn_wire.specs.declared.ids.ClientId.{ClientId}
use Rattle.dn_wire.specs.declared.ids.SlotId.{SlotId}
use Rattle.dn_wire.specs.declared.ids.Member.{Member}
use Rattle.dn_wire.specs.declared.ids.Member.TheVariants as members
use Rattle.dn_wire.specs.declared.ids.SignerId.{SignerId}
use Rattle.dn_wire.specs.declared.ids.SignerId.TheVariants.{Client, Slot}
use Rattle.dn_record_types.specs.declared.statement.Statement.{Statement}
use Rattle.dn_record_types.specs.declared.payload.Payload.TheVariants as payloads
use Rattle.dn_records.specs.Records.{payload_bytes, IsPayload}
use Rattle.dn_roster.specs.Roster.{RosterView}
use Rattle.dn_seal.specs.Said.{Unseals}
use Rattle.dn_seal.proofs.SaidLemmas.{unsealed_once}
use Rattle.dn_record_types.proofs.RecordLaws.{payload_once}
use Rattle.dn_cert.specs.Certificate.{CertificateView}
use Rattle.dn_cert.specs.declared.opened.Opened.TheVariants as opened
use Rattle.dn_payloads.specs.declared.content.Content.{Content}
use Rattle.dn_payloads.specs.declared.content.Content.TheVariants as contents
use Rattle.dn_payloads.specs.Payloads.{IsContent}
use Rattle.dn_report.specs.declared.outcome.Outcome.{Outcome}
use Rattle.dn_state.specs.Parts.{PartsView}
use Rattle.dn_headline.specs.Group.{IsKeyOf}
use Rattle.dn_headline.specs.Log.{Log, Put, with_outcomes}
use Rattle.dn_headline.specs.Run.{RunView, log}
use Rattle.dn_headline.specs.Certified.{IsCertificateOf}
use Rattle.dn_headline.specs.Step.{IsNewlySigned}
use Rattle.dn_steps.proofs.Places.{place_from_behind}
use Rattle.dn_steps.proofs.Sending.{put_of}
use Rattle.dn_steps.proofs.Following.{IsOther, certificate_of_content}
use Rattle.dn_steps.proofs.Putting.{PutsSo, GoesOrIsOther}
use Rattle.dn_steps.proofs.Fronts.{front_of_plain, front_of_submission}
use Rattle.dn_steps.proofs.Unputting.{KeepsFronts}

-- a statement with its signer, that stands in front of what the member puts
pub record StandsAlone (w v : RunView) (by : SignerId) (s : Statement) : Type 0 where
  pub alone : (who : SignerId) (t : Statement) → IsNewlySigned w v who t → (who ≡ by) × (t ≡ s)

module _ (w v : RunView) (i : ClientId) (to : List Member) (bytes : List ℕ) (start : Log) (new : PartsView) (lines : List Outcome)
    (so : PutsSo v.group true (members.Client i) to bytes start new lines) (puts : start.puts ≡ (log w).puts)
    (at : log v ≡ with_outcomes true (members.Client i) start lines) where
  -- each new put is the client's own, of these bytes
  pub newly_put : (n : ℕ) (p : Put) → length (log w).puts ≤ n → slice_get (log v).puts n ≡ Some p → put_of true (members.Client i) bytes ≡ p
  newly_put n p past there =
      let placed : slice_get ((log w).puts ++ so.more) n ≡ Some p =
      subst (λ (ps : List Put). slice_get ps n ≡ Some p) (ap (λ (l : Log). l.puts) at ∙ so.puts ∙ ap (λ (ps : List Put). ps ++ so.more) puts) there in
      so.each p (place_from_behind (log w).puts so.more n p past placed)

  pub put_by_client : (n : ℕ) (p : Put) → length (log w).puts ≤ n → slice_get (log v).puts n ≡ Some p → p.own ≡ true → p.by ≡ members.Client i
  put_by_client n p past there own = sym (ap (λ (q : Put). q.by) (newly_put n p past there))

  -- the payload is in the run
  pub was_put : (p : Put) × Contains (log v).puts p × (p.bytes ≡ bytes)
  was_put = (so.put.0, subst (λ (l : Log). Contains l.puts so.put.0) (sym at) so.put.1, so.put.2)

  -- what stands in front of it is one statement of one signer
  pub plain_stands : (e : List ℕ) → bytes ≡ payload_bytes (payloads.Plain e) → (by : SignerId) (s : Statement) → Unseals v.group.roster e by s → StandsAlone w v by s
  plain_stands e is by s unseals = record {
    alone = λ who t now.
        let same = ap (λ (q : Put). q.bytes) (newly_put now.at now.put now.new now.there) in
        unsealed_once v.group.roster e who by t s (front_of_plain v.group.roster now.put.bytes who t e (sym same ∙ is) now.front) unseals;
  }

  pub submission_stands : (c : List Bool) (e : List ℕ) → IsPayload (payloads.Submission c e) → bytes ≡ payload_bytes (payloads.Submission c e) → (by : SignerId) (s : Statement)
      → Unseals v.group.roster e by s → StandsAlone w v by s
  submission_stands c e fits is by s unseals = record {
    alone = λ who t now.
        let same = ap (λ (q : Put). q.bytes) (newly_put now.at now.put now.new now.there) in
        unsealed_once v.group.roster e who by t s (front_of_submission v.group.roster now.put.bytes who t c e fits (sym same ∙ is) now.front) unseals;
  }

  -- ---- in front of each stands a statement by a key of the client's

  put_cases : (p : Put) → Contains (log v).puts p → Contains (log w).puts p ⊎ (put_of true (members.Client i) bytes ≡ p)
  put_cases p h =
      elim (Contains-append_cases (log w).puts so.more p
      (subst (λ (ps : List Put). Contains ps p) (ap (λ (l : Log). l.puts) at ∙ so.puts ∙ ap (λ (ps : List Put). ps ++ so.more) puts) h)) [
        | inl was ↦ inl was
        | inr new ↦ inr (so.each p new)
      ]

  by_own_key : (p : Put) → put_of true (members.Client i) bytes ≡ p → (by who : SignerId) → IsKeyOf v.group by (members.Client i) → who ≡ by → IsKeyOf v.group who p.by
  by_own_key p is by who key same =
      subst (λ (z : SignerId). IsKeyOf v.group z p.by) (sym same) (subst (IsKeyOf v.group by) (ap (λ (q : Put). q.by) is) key)

  pub plain_fronts : (e : List ℕ) → bytes ≡ payload_bytes (payloads.Plain e) → (by : SignerId) (s : Statement) → Unseals v.group.roster e by s
      → IsKeyOf v.group by (members.Client i) → KeepsFronts w v
  plain_fronts e spelled by s unseals key p h = elim (put_cases p h) [
    | inl was ↦ inl was
    | inr is ↦ inr (λ own who t front.
        by_own_key p is by who key
        (unsealed_once v.group.roster e who by t s (front_of_plain v.group.roster p.bytes who t e (sym (ap (λ (q : Put). q.bytes) is) ∙ spelled) front) unseals).0)
  ]

  pub submission_fronts : (c : List Bool) (e : List ℕ) → IsPayload (payloads.Submission c e) → bytes ≡ payload_bytes (payloads.Submission c e) → (by : SignerId) (s : Statement)
      → Unseals v.group.roster e by s → IsKeyOf v.group by (members.Client i) → KeepsFronts w v
  submission_fronts c e fits spelled by s unseals key p h = elim (put_cases p h) [
    | inl was ↦ inl was
    | inr is ↦ inr (λ own who t front.
        by_own_key p is by who key
        (unsealed_once v.group.roster e who by t s (front_of_submission v.group.roster p.bytes who t c e fits (sym (ap (λ (q : Put). q.bytes) is) ∙ spelled) front) unseals).0)
  ]

-- a client's key isn't a slot's
pub no_slot : (i : ClientId) (slot : SlotId) → Slot slot ≡ Client i → ⊥
no_slot i slot e = absurd cc

pub no_client_key : (i : ClientId) (slot : SlotId) → Client i ≡ Slot slot → ⊥
no_client_key i slot e = absurd cc

-- a plain payload is no certificate
pub plain_goes : (roster : RosterView) (e : List ℕ) (to : List Member) → GoesOrIsOther roster (payload_bytes (payloads.Plain e)) to
plain_goes roster e (m ∷ ms) = tt
plain_goes roster e [] = other where
  apart : (c : CertificateView) → IsCertificateOf roster (payload_bytes (payloads.Plain e)) c → ⊥
  apart c is =
      let same = payload_once (payloads.Certificate c.body is.certificate.signatures) (payloads.Plain e) is.certificate.signed.fits tt
      (sym is.certificate.spelled ∙ is.spelled) in absurd cc

  other : (x : Content) → IsContent roster (payload_bytes (payloads.Plain e)) x → IsOther x
  other (contents.Opened (opened.Certificate c)) h = apart c (certificate_of_content roster (payload_bytes (payloads.Plain e)) c h)
  other (contents.Opened (opened.Submission cipher said)) h = tt
  other (contents.Opened (opened.Plain said)) h = tt
  other (contents.Opened (opened.Challenge c)) h = tt
  other contents.Form h = tt
  other contents.Stranger h = tt
  other contents.Signature h = tt
