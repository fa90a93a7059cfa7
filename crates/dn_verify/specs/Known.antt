-- What the payloads say that the lines of a report put: the run's certificates, what was heard, and which lines are due next.
use Rattle.std.specs.Prelude.{◌≡◌, ◌⊎◌, ◌++◌, ◌∷◌, ◌==◌, ℕ, Bool, false, List, [], Option, Some, None, Contains, drop, if◌then◌else◌, option_and_then}
use Rattle.dn_wire.specs.declared.ids.Round.{Round}
use Rattle.dn_wire.specs.declared.ids.Member.{Member}
use Rattle.dn_wire.specs.declared.ids.Member.TheVariants.{Client, Server}
use Rattle.dn_record_types.specs.declared.body.Body.{Body}
use Rattle.dn_seal.specs.Said.{SaidView}
use Rattle.dn_cert.specs.Chain.{ChainView, CanFollow, with_held}
use Rattle.dn_report.specs.declared.line.EventLine.{EventLine}
use Rattle.dn_report.specs.declared.line.EventLine.TheVariants as events
use Rattle.dn_report.specs.declared.line.ReportLine.{ReportLine}
use Rattle.dn_report.specs.declared.line.ReportLine.TheVariants as lines
use Rattle.dn_report.specs.declared.outcome.Outcome.{Outcome}
use Rattle.dn_report.specs.declared.outcome.Outcome.TheVariants as outcomes
use Rattle.dn_verify.specs.declared.mail.Flying.{Flying}
use Rattle.dn_verify.specs.declared.scene.Scene.{Scene}
use Rattle.dn_verify.specs.declared.scene.Scene.TheVariants as scenes
use Rattle.dn_verify.specs.Course.{CourseView, is_early, is_member}
use Rattle.dn_verify.specs.Payloads.{Report, Carried, carried_at, body_in, heard_put, heard_delivered}
use Rattle.dn_verify.specs.Payloads.Carried.{a_submission, a_statement, a_certificate, a_challenge, unopened}
use Rattle.dn_verify.specs.Rules.{IsHonest, puts_next}
use Rattle.dn_verify.specs.Telling.{TellsRound, with_number}
use Rattle.dn_verify.specs.Verdicts.{IsJudgedSo}

-- The chain of the run's certificates; which payloads reached a server; what was heard, in this order; of which rounds the lines were told;
-- and the lines that are due next.
pub record Known : Type 0 where
  pub chain : ChainView
  pub reached : ℕ → Bool
  pub heard : List SaidView
  pub told : ℕ → Bool
  pub due : List Outcome

-- before the first line behind the header, in a group of so many clients
abbrev pub no_known : ℕ → Known
no_known clients = record {
  chain = record { slots = clients; held = [] };
  reached = λ payload. false;
  heard = [];
  told = λ r. false;
  due = [];
}

-- ---- the run's certificates

-- where it is a body of this round
abbrev pub of_round : Round → Body → Option Body
of_round r b = if b.r.0 == r.0 then Some b else None

-- the body of the certificate of this round that a payload is
abbrev pub certificate_in : Report → Round → Option ℕ → Option Body
certificate_in report r None = None
certificate_in report r (Some payload) = option_and_then (of_round r) (body_in (carried_at report payload))

-- the payload that was delivered to this member
abbrev pub delivered_to : Scene → Member → Option ℕ
delivered_to (scenes.Delivery to payload) m = if is_member to m then Some payload else None
delivered_to _ m = None

-- the body of the certificate that is given to the run: that of a payload that is put, and at `certified` of the one that is put next
abbrev pub given_by : Report → CourseView → Outcome → List ReportLine → Option Body
given_by report c (outcomes.Post payload by bytes) behind = body_in (carried_at report payload)
given_by report c (outcomes.Sent id payload to) behind = body_in (carried_at report payload)
given_by report c (outcomes.Full payload to) behind = body_in (carried_at report payload)
given_by report c (outcomes.Certified server r) behind = certificate_in report r (puts_next c server behind)
given_by report c _ behind = None

abbrev pub given : Report → CourseView → ReportLine → List ReportLine → Option Body
given report c (lines.Outcome o) behind = given_by report c o behind
given report c _ behind = None

-- A body is given to the chain: held where it can follow there, and else the chain stays.
pub data Follows (old : ChainView) (b : Body) (new : ChainView) : Type 0 where
  held : CanFollow old b → new ≡ record old { held = with_held b old.held } → Follows old b new
  stays : (¬ CanFollow old b) → new ≡ old → Follows old b new

-- the chain after this was given to it, if anything was
abbrev pub IsGiven : ChainView → Option Body → ChainView → Type 0
IsGiven old None new = new ≡ old
IsGiven old (Some b) new = Follows old b new

-- ---- what is heard

-- the payload, where a server gets it
abbrev pub at_server : Member → ℕ → Option ℕ
at_server (Client i) payload = None
at_server (Server j) payload = Some payload

-- the payload of a message that arrives at a server, where it doesn't come early
abbrev pub arriving : Option Flying → List ReportLine → Option ℕ
arriving None behind = None
arriving (Some f) behind = if is_early behind then None else at_server f.to f.payload

-- the payload that reaches a server
abbrev pub reaching : CourseView → ReportLine → List ReportLine → Option ℕ
reaching c (lines.Event (events.Deliver id)) behind = arriving (c.flight id) behind
reaching c _ behind = None

-- with what reaches a server now, if anything does
abbrev pub with_reached : Option ℕ → (ℕ → Bool) → ℕ → Bool
with_reached None reached = reached
with_reached (Some payload) reached = with_number payload reached

-- what is heard of a payload that reaches a server, where it does so for the first time
abbrev pub heard_of : Report → (ℕ → Bool) → Option ℕ → List SaidView
heard_of report reached None = []
heard_of report reached (Some payload) = if reached payload then [] else heard_delivered (carried_at report payload)

-- what is heard of a line
abbrev pub heard_by : Report → CourseView → (ℕ → Bool) → ReportLine → List ReportLine → List SaidView
heard_by report c reached (lines.Event e) behind = heard_of report reached (reaching c (lines.Event e) behind)
heard_by report c reached (lines.Outcome (outcomes.Post payload by bytes)) behind = heard_put (carried_at report payload)
heard_by report c reached _ behind = []

-- ---- which lines become due

-- the line of a payload that doesn't open
abbrev pub closed_lines : Option Carried → List Outcome
closed_lines (Some (unopened word)) = outcomes.Unopened word ∷ []
closed_lines (Some (a_submission said)) = []
closed_lines (Some (a_statement said)) = []
closed_lines (Some (a_certificate b)) = []
closed_lines (Some a_challenge) = []
closed_lines None = []

-- V2: at an honest member a payload that doesn't open is told as such
abbrev pub OpensDelivery : Report → Option Flying → List Outcome → Type 0
OpensDelivery report None opened = opened ≡ []
OpensDelivery report (Some f) opened =
    (IsHonest report.corrupt f.to × (opened ≡ closed_lines (carried_at report f.payload))) ⊎ (Contains report.corrupt f.to × (opened ≡ []))

-- which lines an event makes due
abbrev pub OpensEvent : Report → CourseView → Known → EventLine → List Outcome → Type 0
OpensEvent report c f (events.Deliver id) opened = OpensDelivery report (c.flight id) opened
OpensEvent report c f (events.Judge r k) opened = IsJudgedSo report.roster f.chain f.heard r k opened
OpensEvent report c f _ opened = opened ≡ []

-- the body of the certificate that a line tells of
abbrev pub told_of : Report → CourseView → Outcome → List ReportLine → Option Body
told_of report c (outcomes.Certified server r) behind = certificate_in report r (puts_next c server behind)
told_of report c (outcomes.Held m r) behind = certificate_in report r (delivered_to c.scene m)
told_of report c _ behind = None

-- V5: which lines of a round are told under a certificate with this body, if there is one
abbrev pub TellsBody : ChainView → (ℕ → Bool) → Option Body → (ℕ → Bool) → List Outcome → Type 0
TellsBody chain old None new opened = (new ≡ old) × (opened ≡ [])
TellsBody chain old (Some b) new opened = TellsRound chain old b new opened

-- which lines a line makes due, where the run's certificates are then these
abbrev pub Opens : Report → CourseView → Known → ReportLine → List ReportLine → ChainView → (ℕ → Bool) → List Outcome → Type 0
Opens report c f (lines.Event e) behind chain told opened = (told ≡ f.told) × OpensEvent report c f e opened
Opens report c f (lines.Outcome o) behind chain told opened = TellsBody chain f.told (told_of report c o behind) told opened
Opens report c f _ behind chain told opened = (told ≡ f.told) × (opened ≡ [])

-- what a line, behind which these lines stand, adds to what is known
pub record Adds (report : Report) (c : CourseView) (f : Known) (l : ReportLine) (behind : List ReportLine) (g : Known) : Type 0 where
  pub chain : IsGiven f.chain (given report c l behind) g.chain
  pub reached : g.reached ≡ with_reached (reaching c l behind) f.reached
  pub heard : g.heard ≡ f.heard ++ heard_by report c f.reached l behind
  pub opened : List Outcome
  pub opens : Opens report c f l behind g.chain g.told opened
  pub due : g.due ≡ f.due ++ opened

-- the line that was due is due no more
abbrev pub without_first : Known → Known
without_first f = record f { due = drop 1 f.due }

-- what is known behind a line
abbrev pub GoesOn : Report → CourseView → Known → ReportLine → List ReportLine → Known → Type 0
GoesOn report c f l behind g = Adds report c (without_first f) l behind g
