-- A run goes on, and its audit knows of it.
use Rattle.std.proofs.Common.{◌≡◌, ℕ, ◌≤◌, List, inl, inr}
use Rattle.std.specs.Prelude.{IsTrue}
use Rattle.dn_wire.specs.declared.ids.ClientId.{ClientId}
use Rattle.dn_wire.specs.declared.ids.Member.{Member}
use Rattle.dn_roster.specs.declared.group.GroupSpec.{GroupSpec}
use Rattle.dn_report.specs.declared.event.Event.{Event}
use Rattle.dn_report.specs.declared.outcome.Outcome.{Outcome}
use Rattle.dn_state.specs.declared.reading.Audit.{Audit}
use Rattle.dn_state.specs.Parts.{PartsView}
use Rattle.dn_state.specs.Events.{IsWithinLimits}
use Rattle.dn_state.specs.Beginning.{Begins}
use Rattle.dn_state.specs.Steps.{Steps}
use Rattle.dn_headline.specs.Clean.{Clean}
use Rattle.dn_headline.specs.Group.{GroupView}
use Rattle.dn_headline.specs.Run.{RunView}
use Rattle.dn_headline.specs.Step.{first_run}
use Rattle.dn_steps.specs.Along.{GoesAlong}
use Rattle.dn_steps.specs.Audited.{IsAudited, AddsOwn, SaysRight}
use Rattle.dn_steps.specs.Dealt.{IsDealtGroup}
use Rattle.dn_steps.specs.Tied.{IsTied}
use Rattle.dn_steps.proofs.AuditBegins.{audit_begins}
use Rattle.dn_steps.proofs.AuditEvents.{audit_goes_on}
use Rattle.dn_steps.proofs.Begun.{tie_begins}
use Rattle.dn_steps.proofs.ServedEvents.{RunGoesOn}
use Rattle.dn_steps.proofs.Stepping.{step_goes_on}

pub along_begins : (group : GroupSpec) (owners : List ClientId) (corrupt : List Member) (workers : ℕ) (g : GroupView) (parts : PartsView) → IsDealtGroup group owners corrupt g
    → Begins group g.roster owners corrupt workers parts → 1 ≤ workers → workers ≤ 16 → IsTied (first_run g) parts × IsAudited (first_run g) parts
along_begins group owners corrupt workers g parts dealt begins some few =
    (tie_begins group owners corrupt workers g parts dealt begins some few, audit_begins group owners corrupt workers g parts dealt begins some few)

-- what is new in a run is of its members' own
adds_own : (w : RunView) (event : Event) (lines : List Outcome) (parts : PartsView) (h : RunGoesOn w event lines parts) → AddsOwn w h.goes.run parts
adds_own w event lines parts h = record {
  fronts = h.fronts;
  grows = h.grows;
  sums = λ m there. elim (h.sums m there) [ inl was ↦ inl was | inr now ↦ inr (record { core = now.0; there = now.2; sum = now.1; has = now.3; is = now.4 }) ];
}

pub goes_along : (w : RunView) (old new : PartsView) (event : Event) (lines : List Outcome) → IsTied w old → IsAudited w old → IsWithinLimits event
    → Steps event old new lines → GoesAlong w event lines new
goes_along w old new event lines tied audited limits step =
    let h = step_goes_on w old new event lines tied limits step in
    record { goes = h.goes; audited = audit_goes_on w old tied audited event new lines step h.goes (adds_own w event lines new h) }

-- where the audit says yes three times, the run is clean
pub says_clean : (w : RunView) (audit : Audit) → SaysRight w audit → IsTrue audit.signed → IsTrue audit.digests → IsTrue audit.honest → Clean w
says_clean w audit right signed digests honest = record { signed = right.signed.0 signed; digests = right.digests.0 digests; honest = right.honest.0 honest }
