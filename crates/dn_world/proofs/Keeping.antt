-- What a world keeps begins as it is made, and stays by each step.
use Rattle.std.proofs.Common.{◌≡◌, ℕ, ◌+◌, ◌<◌, ◌≤◌, List, [], ◌∷◌, ◌++◌, map, length, refl, sym, ap, subst, ◌∙◌, false, true, arith}
use Rattle.std.proofs.lemmas.List.{map-append}
use Rattle.dn_wire.specs.declared.ids.ClientId.{ClientId}
use Rattle.dn_wire.specs.declared.ids.Member.{Member}
use Rattle.dn_lms.specs.Key.{IsKey}
use Rattle.dn_roster.specs.declared.group.GroupSpec.{GroupSpec}
use Rattle.dn_roster.specs.Group.{IsWithinLimits}
use Rattle.dn_roster.specs.Roster.{RosterView}
use Rattle.dn_report.specs.declared.event.Event.{Event}
use Rattle.dn_report.specs.declared.outcome.Outcome.{Outcome}
use Rattle.dn_state.specs.declared.reading.Audit.{Audit}
use Rattle.dn_state.specs.Parts.{PartsView}
use Rattle.dn_state.specs.Auditing.{IsAudit}
use Rattle.dn_state.specs.Events as events
use Rattle.dn_state.specs.Beginning.{Begins}
use Rattle.dn_state.specs.Steps.{Steps}
use Rattle.dn_headline.specs.Group.{GroupView}
use Rattle.dn_headline.specs.Run.{RunView}
use Rattle.dn_headline.specs.Step.{first_run}
use Rattle.dn_steps.specs.Dealt.{IsDealtGroup}
use Rattle.dn_steps.specs.Along.{GoesAlong}
use Rattle.dn_steps.specs.Audited.{SaysRight}
use Rattle.dn_steps.proofs.Along.{along_begins, says_clean}
use Rattle.dn_steps.proofs.Audits.{says_right}
use Rattle.dn_world.specs.declared.step.Step.{Step}
use Rattle.dn_world.specs.Run.{WorldView}
use Rattle.dn_world.specs.Kept.{IsRunOf, IsAlong, IsKept, IsPlayed, Vouches, step_of}
use Rattle.dn_world.proofs.Promising.{keeps_promises}

-- a run with which parts go along keeps the promises
pub kept_along : (v : WorldView) (parts : PartsView) (w : RunView) → IsRunOf v w → IsAlong w parts → IsKept v parts
kept_along v parts w of along = record { run = w; of = of; promises = keeps_promises w _ along.tied.invariant; along = λ unspent. along }

-- a world as it is made
pub kept_as_made : (v : WorldView) (owners : List ClientId) (workers : ℕ) (g : GroupView) (parts : PartsView) → IsDealtGroup v.spec owners v.corrupt g
    → Begins v.spec g.roster owners v.corrupt workers parts → 1 ≤ workers → workers ≤ 16 → v.roster ≡ g.roster → v.history ≡ [] → IsKept v parts
kept_as_made v owners workers g parts dealt begins some few roster history =
    kept_along v parts (first_run g) (record { owners = owners; dealt = dealt; roster = sym roster; history = ap (λ h. map step_of h) (sym history) })
    (let along = along_begins v.spec owners v.corrupt workers g parts dealt begins some few in record { tied = along.0; audited = along.1 })

-- the run has the step more that the world has
same_history : (w : RunView) (v : WorldView) (s : Step) (run : RunView) → w.history ≡ map step_of v.history → run.history ≡ w.history ++ step_of s ∷ []
    → run.history ≡ map step_of (v.history ++ s ∷ [])
same_history w v s run before after = after ∙ ap (λ h. h ++ step_of s ∷ []) before ∙ sym (map-append step_of v.history (s ∷ []))

-- a step more
pub kept_by_step : (v new : WorldView) (w : RunView) (s : Step) (parts : PartsView) → IsRunOf v w → GoesAlong w s.event s.outcomes parts → new.spec ≡ v.spec
    → new.corrupt ≡ v.corrupt → new.roster ≡ v.roster → new.history ≡ v.history ++ s ∷ [] → IsKept new parts
kept_by_step v new w s parts of along spec corrupt roster history =
    let goes = along.goes in
    kept_along new parts goes.run
    (record {
      owners = of.owners;
      dealt =
          subst (λ x. IsDealtGroup x of.owners new.corrupt goes.run.group) (sym spec)
          (subst (λ ms. IsDealtGroup v.spec of.owners ms goes.run.group) (sym corrupt) (subst (λ g. IsDealtGroup v.spec of.owners v.corrupt g) (sym goes.group) of.dealt));
      roster = ap (λ (g : GroupView). g.roster) goes.group ∙ of.roster ∙ sym roster;
      history = same_history w v s goes.run of.history goes.history ∙ ap (λ h. map step_of h) (sym history);
    }) (record { tied = goes.tied; audited = along.audited })

-- after want of memory the facts of the history hold still
pub kept_as_spent : (v : WorldView) (before after : PartsView) → IsKept v before → IsKept (record v { spent = true }) after
kept_as_spent v before after kept = record {
  run = kept.run;
  of = record { owners = kept.of.owners; dealt = kept.of.dealt; roster = kept.of.roster; history = kept.of.history };
  promises = kept.promises;
  along = λ unspent. absurd cc;
}

pub played : (v : WorldView) (parts : PartsView) → IsKept v parts → IsPlayed v
played v parts kept = record { run = kept.run; of = kept.of; promises = kept.promises }

-- ---- the audit

-- the audit of a world that has all that it wanted
pub vouches : (v : WorldView) (parts : PartsView) (audit : Audit) → IsKept v parts → v.spent ≡ false → IsAudit parts audit → Vouches v audit
vouches v parts audit kept unspent is =
    let along = kept.along unspent in
    let right : SaysRight kept.run audit = says_right kept.run parts along.tied along.audited audit is in
    record {
      run = kept.run;
      of = kept.of;
      promises = kept.promises;
      clean = λ yes. says_clean kept.run audit right yes.signed yes.digests yes.honest;
      exact = λ unspent. right;
    }

-- a world that wanted for memory says no three times
pub says_no : (v : WorldView) (parts : PartsView) → IsKept v parts → v.spent ≡ true → Vouches v (record { signed = false; digests = false; honest = false })
says_no v parts kept spent = record {
  run = kept.run;
  of = kept.of;
  promises = kept.promises;
  clean = λ yes. let no : false ≡ true = yes.signed in absurd cc;
  exact = λ unspent. let no = sym unspent ∙ spent in absurd cc;
}
