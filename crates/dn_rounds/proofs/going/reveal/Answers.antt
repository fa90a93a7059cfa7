use Rattle.std.proofs.Common.{◌∙◌, ℕ, Bool, length, ap, subst, sym, refl}
use Rattle.dn_record_types.specs.declared.statement.Statement.{Statement}
use Rattle.dn_roster.specs.Roster.{RosterView}
use Rattle.dn_server.specs.declared.run.Stage.TheVariants as stages
use Rattle.dn_server.specs.Keeping.{IsMissing, HasAll}
use Rattle.dn_rounds.specs.Going.{IsRevealDue}
use Rattle.dn_server.specs.Parts.{live}
use Rattle.dn_rounds.specs.Sound.{Stepped, Became}
use Rattle.dn_rounds.proofs.StepLemmas.{waits_for_commits, reveal_stepped, commits_kept}
use Rattle.dn_rounds.proofs.going.reveal.Goals as goal

pub returns-then-not-is_full : goal.returns-then-not-is_full
returns-then-not-is_full c =
    let p = c.args.parts.now in
    let n = c.servers-n.ensures.value ∙ ap (λ (r : RosterView). length r.servers) c.roster.ensures.value in
    let missing = subst (λ (k : ℕ). IsMissing 4 p.run.kept k) n (c.is_full.ensures.missing c.if-not-is_full.true) in
    (refl, refl, waits_for_commits (live p) c.requires.stage missing)

pub returns : goal.returns
returns c =
    let p = c.args.parts.now in
    let n = c.servers-n.ensures.value ∙ ap (λ (r : RosterView). length r.servers) c.roster.ensures.value in
    let full = subst (λ (k : ℕ). HasAll 4 p.run.kept k) n (c.is_full.ensures.full c.if-not-is_full.false) in
    let digests = commits_kept p.run.r p.run.kept _ c.requires.sound.round full in
    let value = c.in_ok-s.ensures.value in
    let due : IsRevealDue (live p) value.0 = record { stage = c.requires.stage; digests = digests.0; kept = digests.1; has = value.1 } in
    let became = subst (λ (s : Statement). Became s stages.Revealed p c.say_due.new.parts c.args.acts.now.items c.say_due.new.acts.items c.in_ok-due.due) value.2 c.in_ok-due.ensures in
    subst (λ (b : Bool). Stepped p c.say_due.new.parts c.args.acts.now.items c.say_due.new.acts.items b) (sym c.has_moved.ensures)
    (reveal_stepped p c.say_due.new.parts c.args.acts.now.items c.say_due.new.acts.items value.0 due c.in_ok-due.due became)
