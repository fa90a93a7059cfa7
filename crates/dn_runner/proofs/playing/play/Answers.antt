use Rattle.std.proofs.Common.{◌≡◌, Some, All, length, sym, ap, subst, ◌∙◌}
use Rattle.dn_roster.specs.Group.{IsWithinLimits}
use Rattle.dn_seal.specs.Dealt.{dealt_roster}
use Rattle.dn_state.specs.Events as events
use Rattle.dn_run_report.specs.Report.{PlayedView, events_shown, numbers_below}
use Rattle.dn_runner.specs.Play.{corrupt_of, in_order}
use Rattle.dn_runner.specs.Played.{RunView, Named}
use Rattle.dn_runner.proofs.OrderLemmas.{nothing_in_order}
use Rattle.dn_runner.proofs.TellingLemmas.{tells_run}
use Rattle.dn_runner.proofs.playing.play.Goals as goal

pub invariant_of-run : goal.invariant_of-run
invariant_of-run g c =
    let dealt = c.in_ok-dealt.dealt.dealt.has_roster ∙ ap dealt_roster c.in_ok-dealt.ensures in
    let world = ap (λ w. w.roster) c.in_ok-make.ensures.begun in
    let roster = c.in_ok-copy.ensures in
    record {
      limits = c.in-Some.ensures.1;
      roster_is = roster ∙ dealt;
      world_is = world ∙ sym roster;
      spec_is = ap (λ w. w.spec) c.in_ok-make.ensures.begun ∙ c.in_ok-dealt.ensures;
      puppets_are = c.in_ok-make-2.ensures.roster ∙ sym world;
      order =
          nothing_in_order (record { group = record { spec = c.in-Some.group; corrupt = c.in_ok-make.field-0.corrupt }; history = c.in_ok-make.field-0.history; shown = c.new.result.items })
          (ap (λ w. w.history) c.in_ok-make.ensures.begun) c.new.ensures.items;
    }

pub returns : goal.returns
returns g c =
    let p : PlayedView = c.of.result in
    let of = c.of.ensures.of in
    let audited = c.of.ensures.vouches in
    let group : p.group ≡ c.in-Some.group = ap (λ v. v.group) of in
    let same : c.run.inside.group ≡ c.in-Some.group = ap (λ (v : RunView). v.group.spec) c.run.view_is ∙ ap (λ (n : Named). n.spec) c.run_lines.ensures in
    let named : c.run.inside.world.corrupt ≡ corrupt_of c.args.script.now =
    ap (λ (v : RunView). v.group.corrupt) c.run.view_is ∙ ap (λ (n : Named). n.corrupt) c.run_lines.ensures ∙ ap (λ w. w.corrupt) c.in_ok-make.ensures.begun
    ∙ c.corrupt_of-corrupt.ensures in
    let history = ap (λ v. v.history) of in
    let shows = ap (λ v. v.shown) of in
    record {
      group = c.in-Some.ensures.0 ∙ ap Some (sym group);
      limits = subst IsWithinLimits (sym group) c.in-Some.ensures.1;
      roster = ap (λ v. v.roster) of ∙ c.run.invariant.roster_is ∙ ap dealt_roster (same ∙ sym group);
      corrupt =
          ap (λ v. v.corrupt) of ∙ c.in_ok-corrupt.ensures ∙ ap (λ named. in_order c.in-Some.group named) c.corrupt_of-corrupt.ensures
          ∙ ap (λ g. in_order g (corrupt_of c.args.script.now)) (sym group);
      events = subst (λ h. All (λ s. events.IsWithinLimits s.event) h) (sym history) c.run.invariant.order.events;
      shown = ap events_shown shows ∙ c.run.invariant.order.shown ∙ ap (λ h. numbers_below (length h)) (sym history);
      tells = tells_run c.args.script.now p c.run.inside.world audited (c.run.invariant.spec_is ∙ same ∙ sym group) named history;
    }
