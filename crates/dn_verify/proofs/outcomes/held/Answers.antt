use Rattle.std.proofs.Common.{refl, subst, sym, ap, ◌∙◌}
use Rattle.dn_record_types.specs.declared.body.Body.{Body}
use Rattle.dn_verify.specs.declared.scene.Scene.{Scene}
use Rattle.dn_verify.specs.Kept.{has_mark, known_of}
use Rattle.dn_verify.specs.Known.{certificate_in, delivered_to}
use Rattle.dn_verify.specs.Telling.{TellsRound}
use Rattle.dn_verify.proofs.KnownLemmas.{adds_held}
use Rattle.dn_verify.proofs.outcomes.held.Goals as goal

pub returns-clause-adds : goal.returns-clause-adds
returns-clause-adds c = λ report course behind said are at.
    let t = c.in_ok-tell_round.ensures in
    let new = known_of (record c.args.fold.now { told = c.tell_round.new.told; due = c.tell_round.new.due }) said in
    adds_held report course (known_of c.args.fold.now said) new behind t.0 t.2 c.args.member c.args.r c.in-Some.certificate.now.body
    (ap (λ (s : Scene). certificate_in report c.args.r (delivered_to s c.args.member)) at ∙ c.in-Some.ensures.body report are) refl
    (subst (λ (b : Body). TellsRound c.args.fold.now.chain (has_mark c.args.fold.now.told) b (has_mark c.tell_round.new.told) t.0) c.body.ensures.value t.1) refl refl

pub returns-in_default-clause-rule : goal.returns-in_default-clause-rule
returns-in_default-clause-rule c = λ report course are at. (refl, c.in_default.ensures.rule report course are at)
