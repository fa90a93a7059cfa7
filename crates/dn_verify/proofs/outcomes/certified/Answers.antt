use Rattle.std.proofs.Common.{refl, subst}
use Rattle.dn_record_types.specs.declared.body.Body.{Body}
use Rattle.dn_verify.specs.Kept.{course_of, has_mark, known_of}
use Rattle.dn_verify.specs.Telling.{TellsRound}
use Rattle.dn_verify.proofs.KnownLemmas.{adds_certified}
use Rattle.dn_verify.proofs.outcomes.certified.Goals as goal

pub returns-clause-adds : goal.returns-clause-adds
returns-clause-adds c = λ report behind said are from.
    let t = c.in_ok-tell_round.ensures in
    let new = known_of (record c.args.fold.now { chain = c.give.new.chain; told = c.tell_round.new.told; due = c.tell_round.new.due }) said in
    adds_certified report (course_of c.args.course.now) (known_of c.args.fold.now said) new behind t.0 t.2 c.args.server c.args.r c.in-Some.certificate.now.body
    (c.in-Some.ensures.body report behind are from) c.in_ok-give.ensures
    (subst (λ (b : Body). TellsRound c.give.new.chain (has_mark c.args.fold.now.told) b (has_mark c.tell_round.new.told) t.0) c.body.ensures.value t.1) refl refl

pub returns-in_default-clause-rule : goal.returns-in_default-clause-rule
returns-in_default-clause-rule c = λ report behind are from. (refl, c.in_default.ensures.rule report behind are from)
