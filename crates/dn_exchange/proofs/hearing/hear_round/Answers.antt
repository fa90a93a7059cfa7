use Rattle.std.proofs.Common.{rules, ◌≢◌, ◌∙◌, ◌∷◌, [], ap, sym}
use Rattle.std.proofs.lemmas.Result.{IfOk-weaker}
use Rattle.dn_records.specs.Records.{kind_byte, statement_bytes}
use Rattle.dn_server.specs.declared.act.Act.TheVariants as acts
use Rattle.dn_server.specs.declared.act.SpoilReason.TheVariants as reasons
use Rattle.dn_server.specs.Answers.{does}
use Rattle.dn_server.specs.Server.{kept_of}
use Rattle.dn_server.specs.Parts.{live}
use Rattle.dn_rounds.proofs.CertifyLemmas.{if_both}
use Rattle.dn_exchange.specs.Hearing.{HearsRound}
use Rattle.dn_exchange.proofs.HearLemmas.{heard_so, second_so, same_round}
use Rattle.dn_exchange.proofs.hearing.hear_round.Goals as goal

pub returns-in_default : goal.returns-in_default
returns-in_default g c =
    let p = c.args.parts.now in
    let j = c.args.j.0 in
    let kind_is = c.kind_of.ensures ∙ ap kind_byte c.statement.ensures.value in
    let same = same_round c.args.r p.run.r c.if-parts-r.false c.if-r-parts.false in
    let none = sym (ap (λ k. kept_of p.run.kept k j) kind_is) ∙ c.in_default.ensures in
    IfOk-weaker c.keep.result _ _ (λ a k. heard_so (live p) j c.args.r c.args.said.now a (live c.keep.new.parts) same c.if-not-parts.false none k) c.keep.ensures

pub returns : goal.returns
returns g c =
    let p = c.args.parts.now in
    let j = c.args.j.0 in
    let kept = c.in-Some.kept.now in
    let said = c.args.said.now in
    let kind_is = c.kind_of.ensures ∙ ap kind_byte c.statement.ensures.value in
    let same = same_round c.args.r p.run.r c.if-parts-r.false c.if-r-parts.false in
    let there = sym (ap (λ k. kept_of p.run.kept k j) kind_is) ∙ c.in-Some.ensures in
    let differs : kept.statement ≢ said.statement = search rules in
    let first = c.in_ok-first.ensures ∙ ap statement_bytes c.statement-4.ensures.value in
    let second = c.in_ok-second.ensures ∙ ap statement_bytes c.statement-5.ensures.value in
    if_both c.spoil_twice.result _ _ (λ a. HearsRound (live p) j c.args.r said a (live c.spoil_twice.new.parts))
    (λ a after told. second_so (live p) j c.args.r said kept a (live c.spoil_twice.new.parts) same c.if-not-parts.false there differs
    (told ∙ (λ i. does (acts.Spoiled c.args.j reasons.Twice (first i) (second i) ∷ []))) (ap live after))
    c.spoil_twice.ensures.after c.spoil_twice.ensures.told

pub keep-requires : goal.keep-requires
keep-requires g c =
    let p = c.args.parts.now in
    let j = c.args.j.0 in
    let kind_is = c.kind_of.ensures ∙ ap kind_byte c.statement.ensures.value in
    let same = same_round c.args.r p.run.r c.if-parts-r.false c.if-r-parts.false in
    let none = sym (ap (λ k. kept_of p.run.kept k j) kind_is) ∙ c.in_default.ensures in
    (search rules, (same, (c.requires.same, (search rules, (none, c.requires.can same)))))
