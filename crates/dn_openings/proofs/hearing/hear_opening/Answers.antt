use Rattle.std.proofs.Common.{◌≡◌, List, [], ◌∷◌, ◌++◌, map, refl, sym, ap, ◌∙◌, subst}
use Rattle.std.specs.Prelude.{Contains, IsPermutation, filter}
use Rattle.std.proofs.lemmas.Bool.{false≢true}
use Rattle.dn_seal.specs.Said.{SaidView}
use Rattle.dn_cert.specs.Chain.{Holds}
use Rattle.dn_trace.specs.Trial.{Says}
use Rattle.dn_server.specs.declared.answer.Answer.TheVariants as answers
use Rattle.dn_server.specs.declared.places.Place.{Place}
use Rattle.dn_server.specs.Parts.{live}
use Rattle.dn_server.specs.Server.{ServerView}
use Rattle.dn_openings.specs.Evidence.{is_opening, with_evidence}
use Rattle.dn_openings.specs.Challenging.{CanLook, LooksAtAll}
use Rattle.dn_openings.specs.Hearing.{AreTouched, keeps}
use Rattle.dn_openings.proofs.HearLemmas.{touched_can, can_look_kept}
use Rattle.dn_openings.proofs.hearing.hear_opening.Goals as goal

pub look_at_all-requires : goal.look_at_all-requires
look_at_all-requires g c = λ k there.
    let v : ServerView = live c.args.parts.now in
    let said : SaidView = c.args.said.now in
    let place : Place = record { r = c.args.r; k = k } in
    let numbers = c.in_ok-numbers.numbers.items in
    let are = subst (λ s. IsPermutation (map (λ p. p.k) (filter (λ p. is_opening p.r p.k s) v.opened)) numbers) c.statement.ensures.value c.in_ok-numbers.ensures.are in
    let can : CanLook v place = touched_can v c.args.r said.statement numbers k c.requires.can c.requires.opening are (subst (λ l. Contains l k) c.deref.ensures.value there) in
    let kept : c.push.new.self ≡ v.evidence ++ said ∷ [] = c.in_ok-push.ensures ∙ ap (λ x. v.evidence ++ x ∷ []) c.in_ok-copy.ensures.same in
    subst (λ (l : List SaidView). CanLook (record v { evidence = l }) place) (sym kept) (can_look_kept v place said c.requires.under can)

pub returns : goal.returns
returns g c =
    let v : ServerView = live c.args.parts.now in
    let said : SaidView = c.args.said.now in
    let numbers = c.in_ok-numbers.numbers.items in
    let places : List Place = map (λ k. record { r = c.args.r; k = k }) numbers in
    let are = subst (λ s. IsPermutation (map (λ p. p.k) (filter (λ p. is_opening p.r p.k s) v.opened)) numbers) c.statement.ensures.value c.in_ok-numbers.ensures.are in
    let touched : AreTouched v.opened c.args.r said.statement places = record { numbers = numbers; are = are; sorted = c.in_ok-numbers.ensures.sorted; of_round = refl } in
    let holds : Holds v.chain c.args.r.0 = (c.in-Some._body.now, c.in-Some.ensures.body.0, ap (λ r. r.0) c.in-Some.ensures.body.1) in
    let new : ¬ Says v.evidence said.signer said.statement = λ says. false≢true (sym c.if-is_kept.false ∙ c.is_kept.ensures.1 says) in
    let kept : c.push.new.self ≡ v.evidence ++ said ∷ [] = c.in_ok-push.ensures ∙ ap (λ x. v.evidence ++ x ∷ []) c.in_ok-copy.ensures.same in
    let done = c.in_ok-look_at_all.ensures in
    let after : ServerView = live c.look_at_all.new.parts in
    let looks : LooksAtAll (with_evidence v said) places done.0 after =
    subst (λ (l : List SaidView). LooksAtAll (record v { evidence = l }) places done.0 after) kept
    (subst (λ l. LooksAtAll (record v { evidence = c.push.new.self }) (map (λ k. record { r = c.args.r; k = k }) l) done.0 after) c.deref.ensures.value done.2) in
    let did : c.of.result ≡ done.0 = c.of.ensures ∙ done.1 ∙ ap (λ l. l ++ done.0) c.new-acts.ensures.items in
    keeps places done.0 holds new touched looks (ap (λ l. answers.Acts l) did)
