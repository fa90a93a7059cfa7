use Rattle.std.proofs.Common.{◌≡◌, ◌<◌, List, [], length, refl, sym, ap, ◌∙◌, subst}
use Rattle.std.specs.Prelude.{Contains}
use Rattle.std.proofs.lemmas.Bool.{false≢true}
use Rattle.std.proofs.lemmas.List.{append-nil}
use Rattle.dn_server.specs.declared.places.Place.{Place}
use Rattle.dn_server.specs.Parts.{live}
use Rattle.dn_server.specs.Server.{servers_in}
use Rattle.dn_openings.specs.Evidence.{HasOpened}
use Rattle.dn_openings.specs.Challenging.{AllOpened, IsCall, LooksAt, waits, with_looked}
use Rattle.dn_openings.proofs.LookLemmas.{calls}
use Rattle.dn_openings.proofs.looking.look_at.Goals as goal

pub returns-then-not-all_opened : goal.returns-then-not-all_opened
returns-then-not-all_opened g c =
    let v = live c.args.parts.now in
    let count : c.servers-n.result ≡ servers_in v = c.servers-n.ensures.value ∙ ap (λ r. length r.servers) c.roster.ensures.value in
    let new : ¬ Contains v.challenged c.args.place =
    λ has. false≢true (sym c.if-is_among.false ∙ c.is_among.ensures.1 (subst (λ l. Contains l c.args.place) (sym c.get.ensures) has)) in
    let some : ¬ AllOpened v c.args.place =
    λ all. false≢true (sym c.if-not-all_opened.true
    ∙ c.all_opened.ensures.1 (λ j lt. subst (λ l. HasOpened l c.args.place j) (sym c.get-2.ensures) (all j (subst (λ n. j < n) count lt)))) in
    ([], sym (append-nil c.args.acts.now.items), waits new some refl refl)

pub returns : goal.returns
returns g c =
    let v = live c.args.parts.now in
    let place = c.args.place in
    let count : c.servers-n.result ≡ servers_in v = c.servers-n.ensures.value ∙ ap (λ r. length r.servers) c.roster.ensures.value in
    let new : ¬ Contains v.challenged c.args.place =
    λ has. false≢true (sym c.if-is_among.false ∙ c.is_among.ensures.1 (subst (λ l. Contains l c.args.place) (sym c.get.ensures) has)) in
    let all : AllOpened v place =
    λ j lt. subst (λ l. HasOpened l place j) c.get-2.ensures
    (c.all_opened.ensures.0 c.if-not-all_opened.false j (subst (λ n. j < n) (sym count) lt)) in
    let done = c.in_ok-challenge.ensures in
    let call : IsCall v.evidence place (servers_in v) c.in_ok-to.to done.0 =
    subst (λ n. IsCall v.evidence place n c.in_ok-to.to done.0) count
    (subst (λ l. IsCall l place c.servers-n.result c.in_ok-to.to done.0) c.get-3.ensures done.2) in
    let looks : LooksAt v place done.0 (with_looked v place) = calls v place c.in_ok-to.to done.0 new all c.in_ok-to.ensures call in
    (done.0, done.1, subst (λ (l : List Place). LooksAt v place done.0 (record v { challenged = l })) (sym c.in_ok-push.ensures) looks)
