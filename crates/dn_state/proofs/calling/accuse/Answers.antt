use Rattle.std.proofs.Common.{rules, ◌≡◌, ℕ, [], ◌∷◌, refl, sym, subst, ◌∙◌}
use Rattle.std.specs.Prelude.{Result, Ok, Err}
use Rattle.std.specs.Global.{Vec}
use Rattle.std.proofs.lemmas.List.{append-nil}
use Rattle.std.proofs.lemmas.Result.{IfOk-weaker}
use Rattle.dn_client.specs.declared.accusing.AccuseFault.{AccuseFault}
use Rattle.dn_report.specs.declared.outcome.Outcome.TheVariants as outcomes
use Rattle.dn_state.specs.Inside.{parts_of}
use Rattle.dn_state.specs.Members.{Turns}
use Rattle.dn_state.specs.Calling.{GivesAccusation, AccusesAt}
use Rattle.dn_state.proofs.ClientLemmas.{accuses_given, accuses_none, declines_given}
use Rattle.dn_state.proofs.calling.accuse.Goals as goal

pub returns-in_default-clause-accuses : goal.returns-in_default-clause-accuses
returns-in_default-clause-accuses c =
    let old = parts_of c.state.inside in
    let new = parts_of record c.state.inside { clients = c.accusation_of.new.clients } in
    let i = c.args.client in
    let r = c.args.r in
    let k = c.args.k in (
      [],
      subst (λ v. AccusesAt i r k v new []) c.state.view_is (accuses_none old i c.accusation_of.new.clients.items new [] r k c.in_default.ensures refl refl),
      sym (append-nil c.args.outcomes.now.items),
    )

pub returns-in-Ok-clause-accuses : goal.returns-in-Ok-clause-accuses
returns-in-Ok-clause-accuses c =
    let old = parts_of c.state.inside in
    let new = c.put_to_servers.new.state in
    let i = c.args.client in
    let r = c.args.r in
    let k = c.args.k in
    let v = c.in-Ok.envelope in
    let clients = c.accusation_of.new.clients.items in
    let is : c.in-Some.given ≡ Ok v = search rules in
    let turns =
    subst (λ (given : Result (Vec ℕ) AccuseFault). Turns old.clients clients i.0 (λ before after. GivesAccusation r k before given after)) is c.in-Some.ensures in
    IfOk-weaker c.put_to_servers.result _ _
    (λ _ done. (done.0, subst (λ x. AccusesAt i r k x new done.0) c.state.view_is (accuses_given old i clients new done.0 r k v turns done.1), done.2))
    c.put_to_servers.ensures.puts

pub returns-in-Err-clause-accuses : goal.returns-in-Err-clause-accuses
returns-in-Err-clause-accuses c =
    let old = parts_of c.state.inside in
    let new = parts_of record c.state.inside { clients = c.accusation_of.new.clients } in
    let i = c.args.client in
    let r = c.args.r in
    let k = c.args.k in
    let f = c.in-Err.fault in
    let clients = c.accusation_of.new.clients.items in
    let is : c.in-Some.given ≡ Err f = search rules in
    let turns =
    subst (λ (given : Result (Vec ℕ) AccuseFault). Turns old.clients clients i.0 (λ before after. GivesAccusation r k before given after)) is c.in-Some.ensures in
    IfOk-weaker c.ignore.result _ _
    (λ _ done. (
      outcomes.Ignored done.0 ∷ [],
      subst (λ x. AccusesAt i r k x new (outcomes.Ignored done.0 ∷ [])) c.state.view_is
          (declines_given old i clients new (outcomes.Ignored done.0 ∷ []) r k f done.0 turns (sym c.accuse_word.ensures ∙ done.1) refl refl),
      done.2,
    ))
    c.ignore.ensures
