use Rattle.std.proofs.Common.{◌≡◌, ◌<◌, ℕ, false, length, replicate, sym, ap, ◌∙◌, subst, arith}
use Rattle.std.proofs.lemmas.Bool.{false≢true}
use Rattle.std.proofs.lemmas.Result.{IfOk-weaker}
use Rattle.std.proofs.lemmas.List.Elements.{All-contains}
use Rattle.dn_trace.specs.Trial.{servers_of}
use Rattle.dn_trace.specs.Challenged.{NamesNone, IsOpened, IsChallenged}
use Rattle.dn_trace.specs.Evidence.{Tells}
use Rattle.dn_trace.specs.Openings.{AreOpenings, Differs}
use Rattle.dn_trace.specs.Tables.{clients_of}
use Rattle.dn_trace.proofs.Marking.{tells_same, tells_nothing}
use Rattle.dn_trace.proofs.ChallengedLemmas.{challenged_from, challenged_to, some_opening}
use Rattle.dn_trace.proofs.challenging.challenged.Goals as goal
use Rattle.dn_trace.proofs.challenging.challenged.Goals.{then-not-names+in_ok-openings+in_default, else-not-names}

pub returns-in-Some : goal.returns-in-Some
returns-in-Some c =
    let trial = c.args.case.now in
    let can = c.requires.can in
    let openings = c.in-Some.openings.items in
    let are : AreOpenings trial openings = rw c.in-Some.is at c.in_ok-openings.ensures in
    let named : NamesNone trial = c.requires.none.1 c.if-not-names.true in
    IfOk-weaker c.differing.result
    (λ v. Tells v.items (clients_of trial) (Differs trial c.deref.result.now))
    (λ v. Tells v.items (clients_of trial) (IsChallenged trial))
    (λ v tells.
    let here : Tells v.items (clients_of trial) (Differs trial openings) = subst (λ l. Tells v.items (clients_of trial) (Differs trial l)) c.deref.ensures.value tells in
    tells_same (clients_of trial) (Differs trial openings) (IsChallenged trial) v.items here
    (λ i d. challenged_from trial can openings are named i d)
    (λ i ch.
    let in_roster = All-contains (λ l. (l.client.0 < length trial.roster.clients) × (l.server.0 < servers_of trial)) trial.body.listed ch.row can.listed ch.listed in
    challenged_to trial can openings are named (some_opening openings (omega (arith, in_roster.1, are.size))) i ch))
    c.differing.ensures

pub returns : goal.returns
returns c =
    let trial = c.args.case.now in
    let nobody : (i : ℕ) → ¬ IsChallenged trial i = elim c.if-not-names.branch [
      | then-not-names+in_ok-openings+in_default w ↦
          let closed : (j : ℕ) × (j < servers_of trial) × (¬ IsOpened trial j) = rw w.in_default.is at w.in_ok-openings.ensures in
          (λ i ch. closed.2 (ch.opened closed.0 closed.1))
      | else-not-names w ↦ (λ i ch. false≢true (sym (c.requires.none.0 ch.named) ∙ w.if-not-names.false))
    ] in
    IfOk-weaker c.no_flags.result
    (λ v. v.items ≡ replicate c.clients.result false)
    (λ v. Tells v.items (clients_of trial) (IsChallenged trial))
    (λ v e. subst (λ l. Tells l (clients_of trial) (IsChallenged trial)) (sym (e ∙ ap (λ n. replicate n false) c.clients.ensures)) (tells_nothing (clients_of trial) (IsChallenged trial) nobody))
    c.no_flags.ensures
