use Rattle.std.proofs.Common.{rules, ◌≡◌, ◌∙◌, ℕ, List, [], refl, sym, ap, subst}
use Rattle.std.proofs.lemmas.List.{append-nil}
use Rattle.std.proofs.lemmas.Result.{IfOk-weaker}
use Rattle.dn_report.specs.declared.event.Event.{Event}
use Rattle.dn_report.specs.declared.event.Event.TheVariants as events
use Rattle.dn_state.specs.Steps.{Steps}
use Rattle.dn_state.proofs.state.State.step.Goals as goal

pub returns-in-Say-clause-steps : goal.returns-in-Say-clause-steps
returns-in-Say-clause-steps g c =
    let named : events.Say c.in-Say.client c.in-Say.text ≡ c.args.event.now = search rules in
    let is = ap (λ (text : List ℕ). events.Say c.in-Say.client text) c.get.ensures ∙ named in
    IfOk-weaker c.say.result _ _
    (λ _ done. ([], subst (λ (e : Event). Steps e c.args.self.now c.say.new.state []) is done, sym (append-nil c.args.outcomes.now.items)))
    c.say.ensures.says

pub returns-in-OpenRound-clause-steps : goal.returns-in-OpenRound-clause-steps
returns-in-OpenRound-clause-steps g c =
    let is : events.OpenRound c.in-OpenRound.server c.in-OpenRound.r ≡ c.args.event.now = search rules in
    IfOk-weaker c.call_server.result _ _
    (λ _ done. (done.0, subst (λ (e : Event). Steps e c.args.self.now c.call_server.new.state done.0) is done.1, done.2))
    c.call_server.ensures.calls

pub returns-in-Close-clause-steps : goal.returns-in-Close-clause-steps
returns-in-Close-clause-steps g c =
    let is : events.Close c.in-Close.server ≡ c.args.event.now = search rules in
    IfOk-weaker c.call_server-in-Close.result _ _
    (λ _ done. (done.0, subst (λ (e : Event). Steps e c.args.self.now c.call_server-in-Close.new.state done.0) is done.1, done.2))
    c.call_server-in-Close.ensures.calls

pub returns-in-Abandon-clause-steps : goal.returns-in-Abandon-clause-steps
returns-in-Abandon-clause-steps g c =
    let is : events.Abandon c.in-Abandon.server ≡ c.args.event.now = search rules in
    IfOk-weaker c.call_server-in-Abandon.result _ _
    (λ _ done. (done.0, subst (λ (e : Event). Steps e c.args.self.now c.call_server-in-Abandon.new.state done.0) is done.1, done.2))
    c.call_server-in-Abandon.ensures.calls

pub returns-in-Submit-clause-steps : goal.returns-in-Submit-clause-steps
returns-in-Submit-clause-steps g c =
    let is : events.Submit c.in-Submit.client c.in-Submit.server c.in-Submit.r ≡ c.args.event.now = search rules in
    IfOk-weaker c.submit.result _ _
    (λ _ done. (done.0, subst (λ (e : Event). Steps e c.args.self.now c.submit.new.state done.0) is done.1, done.2))
    c.submit.ensures.submits

pub returns-in-Deliver-clause-steps : goal.returns-in-Deliver-clause-steps
returns-in-Deliver-clause-steps g c =
    let is : events.Deliver c.in-Deliver.id ≡ c.args.event.now = search rules in
    IfOk-weaker c.deliver.result _ _
    (λ _ done. (done.0, subst (λ (e : Event). Steps e c.args.self.now c.deliver.new.state done.0) is done.1, done.2))
    c.deliver.ensures.delivers

pub returns-in-Leave-clause-steps : goal.returns-in-Leave-clause-steps
returns-in-Leave-clause-steps g c =
    let is : events.Leave c.in-Leave.client ≡ c.args.event.now = search rules in
    IfOk-weaker c.leave.result _ _
    (λ _ done. (done.0, subst (λ (e : Event). Steps e c.args.self.now c.leave.new.state done.0) is done.1, done.2))
    c.leave.ensures.leaves

pub returns-in-Accuse-clause-steps : goal.returns-in-Accuse-clause-steps
returns-in-Accuse-clause-steps g c =
    let is : events.Accuse c.in-Accuse.client c.in-Accuse.r c.in-Accuse.k ≡ c.args.event.now = search rules in
    IfOk-weaker c.accuse.result _ _
    (λ _ done. (done.0, subst (λ (e : Event). Steps e c.args.self.now c.accuse.new.state done.0) is done.1, done.2))
    c.accuse.ensures.accuses

pub returns-in-Tick-clause-steps : goal.returns-in-Tick-clause-steps
returns-in-Tick-clause-steps g c =
    let is : events.Tick ≡ c.args.event.now = search rules in
    IfOk-weaker c.tick.result _ _
    (λ _ done. (done.0, subst (λ (e : Event). Steps e c.args.self.now c.tick.new.state done.0) is done.1, done.2))
    c.tick.ensures.ticks

pub returns-in-Judge-clause-steps : goal.returns-in-Judge-clause-steps
returns-in-Judge-clause-steps g c =
    let is : events.Judge c.in-Judge.r c.in-Judge.k ≡ c.args.event.now = search rules in
    IfOk-weaker c.judge_place.result _ _
    (λ _ done. (done.0, subst (λ (e : Event). Steps e c.args.self.now c.args.self.now done.0) is (refl, done.1), done.2))
    c.judge_place.ensures

pub returns-in-Inject-clause-steps : goal.returns-in-Inject-clause-steps
returns-in-Inject-clause-steps g c =
    let named : events.Inject c.in-Inject.from c.in-Inject.to c.in-Inject.payload ≡ c.args.event.now = search rules in
    let is = ap (λ (bytes : List ℕ). events.Inject c.in-Inject.from c.in-Inject.to bytes) c.get-in-Inject.ensures ∙ named in
    IfOk-weaker c.put.result _ _
    (λ _ done. (done.0, subst (λ (e : Event). Steps e c.args.self.now c.put.new.state done.0) is done.1, done.2))
    c.put.ensures.puts
