-- Each step of a world goes on in the run.
use Rattle.std.proofs.Common.{◌≡◌, ℕ, ◌<◌, length, List, [], refl, sym, subst, ◌∙◌, inl, false}
use Rattle.std.specs.Prelude.{Some, None}
use Rattle.dn_wire.specs.declared.bytes.Bytes.{Bytes}
use Rattle.dn_wire.specs.declared.ids.ClientId.{ClientId}
use Rattle.dn_wire.specs.declared.ids.ServerId.{ServerId}
use Rattle.dn_wire.specs.declared.ids.Member.{Member}
use Rattle.dn_wire.specs.declared.ids.Member.TheVariants as members
use Rattle.dn_flight.specs.declared.msg.Msg.{Msg}
use Rattle.dn_flight.specs.Flight.{with_id}
use Rattle.dn_report.specs.declared.event.Event.{Event}
use Rattle.dn_report.specs.declared.event.Event.TheVariants as events
use Rattle.dn_report.specs.declared.outcome.Outcome.{Outcome}
use Rattle.dn_report.specs.declared.outcome.Outcome.TheVariants as outcomes
use Rattle.dn_report.specs.declared.words.IgnoredWord.TheVariants as ignored
use Rattle.dn_state.specs.Parts.{PartsView}
use Rattle.dn_state.specs.Events.{IsWithinLimits}
use Rattle.dn_state.specs.Delivering.{Delivers, Reaches, unopened_at}
use Rattle.dn_state.specs.Delivering.Delivers.{finds_none, is_taken, is_unopened, reaches}
use Rattle.dn_state.specs.Steps.{Steps}
use Rattle.dn_state.specs.Calling.SaysText.{says, rests}
use Rattle.dn_headline.specs.Run.{RunView, PlainMade}
use Rattle.dn_steps.specs.Tied.{IsTied}
use Rattle.dn_steps.specs.Goes.{GoesOn}
use Rattle.dn_steps.proofs.Runs.{next_run}
use Rattle.dn_steps.proofs.Unputting.{AreUnput, none_unput, one_unput}
use Rattle.dn_steps.proofs.Losing.{lost_is_tied}
use Rattle.dn_steps.proofs.Injecting.{injected_is_tied, injected_fronts}
use Rattle.dn_steps.proofs.Judging.{judged_is_tied, of_judge}
use Rattle.dn_steps.proofs.Taking.{delivering, taken_by_corrupt, unopened_is_tied, nothing_arrives}
use Rattle.dn_steps.proofs.Saying.{said_is_tied}
use Rattle.dn_steps.proofs.Leaving.{left_is_tied}
use Rattle.dn_steps.proofs.Submitting.{submit_is_tied, submit_fronts}
use Rattle.dn_steps.proofs.Accusing.{accuse_is_tied, accuse_fronts}
use Rattle.dn_steps.proofs.ReachingClients.{client_reached_is_tied}
use Rattle.dn_steps.proofs.ClientFronts.{client_reached_fronts}
use Rattle.dn_steps.proofs.ServerFronts.{open_fronts, abandon_fronts}
use Rattle.dn_steps.proofs.GoingOn.{goes_on, goes_unput}
use Rattle.dn_steps.proofs.ServersReached.{server_reached_goes_on}
use Rattle.dn_steps.proofs.ServerEvents.{open_is_tied, abandon_is_tied}
use Rattle.dn_steps.proofs.ServedEvents.{RunGoesOn}
use Rattle.dn_steps.proofs.ClosingEvents.{close_goes_on}
use Rattle.dn_steps.proofs.Ticking.{tick_goes_on}

-- ---- messages

reached_so : (w : RunView) (old new : PartsView) (id : ℕ) (m : Msg) (lines : List Outcome) (tied : IsTied w old) → with_id id old.flight.msgs ≡ Some m
    → unopened_at old m.payload ≡ None → (to : Member) → m.to ≡ to → Reaches m to old new lines → RunGoesOn w (events.Deliver id) lines new
reached_so w old new id m lines tied found opens (members.Client i) is h =
    goes_on w (events.Deliver id) lines w.plains new (client_reached_fronts w old id m tied found i is new lines h) (client_reached_is_tied w old id m tied found i is new lines h)
reached_so w old new id m lines tied found opens (members.Server j) is h = server_reached_goes_on w old id m tied found j is opens new lines h

delivered_goes_on : (w : RunView) (old new : PartsView) (id : ℕ) (lines : List Outcome) → IsTied w old
    → Delivers id old new lines → RunGoesOn w (events.Deliver id) lines new
delivered_goes_on w old new id lines tied (finds_none none tells) =
    goes_unput w (events.Deliver id) lines new (one_unput (outcomes.Ignored ignored.None) lines tells.1 refl) (nothing_arrives w old new id lines tied tells)
delivered_goes_on w old new id lines tied (is_taken m taken found marked takes tells) =
    goes_unput w (events.Deliver id) lines new (one_unput outcomes.Taken lines tells.1 refl) (taken_by_corrupt w old id m tied found marked taken new lines takes tells)
delivered_goes_on w old new id lines tied (is_unopened m word found honest why tells) =
    goes_unput w (events.Deliver id) lines new (one_unput (outcomes.Unopened word) lines tells.1 refl) (unopened_is_tied w old id m tied found word why new lines tells)
delivered_goes_on w old new id lines tied (reaches m found honest opens reach) =
    reached_so w old new id m lines tied found opens m.to refl reach

-- ---- all of them

said_unput : (i : ClientId) (text : Bytes) (old new : PartsView) (lines : List Outcome) → Steps (events.Say i text) old new lines → AreUnput lines
said_unput i text old new lines (says before at h) = none_unput lines h.1
said_unput i text old new lines (rests none h) = none_unput lines h.1

pub step_goes_on : (w : RunView) (old new : PartsView) (event : Event) (lines : List Outcome) → IsTied w old → IsWithinLimits event
    → Steps event old new lines → RunGoesOn w event lines new
step_goes_on w old new (events.Say i text) lines tied short step =
    goes_unput w (events.Say i text) lines new (said_unput i text old new lines step) (said_is_tied w old new i text tied short lines step)
step_goes_on w old new (events.OpenRound j r) lines tied limits step =
    goes_on w (events.OpenRound j r) lines w.plains new (open_fronts w old new j lines r step) (open_is_tied w old new j lines tied r step)
step_goes_on w old new (events.Close j) lines tied limits step = close_goes_on w old new j lines tied step
step_goes_on w old new (events.Abandon j) lines tied limits step =
    goes_on w (events.Abandon j) lines w.plains new (abandon_fronts w old new j lines step) (abandon_is_tied w old new j lines tied step)
step_goes_on w old new (events.Submit i j r) lines tied limits step =
    let so = submit_is_tied w old new i j r lines tied step in
    goes_on w (events.Submit i j r) lines so.0 new (submit_fronts w old new i j r lines tied step so.0) so.1
step_goes_on w old new (events.Deliver id) lines tied limits step = delivered_goes_on w old new id lines tied step
step_goes_on w old new (events.Lose id) lines tied limits step =
    goes_unput w (events.Lose id) lines new (none_unput lines step.1)
    (subst (λ (os : List Outcome). IsTied (next_run w (record { event = events.Lose id; outcomes = os }) w.plains w.sums) new) (sym step.1) (lost_is_tied w old new id tied step.0))
step_goes_on w old new events.Tick lines tied limits step = tick_goes_on w old new lines tied step
step_goes_on w old new (events.Leave i) lines tied limits step =
    goes_unput w (events.Leave i) lines new (one_unput _ lines step.1 refl) (left_is_tied w old new i lines tied step)
step_goes_on w old new (events.Accuse i r k) lines tied limits step =
    goes_on w (events.Accuse i r k) lines w.plains new (accuse_fronts w old new i r k lines tied step) (accuse_is_tied w old new i r k lines tied step)
step_goes_on w old new (events.Judge r k) lines tied limits step =
    goes_unput w (events.Judge r k) lines new (λ o there. (of_judge old r k lines step.1 o there).0) (judged_is_tied w old new r k lines tied step.1 step.0)
step_goes_on w old new (events.Inject from to payload) lines tied limits step =
    goes_on w (events.Inject from to payload) lines w.plains new (injected_fronts w old new from to payload lines tied step) (injected_is_tied w old new from to payload lines tied step)

pub step_is_tied : (w : RunView) (old new : PartsView) (event : Event) (lines : List Outcome) → IsTied w old → IsWithinLimits event
    → Steps event old new lines → GoesOn w event lines new
step_is_tied w old new event lines tied limits step = (step_goes_on w old new event lines tied limits step).goes
