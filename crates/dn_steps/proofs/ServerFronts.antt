-- An honest server puts nothing where nothing is said in what reaches it, and none where it is to open a round or to give one up.
use Rattle.std.proofs.Common.{◌≡◌, ℕ, List, [], ◌∷◌, ◌++◌, refl, sym, ap, subst, ◌∙◌, inl, inr}
use Rattle.std.specs.Prelude.{Option, Some, ◌⊎◌}
use Rattle.dn_wire.specs.declared.ids.ServerId.{ServerId}
use Rattle.dn_wire.specs.declared.ids.Round.{Round}
use Rattle.dn_wire.specs.declared.ids.Member.TheVariants as members
use Rattle.dn_record_types.specs.declared.body.Body.{Body}
use Rattle.dn_cert.specs.Certificate.{CertificateView}
use Rattle.dn_cert.specs.declared.opened.Opened.{Opened}
use Rattle.dn_cert.specs.declared.opened.Opened.TheVariants as opened
use Rattle.dn_server.specs.declared.act.Act.{Act}
use Rattle.dn_server.specs.declared.act.Act.TheVariants as acts
use Rattle.dn_server.specs.declared.answer.Answer.{Answer}
use Rattle.dn_server.specs.declared.answer.Answer.TheVariants as answers
use Rattle.dn_server.specs.declared.answer.Reason.{Reason}
use Rattle.dn_server.specs.declared.answer.Reason.TheVariants as reasons
use Rattle.dn_server.specs.Server.{ServerView}
use Rattle.dn_exchange.specs.Opening.{Opens}
use Rattle.dn_exchange.specs.Opening.Opens.{is_old, is_running, is_spent, opens}
use Rattle.dn_exchange.specs.Ending.{Abandons, HoldsOn}
use Rattle.dn_exchange.specs.Ending.Abandons.{is_idle, abandons}
use Rattle.dn_exchange.specs.Ending.HoldsOn.{is_known, has_no_prev, is_off_floor, is_of_other_length, is_held, ends_run}
use Rattle.dn_report.specs.declared.event.Event.TheVariants as events
use Rattle.dn_report.specs.declared.outcome.Outcome.{Outcome}
use Rattle.dn_report.specs.declared.outcome.Outcome.TheVariants as outcomes
use Rattle.dn_flight.specs.declared.msg.Msg.{Msg}
use Rattle.dn_state.specs.declared.calling.Call.TheVariants as called
use Rattle.dn_state.specs.Parts.{PartsView}
use Rattle.dn_state.specs.Words.{ignored_word_of}
use Rattle.dn_state.specs.Acting.{Acts, ComesOf, line_of}
use Rattle.dn_state.specs.Doing.{InTurn}
use Rattle.dn_state.specs.Calling.{CallsServer, IsCalled, IsAnswerTo}
use Rattle.dn_state.specs.Calling.CallsServer.{calls, rests}
use Rattle.dn_state.specs.Delivering.{body_of, opened_at, tells_held, ComesOfMessage, ComesOfReply, ReachesCore, ReachesServer, IsAnswerOn}
use Rattle.dn_state.specs.Delivering.ComesOfMessage.{keeps, does}
use Rattle.dn_state.specs.Delivering.ComesOfReply.{stays, takes}
use Rattle.dn_state.specs.Delivering.ReachesServer.{reaches, passes}
use Rattle.dn_headline.specs.Run.{RunView}
use Rattle.dn_steps.proofs.ReachingServers.{IsUnsaid}
use Rattle.dn_steps.proofs.Runs.{next_run, is_of_put}
use Rattle.dn_steps.proofs.Unputting.{KeepsFronts, AreUnput, none_unput, one_unput, both_unput, body_unput_if, unput_keeps}

-- an act that has a line of its own, which tells of no put
abbrev IsOneLine : Act → Type 0
IsOneLine (acts.Opened r prev) = Unit {0}
IsOneLine (acts.Held r) = Unit {0}
IsOneLine acts.Abandoned = Unit {0}
IsOneLine _ = ⊥

-- nothing is put by the answer
abbrev IsUnputting : Answer → Type 0
IsUnputting answer = ((reason : Reason) × (answer ≡ answers.Ignored reason)) ⊎ ((did : Act) × IsOneLine did × (answer ≡ answers.Acts (did ∷ [])))

one_act : (j : ServerId) (last : Round) (did : Act) (old new : PartsView) (lines : List Outcome) → IsOneLine did → InTurn (Acts j last) (did ∷ []) old new lines → AreUnput lines
one_act j last (acts.Opened r prev) old new lines one h =
    one_unput (outcomes.Opened j r prev) lines (h.told ∙ (λ t. h.begins.1 t ++ h.goes_on.1 t)) refl
one_act j last (acts.Held r) old new lines one h =
    one_unput (outcomes.Held (members.Server j) r) lines (h.told ∙ (λ t. h.begins.1 t ++ h.goes_on.1 t)) refl
one_act j last acts.Abandoned old new lines one h = one_unput (outcomes.Abandoned j last) lines (h.told ∙ (λ t. h.begins.1 t ++ h.goes_on.1 t)) refl
one_act j last (acts.Told client r told) old new lines one h = absurd one
one_act j last (acts.Closed r count) old new lines one h = absurd one
one_act j last (acts.Post to payload) old new lines one h = absurd one
one_act j last (acts.Spoiled by reason kept came) old new lines one h = absurd one
one_act j last (acts.Certified certificate) old new lines one h = absurd one

unput_comes : (j : ServerId) (last : Round) (answer : Answer) (old new : PartsView) (lines : List Outcome) → IsUnputting answer → ComesOf j last answer old new lines → AreUnput lines
unput_comes j last answer old new lines is h =
    elim is [
      | inl ignored ↦
          let tells = subst (λ (a : Answer). ComesOf j last a old new lines) ignored.1 h in
          one_unput (outcomes.Ignored (ignored_word_of ignored.0)) lines tells.1 refl
      | inr one ↦ one_act j last one.0 old new lines one.1 (subst (λ (a : Answer). ComesOf j last a old new lines) one.2 h)
    ]

-- ---- what reaches a server

unput_message : (j : ServerId) (last : Round) (answer : Answer) (body : Option Body) (old new : PartsView) (lines : List Outcome) → IsUnputting answer
    → ComesOfMessage j last answer body old new lines → AreUnput lines
unput_message j last answer body old new lines is (keeps e tells) = one_unput outcomes.Kept lines tells.1 refl
unput_message j last answer body old new lines is (does other out) =
    both_unput out.lines_first out.lines_rest lines out.told (unput_comes j last answer old out.between out.lines_first is out.does)
    (body_unput_if (tells_held out.lines_first) body out.between new out.lines_rest out.tells)

unput_reply : (m : Msg) (j : ServerId) (last : Round) (answer : Answer) (body : Option Body) (old new : PartsView) (lines : List Outcome) → IsUnputting answer
    → ComesOfReply m j last answer body old new lines → AreUnput lines
unput_reply m j last answer body old new lines is (stays e tells) = one_unput outcomes.Early lines tells.1 refl
unput_reply m j last answer body old new lines is (takes other up) = unput_message j last answer body up.heard new lines is up.comes

holds_unputting : (c d : ServerView) (certificate : CertificateView) (answer : Answer) → HoldsOn c certificate answer d → IsUnputting answer
holds_unputting c d certificate answer (is_known r why is same) = inl (reasons.Known, is)
holds_unputting c d certificate answer (has_no_prev prev why is same) = inl (reasons.Prev, is)
holds_unputting c d certificate answer (is_off_floor count last why is same) = inl (reasons.Floor, is)
holds_unputting c d certificate answer (is_of_other_length have need why is same) = inl (reasons.Length, is)
holds_unputting c d certificate answer (is_held can not_running is same) = inr (acts.Held certificate.body.r, tt, is)
holds_unputting c d certificate answer (ends_run can running is same) = inr (acts.Held certificate.body.r, tt, is)

unsaid_unputting : (x : Opened) (c d : ServerView) (answer : Answer) → IsUnsaid x → IsAnswerOn x c answer d → IsUnputting answer
unsaid_unputting (opened.Certificate certificate) c d answer u h = holds_unputting c d certificate answer h
unsaid_unputting (opened.Challenge challenge) c d answer u h = inl (reasons.Kind, h.0)
unsaid_unputting (opened.Submission cipher said) c d answer u h = absurd u
unsaid_unputting (opened.Plain said) c d answer u h = absurd u

pub unsaid_fronts : (w : RunView) (old : PartsView) (id : ℕ) (m : Msg) (j : ServerId) (x : Opened) (c : ServerView) → IsUnsaid x → (new : PartsView) (lines : List Outcome)
    → ReachesCore m j x c old new lines → KeepsFronts w (next_run w (record { event = events.Deliver id; outcomes = lines }) w.plains w.sums)
unsaid_fronts w old id m j x c u new lines core =
    unput_keeps w (events.Deliver id) lines w.plains w.sums
    (unput_reply m j core.last core.answer (body_of x) core.replied new lines (unsaid_unputting x c core.replies.after core.answer u core.replies.answered) core.comes)

-- ---- calls

opens_unputting : (c d : ServerView) (r : Round) (answer : Answer) → Opens c r answer d → IsUnputting answer
opens_unputting c d r answer (is_old why is same) = inl (reasons.Old, is)
opens_unputting c d r answer (is_running fresh on is same) = inl (reasons.Running, is)
opens_unputting c d r answer (is_spent fresh off few is same) = inl (reasons.Spent, is)
opens_unputting c d r answer (opens prev layout fresh off enough latest after is same) = inr (acts.Opened r prev, tt, is)

pub open_fronts : (w : RunView) (old new : PartsView) (j : ServerId) (lines : List Outcome) (r : Round) → CallsServer (called.Open r) j old new lines
    → KeepsFronts w (next_run w (record { event = events.OpenRound j r; outcomes = lines }) w.plains w.sums)
open_fronts w old new j lines r (calls c at_c h) =
    unput_keeps w (events.OpenRound j r) lines w.plains w.sums
    (unput_comes j h.after.run.r h.answer _ new lines (opens_unputting c h.after r h.answer h.answered) h.does)
open_fronts w old new j lines r (rests none becomes) = unput_keeps w (events.OpenRound j r) lines w.plains w.sums (none_unput lines becomes.1)

abandons_unputting : (c d : ServerView) (answer : Answer) → Abandons c answer d → IsUnputting answer
abandons_unputting c d answer (is_idle off is same) = inl (reasons.Idle, is)
abandons_unputting c d answer (abandons on is same) = inr (acts.Abandoned, tt, is)

pub abandon_fronts : (w : RunView) (old new : PartsView) (j : ServerId) (lines : List Outcome) → CallsServer called.Abandon j old new lines
    → KeepsFronts w (next_run w (record { event = events.Abandon j; outcomes = lines }) w.plains w.sums)
abandon_fronts w old new j lines (calls c at_c h) =
    unput_keeps w (events.Abandon j) lines w.plains w.sums
    (unput_comes j h.after.run.r h.answer _ new lines (abandons_unputting c h.after h.answer h.answered) h.does)
abandon_fronts w old new j lines (rests none becomes) = unput_keeps w (events.Abandon j) lines w.plains w.sums (none_unput lines becomes.1)
