-- A server is to close its window, by an event.
use Rattle.std.proofs.Common.{◌≡◌, List, [], ◌∷◌, ◌++◌, refl, sym, ap, subst, ◌∙◌, inl, true, false}
use Rattle.std.specs.Prelude.{Contains, Some, None}
use Rattle.dn_wire.specs.declared.ids.ServerId.{ServerId}
use Rattle.dn_record_types.specs.declared.statement.Statement.{Statement}
use Rattle.dn_audit.specs.Auditor.{AuditorView}
use Rattle.dn_server.specs.declared.act.Act.{Act}
use Rattle.dn_server.specs.declared.answer.Answer.{Answer}
use Rattle.dn_server.specs.declared.answer.Answer.TheVariants as answers
use Rattle.dn_server.specs.declared.answer.Reason.{Reason}
use Rattle.dn_server.specs.declared.answer.Reason.TheVariants as reasons
use Rattle.dn_server.specs.Server.{ServerView}
use Rattle.dn_exchange.specs.Closing.{Shuts}
use Rattle.dn_exchange.specs.Closing.Shuts.{is_shut, closes_now}
use Rattle.dn_exchange.specs.Spoiling.{TellsDueBodies}
use Rattle.dn_report.specs.declared.event.Event.{Event}
use Rattle.dn_report.specs.declared.event.Event.TheVariants as events
use Rattle.dn_report.specs.declared.outcome.Outcome.{Outcome}
use Rattle.dn_report.specs.declared.outcome.Outcome.TheVariants as outcomes
use Rattle.dn_state.specs.declared.calling.Call.TheVariants as called
use Rattle.dn_state.specs.Parts.{PartsView}
use Rattle.dn_state.specs.Members.{server_at}
use Rattle.dn_state.specs.Words.{ignored_word_of}
use Rattle.dn_state.specs.Doing.{InTurn}
use Rattle.dn_state.specs.Acting.{Acts, ComesOf}
use Rattle.dn_state.specs.Calling.{CallsServer, IsCalled, IsAnswerTo, KeepsRules, AreDue}
use Rattle.dn_state.specs.Calling.CallsServer.{calls, rests}
use Rattle.dn_headline.specs.Group.{GroupView, IsHonestServer}
use Rattle.dn_headline.specs.Log.{Log}
use Rattle.dn_headline.specs.Run.{RunView, log}
use Rattle.dn_steps.specs.Fitting.{FitsLog}
use Rattle.dn_steps.specs.Tied.{IsTied, IsServerTied}
use Rattle.dn_steps.proofs.Members.{server_is_honest, server_core_is}
use Rattle.dn_steps.proofs.Runs.{next_run, log_next, unput_lines}
use Rattle.dn_wire.specs.declared.ids.Member.TheVariants as members
use Rattle.dn_cert.proofs.Orders.{nothing}
use Rattle.dn_steps.proofs.Idle.{IsCalm, no_lines, idle_is_tied}
use Rattle.dn_steps.proofs.Taking.{IsPlain}
use Rattle.dn_steps.proofs.ReachingServers.{reason_taken}
use Rattle.dn_steps.proofs.ServerSteps.{with_core}
use Rattle.dn_steps.proofs.Acting.{ActsSo, plain_so}
use Rattle.dn_steps.proofs.Carrying.{carried_so}
use Rattle.dn_steps.proofs.InRound.{ActsInRound}
use Rattle.dn_steps.proofs.Closing.{CallInRound, closes_so, window_so}
use Rattle.dn_steps.proofs.ServedEvents.{RunGoesOn, nothing_new, event_goes_on}

-- the line of a call that is ignored tells nothing of servers
pub ignored_plain : (reason : Reason) → IsPlain (outcomes.Ignored (ignored_word_of reason))
ignored_plain reason = record { quiet = refl; unput = refl; taken = reason_taken reason; blames = refl }

closing_is_calm : (j : ServerId) → IsCalm (events.Close j)
closing_is_calm j = record { removes = λ l os. refl; delivers = λ id e. absurd cc; judges = λ q k e. absurd cc }

-- a core that isn't changed by its call
pub rests_in_round : (w : RunView) (j : ServerId) (c : ServerView) → CallInRound w j c [] c
rests_in_round w j c = window_so w j c c.run.window (λ h. h)

-- the core before a call
pub core_tied : (w : RunView) (old : PartsView) (tied : IsTied w old) (j : ServerId) (c : ServerView) → server_at old j ≡ Some c → IsServerTied w j c
core_tied w old tied j c at_c = subst (IsServerTied w j) (server_core_is old j c at_c) (tied.servers j (server_is_honest w old tied j c at_c))

-- the parts with another core fit the log as before
pub core_fits : (g : GroupView) (l : Log) (old : PartsView) (j : ServerId) (d : ServerView) (auditor : AuditorView) → FitsLog g l old → FitsLog g l (with_core old j d auditor)
core_fits g l old j d auditor fits = record { payloads = fits.payloads; flight = fits.flight; chain = fits.chain; heard = fits.heard }

module _ (w : RunView) (old new : PartsView) (j : ServerId) (lines : List Outcome) (tied : IsTied w old) where
  goes_so : (c : ServerView) (at_c : server_at old j ≡ Some c) (h : IsCalled j (IsAnswerTo called.Close) c old new lines) → Shuts c h.answer h.after → AreDue h.after h.answer
      → RunGoesOn w (events.Close j) lines new
  goes_so c at_c h (is_shut closed is same) due =
      let does = subst (λ (a : Answer). ComesOf j h.after.run.r a (with_core old j h.after h.auditor) new lines) is h.does in
      let rest = subst (λ (z : ServerView). CallInRound w j c [] z) (sym same) (rests_in_round w j c) in
      event_goes_on w old (events.Close j) lines tied (closing_is_calm j) (λ i x. refl) j refl refl c at_c h.after h.auditor h.rules [] rest.fresh rest.does new
      (plain_so w.group j h.after.run.r _ (log w) (with_core old j h.after h.auditor) new lines (core_fits w.group (log w) old j h.after h.auditor tied.fits) (ignored_plain reasons.Shut) does.0 does.1)
  goes_so c at_c h (closes_now did open_window closes is) due =
      let core = core_tied w old tied j c at_c in
      let straight = h.rules.bent ∙ core.straight in
      let does = subst (λ (a : Answer). ComesOf j h.after.run.r a (with_core old j h.after h.auditor) new lines) is h.does in
      let call = closes_so w j c (server_is_honest w old tied j c at_c).server tied.group.is_roster core open_window (record c.run.window { closed = true }) refl did h.after closes
      (h.rules.disciplined straight) (subst (TellsDueBodies h.after) is (due straight)) in
      event_goes_on w old (events.Close j) lines tied (closing_is_calm j) (λ i x. refl) j refl refl c at_c h.after h.auditor h.rules did call.fresh call.does new
      (carried_so w.group j h.after.run.r did (log w) (with_core old j h.after h.auditor) new lines (core_fits w.group (log w) old j h.after h.auditor tied.fits) tied.group.opens call.carried does)

  pub close_goes_on : CallsServer called.Close j old new lines → RunGoesOn w (events.Close j) lines new
  close_goes_on (calls c at_c h) = goes_so c at_c h h.answered.0 h.answered.1
  close_goes_on (rests none becomes) =
      subst (λ (os : List Outcome). RunGoesOn w (events.Close j) os new) (sym becomes.1)
      (nothing_new w (events.Close j) [] new (idle_is_tied w old (events.Close j) [] tied (closing_is_calm j) no_lines (λ i x. refl) new becomes.0)
      (ap (λ (l : Log). l.puts) (log_next w (record { event = events.Close j; outcomes = [] }) w.plains w.sums ∙ (unput_lines true (members.Server j) (log w) [] (λ o h. absurd (nothing o h))).0)))
