-- What an auditor knows stays right in calls of servers: by an event, in a tick, and where a message reaches one.
use Rattle.std.proofs.Common.{◌≡◌, ◌≢◌, ℕ, zero, suc, ◌+◌, ◌≤◌, List, [], ◌∷◌, ◌++◌, length, refl, sym, ap, subst, ◌∙◌, arith, inl, inr, Bool, true, false}
use Rattle.std.specs.Prelude.{Contains, ◌⊎◌, Option, Some, None}
use Rattle.std.specs.List.{range_with_len}
use Rattle.dn_wire.specs.declared.ids.Member.{Member}
use Rattle.dn_wire.specs.declared.ids.Member.TheVariants as members
use Rattle.dn_wire.specs.declared.ids.Round.{Round}
use Rattle.dn_wire.specs.declared.ids.ServerId.{ServerId}
use Rattle.dn_roster.specs.Roster.{IsRoster}
use Rattle.dn_record_types.specs.declared.body.Body.{Body}
use Rattle.dn_seal.specs.Said.{SaidView}
use Rattle.dn_cert.specs.Certificate.{CertificateView}
use Rattle.dn_cert.specs.declared.opened.Opened.{Opened}
use Rattle.dn_cert.specs.declared.opened.Opened.TheVariants as opened
use Rattle.dn_cert.proofs.Orders.{here, nothing}
use Rattle.dn_server.specs.declared.act.Act.{Act}
use Rattle.dn_server.specs.declared.act.Act.TheVariants as acts
use Rattle.dn_server.specs.declared.answer.Answer.{Answer}
use Rattle.dn_server.specs.declared.answer.Answer.TheVariants as answers
use Rattle.dn_server.specs.Server.{ServerView}
use Rattle.dn_exchange.specs.Closing.{Closes, Ticks}
use Rattle.dn_exchange.specs.Closing.Closes.{lists, meets_other, finds_no_leaf}
use Rattle.dn_exchange.specs.Closing.Ticks.{counts, closes_at}
use Rattle.dn_exchange.specs.Ending.{HoldsOn}
use Rattle.dn_exchange.specs.Ending.HoldsOn.{is_known, has_no_prev, is_off_floor, is_of_other_length, is_held, ends_run}
use Rattle.dn_exchange.specs.Hearing.{HearsRound}
use Rattle.dn_exchange.specs.Hearing.HearsRound.{is_early, is_past, is_idle as idle_round, repeats as repeats_round, is_second, is_faulty, goes_on}
use Rattle.dn_exchange.specs.Listening.{Hears, not_by_server, of_round, of_evidence}
use Rattle.dn_exchange.specs.Submitting.{Submitted, Submits, TakesSubmission}
use Rattle.dn_exchange.specs.Submitting.Submits.{is_refused, repeats as repeats_claim, finds_no_leaf as no_leaf, is_claimed}
use Rattle.dn_openings.specs.Accusing.Accuses.{not_signed, not_valid, is_opened, is_spent, opens as opens_place}
use Rattle.dn_openings.specs.Hearing.{HearsEvidence}
use Rattle.dn_openings.specs.Hearing.HearsEvidence.{of_no_use, opening, accusation, answers as answers_it}
use Rattle.dn_openings.specs.Hearing.HearsOpening.{not_held, repeats as repeats_opening, keeps as keeps_opening}
use Rattle.dn_openings.specs.Hearing.HearsAnswer.{repeats_it, keeps_it as keeps_answer}
use Rattle.dn_flight.specs.declared.msg.Msg.{Msg}
use Rattle.dn_audit.specs.Auditor.{AuditorView}
use Rattle.dn_audit.specs.Group.{GroupView as Marked}
use Rattle.dn_report.specs.declared.outcome.Outcome.{Outcome}
use Rattle.dn_report.specs.declared.outcome.Outcome.TheVariants as outcomes
use Rattle.dn_state.specs.declared.calling.Call.{Call}
use Rattle.dn_state.specs.declared.calling.Call.TheVariants as called
use Rattle.dn_state.specs.Parts.{PartsView}
use Rattle.dn_state.specs.Members.{core_at, server_at}
use Rattle.dn_state.specs.Acting.{Acts, ComesOf}
use Rattle.dn_state.specs.Calling.{IsCalled, IsAnswerTo, CallsServer}
use Rattle.dn_state.specs.Calling.CallsServer.{calls, rests}
use Rattle.dn_state.specs.Delivering.{IsAnswerOn, NotesReply, Replies, ComesOfReply, ComesOfMessage, IsHeard, IsHeardIf, TellsBody, TellsBodyIf, tells_held, without_message}
use Rattle.dn_state.specs.Delivering.ComesOfMessage.{keeps as keeps_it, does}
use Rattle.dn_state.specs.Delivering.ComesOfReply.{stays, takes}
use Rattle.dn_state.specs.Doing.{InTurn}
use Rattle.dn_state.specs.Putting.{Puts}
use Rattle.dn_state.specs.Parts.{has}
use Rattle.dn_headline.specs.Group.{GroupView}
use Rattle.dn_headline.specs.Log.{Log, Put, with_outcome, with_outcomes}
use Rattle.dn_headline.specs.Run.{SumMade}
use Rattle.dn_auditing.specs.Known.{MarksKeys}
use Rattle.dn_steps.specs.Audited.{IsSumOf}
use Rattle.dn_steps.proofs.Runs.{is_of_put}
use Rattle.dn_steps.proofs.Acting.{actors_after, outcomes_after}
use Rattle.dn_steps.proofs.AuditPuts.{Keeps, AreOwn, keeps_same}
use Rattle.dn_steps.proofs.AuditActs.{Goes, puts_stay, goes_unput, goes_both, goes_told, one_line, acts_go, answer_goes}
use Rattle.dn_steps.proofs.AuditCalls.{Called, AreTold, IsUncalled, told_still, with_called, other_core, is_called, stays_called}

-- after a part of a step the auditor knows all of what was put, and of the ciphertexts that servers made
pub record Walked (g : GroupView) (marked : Marked) (sums : List SumMade) (log : Log) (new : PartsView) : Type 0 where
  pub made : List SumMade
  pub told : AreTold sums new made
  pub keeps : Keeps g marked made log new

-- the parts are the same
pub walked_same : (g : GroupView) (marked : Marked) (sums : List SumMade) (log : Log) (old new : PartsView) → new ≡ old → Walked g marked sums log old → Walked g marked sums log new
walked_same g marked sums log old new same w = subst (Walked g marked sums log) (sym same) w

-- ---- answers that something is early

not_early_acts : (did : List Act) → answers.Early ≡ answers.Acts did → ⊥
not_early_acts did e = absurd cc

submission_early : (cipher : List Bool) (said : SaidView) (before after : ServerView) → TakesSubmission before said cipher answers.Early after → after ≡ before
submission_early cipher said before after h = by h.0 h.2
  where
    by : (s : Submitted) → Submits before s answers.Early after → after ≡ before
    by s (is_refused refused same) = same
    by s (repeats_claim fits has e same) = same
    by s (no_leaf fits has few e same) = same
    by s (is_claimed fits has few e same) = absurd (not_early_acts _ e)

round_early : (before after : ServerView) (j : ℕ) (r : Round) (said : SaidView) → HearsRound before j r said answers.Early after → after ≡ before
round_early before after j r said (is_early above e same) = same
round_early before after j r said (is_past below e same) = same
round_early before after j r said (idle_round at off e same) = same
round_early before after j r said (repeats_round at on kept e same) = same
round_early before after j r said (is_second other at on kept differs e same) = absurd (not_early_acts _ e)
round_early before after j r said (is_faulty fault at on none has e same) = absurd (not_early_acts _ e)
round_early before after j r said (goes_on did at on none fine on_so e) = absurd (not_early_acts did e)

evidence_early : (before after : ServerView) (said : SaidView) → HearsEvidence before said answers.Early after → after ≡ before
evidence_early before after said (of_no_use useless e same) = same
evidence_early before after said (opening r by is (not_held lacks e same)) = same
evidence_early before after said (opening r by is (repeats_opening holds says e same)) = same
evidence_early before after said (opening r by is (keeps_opening places did holds new touched looks e)) = absurd (not_early_acts did e)
evidence_early before after said (accusation r slot k is (not_signed lacks e same)) = same
evidence_early before after said (accusation r slot k is (not_valid b past layout why accused invalid e same)) = same
evidence_early before after said (accusation r slot k is (is_opened b past layout valid accused holds old e same)) = same
evidence_early before after said (accusation r slot k is (is_spent b past layout valid accused holds new few e same)) = same
evidence_early before after said (accusation r slot k is (opens_place b past layout valid did accused holds new enough o e)) = absurd (not_early_acts did e)
evidence_early before after said (answers_it by is (repeats_it says e same)) = same
evidence_early before after said (answers_it by is (keeps_answer new e same)) = absurd (not_early_acts _ e)

plain_early : (said : SaidView) (before after : ServerView) → Hears before said answers.Early after → after ≡ before
plain_early said before after (not_by_server r round other e same) = same
plain_early said before after (of_round j r by round h) = round_early before after j r said h
plain_early said before after (of_evidence round h) = evidence_early before after said h

certificate_early : (c : CertificateView) (before after : ServerView) → HoldsOn before c answers.Early after → after ≡ before
certificate_early c before after (is_known r why e same) = same
certificate_early c before after (has_no_prev prev why e same) = same
certificate_early c before after (is_off_floor count last why e same) = same
certificate_early c before after (is_of_other_length have need why e same) = same
certificate_early c before after (is_held follows other e same) = absurd (not_early_acts _ e)
certificate_early c before after (ends_run follows running e same) = absurd (not_early_acts _ e)

-- ---- a call

module _ (g : GroupView) (is_roster : IsRoster g.roster) (marked : Marked) (marks : MarksKeys g marked) (sums : List SumMade) where
  -- what was done after a call
  pub walks_on : (actor : Member) (log : Log) (parts new : PartsView) (lines : List Outcome) (made : List SumMade) → AreTold sums parts made
      → Goes g marked made actor log parts new lines → Walked g marked sums (with_outcomes true actor log lines) new
  walks_on actor log parts new lines made told goes = record { made = made; told = told_still sums parts new made goes.servers told; keeps = goes.keeps }

  -- the call of a server by an event
  pub called_walks : (j : ServerId) (before : ServerView) (answers : ServerView → Answer → ServerView → Type 0) (log : Log) (old new : PartsView) (lines : List Outcome)
      → server_at old j ≡ Some before → IsCalled j answers before old new lines → IsUncalled sums old j
      → AreOwn g (with_outcomes true (members.Server j) log lines).puts → Walked g marked sums log old → Walked g marked sums (with_outcomes true (members.Server j) log lines) new
  called_walks j before answers log old new lines at h uncalled are w =
      let c = is_called g marked sums w.made log old j before h.after at uncalled w.told w.keeps h.auditor h.noted in
      let parts = with_called old j h.after h.auditor in
      walks_on (members.Server j) log parts new lines c.now c.told_now
      (answer_goes g is_roster marked marks c.now j h.after.run.r h.answer log parts new lines h.does are c.keeps)

  pub no_lines : (own : Bool) (actor : Member) (log : Log) (old new : PartsView) (lines : List Outcome) → new ≡ old → lines ≡ [] → Walked g marked sums log old
      → Walked g marked sums (with_outcomes own actor log lines) new
  unfolding with_outcomes
  no_lines own actor log old new lines same none w =
      subst (λ os. Walked g marked sums (with_outcomes own actor log os) new) (sym none) (walked_same g marked sums log old new same w)

  pub call_walks : (call : Call) (j : ServerId) (log : Log) (old new : PartsView) (lines : List Outcome) → CallsServer call j old new lines → IsUncalled sums old j
      → AreOwn g (with_outcomes true (members.Server j) log lines).puts → Walked g marked sums log old → Walked g marked sums (with_outcomes true (members.Server j) log lines) new
  call_walks call j log old new lines (calls before at h) uncalled are w = called_walks j before (IsAnswerTo call) log old new lines at h uncalled are w
  call_walks call j log old new lines (rests nobody h) uncalled are w = no_lines true (members.Server j) log old new lines h.0 h.1 w

  -- ---- a tick

  -- in a tick a server does nothing, or closes its window first
  record ClosesFirst (did : List Act) : Type 0 where
    r : Round
    count : ℕ
    more : List Act
    is : did ≡ acts.Closed r count ∷ more

  closes_first : (v : ServerView) (did : List Act) (after : ServerView) → Closes v did after → ClosesFirst did
  closes_first v did after (lists rest free leaf on is) = record { r = v.run.r; count = v.run.window.count; more = _; is = is }
  closes_first v did after (meets_other other free is same) = record { r = v.run.r; count = v.run.window.count; more = _; is = is }
  closes_first v did after (finds_no_leaf free leaf bent is same) = record { r = v.run.r; count = v.run.window.count; more = []; is = is }

  -- what a tick leaves at one server; no other core is another
  record Ticked (j : ServerId) (log : Log) (old new : PartsView) : Type 0 where
    walked : Walked g marked sums log new
    others : (k : ServerId) → k.0 ≢ j.0 → server_at new k ≡ server_at old k

  core_is : (a b : PartsView) → b.servers ≡ a.servers → (k : ServerId) → server_at b k ≡ server_at a k
  core_is a b same k = ap (λ cs. core_at cs k.0) same

  -- by who put last, the server closes first and then puts itself
  closed_walks : (actor : Member) (j : ServerId) (last : Round) (did : List Act) (first : ClosesFirst did) (log : Log) (parts new : PartsView) (lines : List Outcome)
      (made : List SumMade) → InTurn (Acts j last) did parts new lines → AreOwn g (with_outcomes true actor log lines).puts → Keeps g marked made log parts
      → Keeps g marked made (with_outcomes true actor log lines) new × (new.servers ≡ parts.servers)
  unfolding with_outcomes with_outcome
  closed_walks actor j last did first log parts new lines made h are k =
      let turn = subst (λ l. InTurn (Acts j last) l parts new lines) first.is h in
      let line : Outcome = outcomes.Closed j first.r first.count in
      let all : lines ≡ line ∷ turn.lines_rest = turn.told ∙ ap (λ os. os ++ turn.lines_rest) turn.begins.1 in
      let after : with_outcomes true actor log lines ≡ with_outcomes true (members.Server j) log turn.lines_rest = ap (with_outcomes true actor log) all in
      let between = keeps_same g marked made log parts turn.between (ap (λ (x : PartsView). x.payloads) turn.begins.0) (ap (λ (x : PartsView). x.group) turn.begins.0)
      (ap (λ (x : PartsView). x.auditor) turn.begins.0) k in
      let goes = acts_go g is_roster marked marks made j last first.more log turn.between new turn.lines_rest turn.goes_on
      (λ p there. are p (subst (λ (l : Log). Contains l.puts p) (sym after) there)) between in
      (subst (λ l. Keeps g marked made l new) (sym after) goes.keeps, goes.servers ∙ ap (λ (x : PartsView). x.servers) turn.begins.0)

  module _ (actor : Member) (j : ServerId) (before : ServerView) (log : Log) (old new : PartsView) (lines : List Outcome) (at : server_at old j ≡ Some before)
      (h : IsCalled j (IsAnswerTo called.Tick) before old new lines) (uncalled : IsUncalled sums old j) (are : AreOwn g (with_outcomes true actor log lines).puts)
      (w : Walked g marked sums log old) where
    abbrev parts : PartsView
    parts = with_called old j h.after h.auditor

    call : Called g marked sums w.made log old j before h.after at uncalled w.told w.keeps h.auditor
    call = is_called g marked sums w.made log old j before h.after at uncalled w.told w.keeps h.auditor h.noted

    others_of : (x : PartsView) → x.servers ≡ parts.servers → (k : ServerId) → k.0 ≢ j.0 → server_at x k ≡ server_at old k
    others_of x same k other = core_is parts x same k ∙ other_core old j before h.after h.auditor at k other

    by_acts : (did : List Act) → did ≡ [] ⊎ ClosesFirst did → InTurn (Acts j h.after.run.r) did parts new lines → Ticked j (with_outcomes true actor log lines) old new
    by_acts did (inl none) carried =
        let rest = subst (λ l. InTurn (Acts j h.after.run.r) l parts new lines) none carried in
        record {
          walked = no_lines true actor log parts new lines rest.0 rest.1 (record { made = call.now; told = call.told_now; keeps = call.keeps });
          others = others_of new (ap (λ (x : PartsView). x.servers) rest.0);
        }
    by_acts did (inr first) carried =
        let so = closed_walks actor j h.after.run.r did first log parts new lines call.now carried are call.keeps in
        record {
          walked = record { made = call.now; told = told_still sums parts new call.now so.1 call.told_now; keeps = so.0 };
          others = others_of new so.1;
        }

    by_answer : (answer : Answer) → Ticks before answer h.after → ComesOf j h.after.run.r answer parts new lines → Ticked j (with_outcomes true actor log lines) old new
    by_answer answer (counts due is same) carried = by_acts [] (inl refl) (subst (λ a. ComesOf j h.after.run.r a parts new lines) is carried)
    by_answer answer (closes_at did due closes is) carried =
        by_acts did (inr (closes_first _ did h.after closes)) (subst (λ a. ComesOf j h.after.run.r a parts new lines) is carried)

    ticked_walks : Ticked j (with_outcomes true actor log lines) old new
    ticked_walks = by_answer h.answer h.answered.0 h.does

  tick_walks : (actor : Member) (j : ServerId) (log : Log) (old new : PartsView) (lines : List Outcome) → CallsServer called.Tick j old new lines → IsUncalled sums old j
      → AreOwn g (with_outcomes true actor log lines).puts → Walked g marked sums log old → Ticked j (with_outcomes true actor log lines) old new
  tick_walks actor j log old new lines (calls before at h) uncalled are w = ticked_walks actor j before log old new lines at h uncalled are w
  tick_walks actor j log old new lines (rests nobody h) uncalled are w = record {
    walked = no_lines true actor log old new lines h.0 h.1 w;
    others = λ k other. ap (λ (x : PartsView). server_at x k) h.0;
  }

  abbrev numbered : ℕ → ServerId
  numbered j = record { 0 = j }

  -- server by server
  pub ticks_walk : (a n : ℕ) (actor : Member) (log : Log) (old new : PartsView) (lines : List Outcome)
      → InTurn (λ j. CallsServer called.Tick (numbered j)) (range_with_len a n) old new lines → ((k : ServerId) → a ≤ k.0 → IsUncalled sums old k)
      → AreOwn g (with_outcomes true actor log lines).puts → Walked g marked sums log old → Walked g marked sums (with_outcomes true actor log lines) new
  ticks_walk a zero actor log old new lines h uncalled are w = no_lines true actor log old new lines h.0 h.1 w
  ticks_walk a (suc n) actor log old new lines h uncalled are w =
      let mid = with_outcomes true actor log h.lines_first in
      let next = actors_after actor h.lines_first in
      let all : with_outcomes true actor log lines ≡ with_outcomes true next mid h.lines_rest =
      ap (with_outcomes true actor log) h.told ∙ outcomes_after true actor log h.lines_first h.lines_rest in
      let one = tick_walks actor (numbered a) log old h.between h.lines_first h.begins (uncalled (numbered a) (omega arith))
      (λ p there. are p (subst (λ (l : Log). Contains l.puts p) (sym all) (puts_stay true next mid h.lines_rest p there))) w in
      let later : (k : ServerId) → a + 1 ≤ k.0 → IsUncalled sums h.between k =
      λ k above m same sum. uncalled k (omega (arith, above)) m same (record {
        core = sum.core;
        there = sym (one.others m.server (λ e. let number : m.server.0 ≡ k.0 = ap (λ (z : ServerId). z.0) same in omega (arith, e, number, above))) ∙ sum.there;
        sum = sum.sum;
        has = sum.has;
        is = sum.is;
      }) in
      subst (λ l. Walked g marked sums l new) (sym all)
      (ticks_walk (a + 1) n next mid h.between new h.lines_rest h.goes_on later (λ p there. are p (subst (λ (l : Log). Contains l.puts p) (sym all) there)) one.walked)

  -- ---- a message

  heard_same : (p : ℕ) (old new : PartsView) → IsHeard p old new → (made : List SumMade) (log : Log) → Keeps g marked made log old
      → Keeps g marked made log new × (new.servers ≡ old.servers)
  heard_same p old new h made log k = by (has old.delivered p) h
    where
      by : (t : Bool) → IsHeardIf t p old new → Keeps g marked made log new × (new.servers ≡ old.servers)
      by true same = (subst (Keeps g marked made log) (sym same) k, ap (λ (x : PartsView). x.servers) same)
      by false first = (
        keeps_same g marked made log old new (ap (λ (x : PartsView). x.payloads) first) (ap (λ (x : PartsView). x.group) first) (ap (λ (x : PartsView). x.auditor) first) k,
        ap (λ (x : PartsView). x.servers) first,
      )

  -- what a body's round came to is told, where it is
  body_goes : (made : List SumMade) (actor : Member) (log : Log) (body : Option Body) (old new : PartsView) (lines : List Outcome) → TellsBody body old new lines
      → Keeps g marked made log old → Goes g marked made actor log old new lines
  unfolding actors_after
  body_goes made actor log (Some b) old new lines h k = goes_told g is_roster marked marks made actor log old new b lines h k
  body_goes made actor log None old new lines h k =
      subst (λ os. Goes g marked made actor log old new os) (sym h.1)
      (goes_unput g is_roster marked marks made actor log old new [] (ap (λ (x : PartsView). x.payloads) h.0) (ap (λ (x : PartsView). x.group) h.0)
      (ap (λ (x : PartsView). x.auditor) h.0) (ap (λ (x : PartsView). x.servers) h.0) (λ o there. absurd (nothing o there)) refl k)

  pub body_walks : (made : List SumMade) (actor : Member) (log : Log) (body : Option Body) (old new : PartsView) (lines : List Outcome) → TellsBody body old new lines
      → Keeps g marked made log old → Goes g marked made actor log old new lines
  body_walks made actor log body old new lines h k = body_goes made actor log body old new lines h k

  body_goes_if : (t : Bool) (made : List SumMade) (actor : Member) (log : Log) (body : Option Body) (old new : PartsView) (lines : List Outcome) → TellsBodyIf t body old new lines
      → Keeps g marked made log old → Goes g marked made actor log old new lines
  body_goes_if true made actor log body old new lines h k = body_goes made actor log body old new lines h k
  body_goes_if false made actor log body old new lines h k = body_goes made actor log None old new lines h k

  -- what comes of a reply to a message
  reply_goes : (made : List SumMade) (m : Msg) (j : ServerId) (last : Round) (answer : Answer) (body : Option Body) (log : Log) (old new : PartsView) (lines : List Outcome)
      → ComesOfReply m j last answer body old new lines → AreOwn g (with_outcomes true (members.Server j) log lines).puts → Keeps g marked made log old
      → Goes g marked made (members.Server j) log old new lines
  reply_goes made m j last answer body log old new lines (stays early tells) are k =
      one_line g is_roster marked marks made (members.Server j) log old new outcomes.Early lines tells.0 tells.1 refl refl k
  reply_goes made m j last answer body log old new lines (takes late up) are k =
      let gone : PartsView = without_message old m.id in
      let h = heard_same m.payload gone up.heard up.hears made log (keeps_same g marked made log old gone refl refl refl k) in
      let goes = comes up.heard h.0 up.comes in
      record { keeps = goes.keeps; servers = goes.servers ∙ h.1; actor_is = goes.actor_is }
    where
      comes : (heard : PartsView) → Keeps g marked made log heard → ComesOfMessage j last answer body heard new lines → Goes g marked made (members.Server j) log heard new lines
      comes heard keeps (keeps_it nothing_done tells) =
          one_line g is_roster marked marks made (members.Server j) log heard new outcomes.Kept lines tells.0 tells.1 refl refl keeps
      comes heard keeps (does something out) =
          goes_both g is_roster marked marks made (members.Server j) log heard out.between new out.lines_first out.lines_rest lines out.told are
          (λ first. answer_goes g is_roster marked marks made j last answer log heard out.between out.lines_first out.does first keeps)
          (λ l so_far rest. body_goes_if (tells_held out.lines_first) made (members.Server j) l body out.between new out.lines_rest out.tells so_far)

  -- a core that answers that something is early stays as it was
  early_same : (x : Opened) (before after : ServerView) → IsAnswerOn x before answers.Early after → after ≡ before
  early_same (opened.Submission cipher said) before after h = submission_early cipher said before after h
  early_same (opened.Plain said) before after h = plain_early said before after h.0
  early_same (opened.Certificate c) before after h = certificate_early c before after h
  early_same (opened.Challenge c) before after h = h.1

  -- a message reaches a server's core
  pub reached_walks : (m : Msg) (j : ServerId) (x : Opened) (before : ServerView) (answer : Answer) (last : Round) (body : Option Body) (log : Log) (old replied new : PartsView)
      (lines : List Outcome) → server_at old j ≡ Some before → Replies j x before answer last old replied → ComesOfReply m j last answer body replied new lines
      → IsUncalled sums old j → AreOwn g (with_outcomes true (members.Server j) log lines).puts → Walked g marked sums log old
      → Walked g marked sums (with_outcomes true (members.Server j) log lines) new
  reached_walks m j x before answer last body log old replied new lines at h comes uncalled are w = by answer h.answered h.noted comes
    where
      after_call : (answer : Answer) → Called g marked sums w.made log old j before h.after at uncalled w.told w.keeps h.auditor → ComesOfReply m j last answer body replied new lines
          → Walked g marked sums (with_outcomes true (members.Server j) log lines) new
      after_call answer c comes =
          let parts : PartsView = with_called old j h.after h.auditor in
          walks_on (members.Server j) log parts new lines c.now c.told_now
          (reply_goes c.now m j last answer body log parts new lines (subst (λ p. ComesOfReply m j last answer body p new lines) h.kept comes) are c.keeps)

      by : (answer : Answer) → IsAnswerOn x before answer h.after → NotesReply answer j h.after old.auditor h.auditor
          → ComesOfReply m j last answer body replied new lines → Walked g marked sums (with_outcomes true (members.Server j) log lines) new
      by (answers.Acts did) answered noted comes =
          after_call (answers.Acts did) (is_called g marked sums w.made log old j before h.after at uncalled w.told w.keeps h.auditor noted) comes
      by (answers.Ignored reason) answered noted comes =
          after_call (answers.Ignored reason) (is_called g marked sums w.made log old j before h.after at uncalled w.told w.keeps h.auditor noted) comes
      by answers.Early answered same comes =
          after_call answers.Early
          (subst (λ a. Called g marked sums w.made log old j before h.after at uncalled w.told w.keeps a) (sym same)
          (stays_called g marked sums w.made log old j before h.after at uncalled w.told w.keeps (early_same x before h.after answered))) comes
