-- A unit of time passes at each server, one after the other.
use Rattle.std.proofs.Common.{◌≡◌, ◌≢◌, ℕ, List, [], ◌∷◌, ◌++◌, refl, sym, ap, subst, ◌∙◌, inl, inr, true, false, cond, zero, suc, ◌<◌, ◌≤◌, arith}
use Rattle.std.specs.Prelude.{Bool, Contains, ◌⊎◌, Some, None, not, nat_le, ◌+◌, ◌&&◌, length, Option}
use Rattle.std.specs.List.{range_with_len}
use Rattle.std.proofs.lemmas.List.Elements.{Contains-append_left, Contains-append_right, Contains-append_cases}
use Rattle.dn_wire.specs.declared.ids.ClientId.{ClientId}
use Rattle.dn_wire.specs.declared.ids.ServerId.{ServerId}
use Rattle.dn_wire.specs.declared.ids.Round.{Round}
use Rattle.dn_wire.specs.declared.ids.Member.{Member}
use Rattle.dn_wire.specs.declared.ids.Member.TheVariants as members
use Rattle.dn_bits.specs.Bits.{below}
use Rattle.dn_cert.proofs.Orders.{nothing}
use Rattle.dn_window.specs.Window.{WindowState, ticked, is_due}
use Rattle.dn_audit.specs.Auditor.{AuditorView}
use Rattle.dn_server.specs.declared.act.Act.{Act}
use Rattle.dn_server.specs.declared.act.Act.TheVariants as acts
use Rattle.dn_server.specs.declared.answer.Answer.{Answer}
use Rattle.dn_server.specs.declared.run.Sum.{Sum}
use Rattle.dn_server.specs.Server.{ServerView}
use Rattle.dn_exchange.specs.Closing.{Closes, Ticks, with_window}
use Rattle.dn_exchange.specs.Closing.Closes.{lists, meets_other, finds_no_leaf}
use Rattle.dn_exchange.specs.Closing.Ticks.{counts, closes_at}
use Rattle.dn_exchange.specs.Spoiling.{TellsDueBodies}
use Rattle.dn_report.specs.declared.event.Event.{Event}
use Rattle.dn_report.specs.declared.event.Event.TheVariants as events
use Rattle.dn_report.specs.declared.outcome.Outcome.{Outcome}
use Rattle.dn_report.specs.declared.outcome.Outcome.TheVariants as outcomes
use Rattle.dn_state.specs.declared.calling.Call.TheVariants as called
use Rattle.dn_state.specs.Parts.{PartsView}
use Rattle.dn_state.specs.Members.{server_at, core_at}
use Rattle.dn_state.specs.Doing.{InTurn}
use Rattle.dn_state.specs.Acting.{Acts, ComesOf}
use Rattle.dn_state.specs.Calling.{CallsServer, IsCalled, IsAnswerTo, KeepsRules, AreDue, TicksAll}
use Rattle.dn_state.specs.Calling.CallsServer.{calls, rests}
use Rattle.dn_headline.specs.Group.{IsHonestServer, IsHonestClient, IsKeyOf}
use Rattle.dn_headline.specs.Spoken.{IsInFront}
use Rattle.dn_record_types.specs.declared.statement.Statement.{Statement}
use Rattle.dn_wire.specs.declared.ids.SignerId.{SignerId}
use Rattle.dn_headline.specs.Log.{Step, Log, Put, actor_after, with_outcome, with_outcomes}
use Rattle.dn_headline.specs.Run.{RunView, SumMade, log}
use Rattle.dn_headline.specs.Plains.{texts_of}
use Rattle.dn_headline.specs.Step.{Grows}
use Rattle.dn_headline.proofs.History.{ticks_grow}
use Rattle.dn_links.specs.MessageLink.{LogMoves}
use Rattle.dn_links.specs.MessageLink.LogMoves.{by_more}
use Rattle.dn_links.specs.Judging.{OtherStep, JudgeCalled}
use Rattle.dn_steps.specs.Tied.{IsTied}
use Rattle.dn_steps.proofs.Members.{server_is_honest, core_set_other}
use Rattle.dn_steps.proofs.Places.{only, no_more, both_ways}
use Rattle.dn_steps.proofs.Runs.{next_run, log_next, is_blame}
use Rattle.dn_links.proofs.Clients.{texts_more}
use Rattle.dn_steps.proofs.Idle.{IsCalm, no_lines, idle_is_tied, other_step}
use Rattle.dn_steps.proofs.ServerSteps.{with_core}
use Rattle.dn_steps.proofs.Acting.{ActsSo, no_act, actors_after, outcomes_after}
use Rattle.dn_steps.proofs.ActLines.{lines_blame_none}
use Rattle.dn_steps.proofs.Carrying.{carried_so}
use Rattle.dn_steps.proofs.InRound.{ActsInRound}
use Rattle.dn_steps.proofs.Acted.{acted_is_tied, at_here, own_fronts}
use Rattle.dn_steps.proofs.Closing.{CallInRound, closes_so, window_so}
use Rattle.dn_steps.proofs.ServedEvents.{RunGoesOn, made_of, made_there, made_is}
use Rattle.dn_steps.proofs.ClosingEvents.{core_tied, core_fits}

abbrev pub tick : List Outcome → Step
tick lines = record { event = events.Tick; outcomes = lines }

-- the run within a tick, of which these lines are told so far
abbrev pub in_tick : RunView → List Outcome → List SumMade → RunView
in_tick w os sums = next_run w (tick os) w.plains sums

-- lines of a server's call in a tick: none, or first that its window closed
abbrev BeginsSo : ServerId → List Outcome → Type 0
BeginsSo j lines = (lines ≡ []) ⊎ ((r : Round) × (count : ℕ) × (rest : List Outcome) × (lines ≡ outcomes.Closed j r count ∷ rest))

-- they tell who puts, whoever put before
no_lines_put : (actor : Member) (l : Log) → with_outcomes true actor l [] ≡ l
unfolding with_outcomes
no_lines_put actor l = refl

closed_puts : (j : ServerId) (actor : Member) (l : Log) (r : Round) (count : ℕ) (rest : List Outcome)
    → with_outcomes true actor l (outcomes.Closed j r count ∷ rest) ≡ with_outcomes true (members.Server j) l rest
unfolding with_outcomes with_outcome
closed_puts j actor l r count rest = refl

told_who : (j : ServerId) (actor : Member) (l : Log) (lines : List Outcome) → BeginsSo j lines → with_outcomes true actor l lines ≡ with_outcomes true (members.Server j) l lines
told_who j actor l lines (inl none) =
    subst (λ (os : List Outcome). with_outcomes true actor l os ≡ with_outcomes true (members.Server j) l os) (sym none)
    (no_lines_put actor l ∙ sym (no_lines_put (members.Server j) l))
told_who j actor l lines (inr first) =
    subst (λ (os : List Outcome). with_outcomes true actor l os ≡ with_outcomes true (members.Server j) l os) (sym first.3)
    (closed_puts j actor l first.0 first.1 first.2 ∙ sym (closed_puts j (members.Server j) l first.0 first.1 first.2))

-- the log within a tick
log_in_tick : (w : RunView) (os more : List Outcome) (sums later : List SumMade) → log (in_tick w (os ++ more) later)
    ≡ with_outcomes true (actors_after (members.Server (record { 0 = 0 })) os) (log (in_tick w os sums)) more
log_in_tick w os more sums later =
    log_next w (tick (os ++ more)) w.plains later ∙ outcomes_after true (members.Server (record { 0 = 0 })) (log w) os more
    ∙ ap (λ (l : Log). with_outcomes true (actors_after (members.Server (record { 0 = 0 })) os) l more) (sym (log_next w (tick os) w.plains sums))

-- where the run within a tick is: tied to the parts, its lines blame nobody; and of what is new in it, each ciphertext is in the record of its server,
-- of those below a number, and in front of what a member's own core puts stands a statement by the member's own key
pub record TickOn (w : RunView) (os : List Outcome) (parts : PartsView) (k : ℕ) : Type 0 where
  pub sums : List SumMade
  pub tied : IsTied (in_tick w os sums) parts
  pub blames : (o : Outcome) → Contains os o → is_blame o ≡ false
  pub grows : (m : SumMade) → Contains w.sums m → Contains sums m
  pub sums_of : (m : SumMade) → Contains sums m → Contains w.sums m
      ⊎ ((m.server.0 < k) × ((c : ServerView) × (sum : Sum) × (server_at parts m.server ≡ Some c) × (c.run.sum ≡ Some sum) × (m ≡ record { server = m.server; r = c.run.r; sum = sum.s })))
  pub fronts : (p : Put) → Contains (log (in_tick w os sums)).puts p → Contains (log w).puts p
      ⊎ ((who : SignerId) (t : Statement) → IsInFront w.group.roster p.bytes who t → IsKeyOf w.group who p.by)

-- ---- one server

module _ (w : RunView) (os more : List Outcome) (old : PartsView) (j : ServerId) (before : TickOn w os old j.0) (c : ServerView) (at_c : server_at old j ≡ Some c) (d : ServerView)
    (auditor : AuditorView) (rules : KeepsRules c d) (did : List Act) (fresh : List Statement) (call : ActsInRound (in_tick w os before.sums) j c did d fresh) (new : PartsView)
    (so : ActsSo w.group j d.run.r did (log (in_tick w os before.sums)) (with_core old j d auditor) new more) (begins : BeginsSo j more) where
  abbrev u : RunView
  u = in_tick w os before.sums

  abbrev later : List SumMade
  later = before.sums ++ made_of j d.run.r d.run.sum

  abbrev v : RunView
  v = in_tick w (os ++ more) (before.sums ++ made_of j d.run.r d.run.sum)

  at : log v ≡ with_outcomes true (members.Server j) (log u) more
  at = log_in_tick w os more before.sums later ∙ told_who j (actors_after (members.Server (record { 0 = 0 })) os) (log u) more begins

  abbrev moved : LogMoves (log u) (log v)
  moved = by_more (members.Server j) more so.numbered at

  grows : Grows u v more
  grows = ticks_grow w.group w.history os more w.plains w.plains before.sums later (λ m h. h) (λ m h. Contains-append_left before.sums (made_of j d.run.r d.run.sum) m h)

  made : (sum : Sum) → d.run.sum ≡ Some sum → Contains (before.sums ++ made_of j d.run.r d.run.sum) (record { server = j; r = d.run.r; sum = sum.s })
  made sum is = Contains-append_right before.sums (made_of j d.run.r d.run.sum) _ (made_there j d.run.r d.run.sum sum is)

  blames_now : (o : Outcome) → Contains (os ++ more) o → is_blame o ≡ false
  blames_now o h =
      elim (Contains-append_cases os more o h) [
        | inl was ↦ before.blames o was
        | inr now ↦ lines_blame_none w.group j d.run.r did (log u) (with_core old j d auditor) new more so o now
      ]

  tied_now : IsTied v new
  tied_now =
      acted_is_tied u old before.tied j c at_c d (w.history ++ tick (os ++ more) ∷ []) later did fresh (log u) (with_core old j d auditor) new more so call
      refl at grows made rules refl (record { roster = refl; opens = refl; group = refl; clients = refl; left = refl }) (record {
        moved = moved;
        takes = record { hears = λ x r t m phase carries now. absurd now; not_ahead = λ x r t m phase carries now. absurd now };
        to_server = λ k m other to now. now;
        texts = λ i h. texts_more i w.history (tick (os ++ more)) ∙ sym (texts_more i w.history (tick os));
        sums_of = λ m h. elim (Contains-append_cases before.sums (made_of j d.run.r d.run.sum) m h) [
          | inl was ↦ inl was
          | inr now ↦ inr (ap (λ (z : SumMade). z.server) (made_is j d.run.r d.run.sum m now).2)
        ];
        judge = λ x h. elim (Contains-append_cases w.history (tick (os ++ more) ∷ []) x h) [
          | inl was ↦ inl (Contains-append_left w.history (tick os ∷ []) x was)
          | inr this ↦ inr (inr (subst OtherStep (only (tick (os ++ more)) x this) (other_step events.Tick (os ++ more) (λ r k e. absurd cc) blames_now)))
        ];
      })

  here_now : server_at new j ≡ Some d
  here_now = at_here u old before.tied j c at_c d (w.history ++ tick (os ++ more) ∷ []) later did fresh (log u) (with_core old j d auditor) new more so call
      refl at grows made rules refl (record { roster = refl; opens = refl; group = refl; clients = refl; left = refl })

  -- a server below this one is as it was
  below_stays : (k : ServerId) (e : ServerView) → k.0 < j.0 → server_at old k ≡ Some e → server_at new k ≡ Some e
  below_stays k e less is =
      ap (λ (cs : List (Option ServerView)). core_at cs k.0) so.same.servers ∙ core_set_other old.servers j.0 k.0 d (λ same. absurd (omega (arith, less, same))) ∙ is

  pub one_ticks : TickOn w (os ++ more) new (suc j.0)
  one_ticks = record {
    sums = before.sums ++ made_of j d.run.r d.run.sum;
    tied = tied_now;
    blames = blames_now;
    grows = λ m h. Contains-append_left before.sums (made_of j d.run.r d.run.sum) m (before.grows m h);
    sums_of = λ m h. elim (Contains-append_cases before.sums (made_of j d.run.r d.run.sum) m h) [
      | inl was ↦ elim (before.sums_of m was) [
        | inl first ↦ inl first
        | inr of ↦ let less = of.0 in inr (omega (arith, less), (of.1.0, of.1.1, below_stays m.server of.1.0 of.0 of.1.2, of.1.3, of.1.4))
      ]
      | inr now ↦
          let is = made_is j d.run.r d.run.sum m now in
          let same : m.server ≡ j = ap (λ (z : SumMade). z.server) is.2 in
          let number = ap (λ (z : ServerId). z.0) same in
          inr (
            omega (arith, number),
            (
              d,
              is.0,
              subst (λ (k : ServerId). server_at new k ≡ Some d) (sym same) here_now,
              is.1,
              is.2 ∙ ap (λ (k : ServerId). record { server = k; r = d.run.r; sum = is.0.s }) (sym same),
            ),
          )
    ];
    fronts = λ p h. elim (own_fronts u old before.tied j c at_c d (w.history ++ tick (os ++ more) ∷ []) later did fresh (log u) (with_core old j d auditor) new more so call
        refl at grows made rules p h) [ inl was ↦ before.fronts p was | inr front ↦ inr front ];
  }

-- ---- a server's answer

module _ (w : RunView) (os : List Outcome) (old new : PartsView) (j : ServerId) (lines : List Outcome) (before : TickOn w os old j.0) where
  abbrev u_now : RunView
  u_now = in_tick w os before.sums

  opened_window : (a b : Bool) → (not a && b) ≡ true → a ≡ false
  opened_window false b e = refl
  opened_window true b e = absurd cc

  ticked_shut : (window : WindowState) → is_due window ≡ true → (ticked window).closed ≡ true
  ticked_shut window is =
      ap (λ (b : Bool). (cond b window (record window { ticks = window.ticks + 1; closed = is_due window })).closed) (opened_window window.closed _ is) ∙ is

  ticked_still : (window : WindowState) → window.closed ≡ true → (ticked window).closed ≡ true
  ticked_still window is = ap (λ (b : Bool). (cond b window (record window { ticks = window.ticks + 1; closed = is_due window })).closed) is ∙ is

  begins_closed : (r : Round) (count : ℕ) (rest did : List Act) (last : Round) (mid : PartsView) → did ≡ acts.Closed r count ∷ rest → InTurn (Acts j last) did mid new lines
      → BeginsSo j lines
  begins_closed r count rest did last mid is all =
      let does = subst (λ (xs : List Act). InTurn (Acts j last) xs mid new lines) is all in
      inr (r, count, does.lines_rest, does.told ∙ ap (λ (xs : List Outcome). xs ++ does.lines_rest) does.begins.1)

  begins_so : (c d : ServerView) (did : List Act) (last : Round) (mid : PartsView) → Closes c did d → InTurn (Acts j last) did mid new lines → BeginsSo j lines
  begins_so c d did last mid (lists rest free leaf goes is) does = begins_closed c.run.r c.run.window.count _ did last mid is does
  begins_so c d did last mid (meets_other other conflicts is same) does = begins_closed c.run.r c.run.window.count _ did last mid is does
  begins_so c d did last mid (finds_no_leaf free none bent is same) does = begins_closed c.run.r c.run.window.count _ did last mid is does

  ticks_so : (c : ServerView) (at_c : server_at old j ≡ Some c) (h : IsCalled j (IsAnswerTo called.Tick) c old new lines) → Ticks c h.answer h.after → AreDue h.after h.answer
      → TickOn w (os ++ lines) new (suc j.0)
  ticks_so c at_c h (counts not_due is same) due =
      let mid = with_core old j h.after h.auditor in
      let does = subst (λ (a : Answer). ComesOf j h.after.run.r a mid new lines) is h.does in
      let rest = subst (λ (z : ServerView). CallInRound u_now j c [] z) (sym same) (window_so u_now j c (ticked c.run.window) (ticked_still c.run.window)) in
      one_ticks w os lines old j before c at_c h.after h.auditor h.rules [] rest.fresh rest.does new
      (subst (λ (xs : List Outcome). ActsSo w.group j h.after.run.r [] (log u_now) mid new xs) (sym does.1)
      (subst (λ (z : PartsView). ActsSo w.group j h.after.run.r [] (log u_now) mid z []) (sym does.0)
      (no_act w.group j h.after.run.r (log u_now) mid (core_fits w.group (log u_now) old j h.after h.auditor before.tied.fits)))) (inl does.1)
  ticks_so c at_c h (closes_at did due_now closes is) due =
      let mid = with_core old j h.after h.auditor in
      let core = core_tied u_now old before.tied j c at_c in
      let straight = h.rules.bent ∙ core.straight in
      let does = subst (λ (a : Answer). ComesOf j h.after.run.r a mid new lines) is h.does in
      let call = closes_so u_now j c (server_is_honest u_now old before.tied j c at_c).server before.tied.group.is_roster core (opened_window c.run.window.closed _ due_now)
      (ticked c.run.window) (ticked_shut c.run.window due_now) did h.after closes (h.rules.disciplined straight) (subst (TellsDueBodies h.after) is (due straight)) in
      one_ticks w os lines old j before c at_c h.after h.auditor h.rules did call.fresh call.does new
      (carried_so w.group j h.after.run.r did (log u_now) mid new lines (core_fits w.group (log u_now) old j h.after h.auditor before.tied.fits) before.tied.group.opens call.carried does)
      (begins_so (with_window c (ticked c.run.window)) h.after did h.after.run.r mid closes does)

  -- a number more, and the rest as it was
  further : TickOn w os old (suc j.0)
  further = record {
    sums = before.sums;
    tied = before.tied;
    blames = before.blames;
    grows = before.grows;
    sums_of = λ m h. elim (before.sums_of m h) [ inl first ↦ inl first | inr of ↦ let less = of.0 in inr (omega (arith, less), of.1) ];
    fronts = before.fronts;
  }

  pub call_ticks : CallsServer called.Tick j old new lines → TickOn w (os ++ lines) new (suc j.0)
  call_ticks (calls c at_c h) = ticks_so c at_c h h.answered.0 h.answered.1
  call_ticks (rests none becomes) =
      subst (λ (xs : List Outcome). TickOn w (os ++ xs) new (suc j.0)) (sym becomes.1)
      (subst (λ (xs : List Outcome). TickOn w xs new (suc j.0)) (no_more os) (subst (λ (z : PartsView). TickOn w os z (suc j.0)) (sym becomes.0) further))

-- ---- all servers

-- the numbers rise from this one
abbrev RiseFrom : ℕ → List ℕ → Type 0
RiseFrom k [] = Unit {0}
RiseFrom k (j ∷ js) = (k ≤ j) × RiseFrom (suc j) js

below_rises : (k n : ℕ) → RiseFrom k (range_with_len k n)
below_rises k zero = tt
below_rises k (suc n) = (omega arith, subst (λ (m : ℕ). RiseFrom m (range_with_len (k + 1) n)) (omega arith) (below_rises (k + 1) n))

-- what is below a number is below a greater one
raised : (w : RunView) (os : List Outcome) (parts : PartsView) (k m : ℕ) → k ≤ m → TickOn w os parts k → TickOn w os parts m
raised w os parts k m less h = record {
  sums = h.sums;
  tied = h.tied;
  blames = h.blames;
  grows = h.grows;
  sums_of = λ x there. elim (h.sums_of x there) [ inl first ↦ inl first | inr of ↦ let low = of.0 in inr (omega (arith, low, less), of.1) ];
  fronts = h.fronts;
}

calls_tick : (w : RunView) (k : ℕ) (js : List ℕ) (os : List Outcome) (old new : PartsView) (lines : List Outcome) → RiseFrom k js → TickOn w os old k
    → InTurn (λ j. CallsServer called.Tick record { 0 = j }) js old new lines → (m : ℕ) × TickOn w (os ++ lines) new m
calls_tick w k [] os old new lines rise before does = (
  k,
  subst (λ (xs : List Outcome). TickOn w (os ++ xs) new k) (sym does.1)
      (subst (λ (xs : List Outcome). TickOn w xs new k) (no_more os) (subst (λ (z : PartsView). TickOn w os z k) (sym does.0) before)),
)
calls_tick w k (j ∷ js) os old new lines rise before does =
    let one = call_ticks w os old does.between (record { 0 = j }) does.lines_first (raised w os old k j rise.0 before) does.begins in
    let rest = calls_tick w (suc j) js (os ++ does.lines_first) does.between new does.lines_rest rise.1 one does.goes_on in
    (rest.0, subst (λ (xs : List Outcome). TickOn w xs new rest.0) (both_ways os does.lines_first does.lines_rest ∙ ap (λ (xs : List Outcome). os ++ xs) (sym does.told)) rest.1)

ticking_is_calm : IsCalm events.Tick
ticking_is_calm = record { removes = λ l os. refl; delivers = λ id e. absurd cc; judges = λ q k e. absurd cc }

-- a tick begins with no line
tick_begins : (w : RunView) (old : PartsView) → IsTied w old → TickOn w [] old 0
tick_begins w old tied = record {
  sums = w.sums;
  tied = idle_is_tied w old events.Tick [] tied ticking_is_calm no_lines (λ i h. refl) old refl;
  blames = λ o h. absurd (nothing o h);
  grows = λ m h. h;
  sums_of = λ m h. inl h;
  fronts = λ p h. inl (subst (λ (ps : List Put). Contains ps p)
      (ap (λ (l : Log). l.puts) (log_next w (tick []) w.plains w.sums ∙ no_lines_put (members.Server (record { 0 = 0 })) (log w))) h);
}

pub tick_goes_on : (w : RunView) (old new : PartsView) (lines : List Outcome) → IsTied w old → TicksAll old new lines → RunGoesOn w events.Tick lines new
tick_goes_on w old new lines tied does =
    let all = (calls_tick w 0 (below (length old.roster.servers)) [] old new lines (below_rises 0 (length old.roster.servers)) (tick_begins w old tied) does).1 in
    record {
      goes = record { run = in_tick w lines all.sums; group = refl; history = refl; tied = all.tied };
      grows = all.grows;
      sums = λ m h. elim (all.sums_of m h) [ inl first ↦ inl first | inr of ↦ inr of.1 ];
      fronts = λ p h. elim (all.fronts p h) [ inl was ↦ inl was | inr front ↦ inr (λ own. front) ];
    }
