-- A server is to open a round, or to give one up.
use Rattle.std.proofs.Common.{◌≡◌, ℕ, ◌<◌, List, [], ◌∷◌, ◌++◌, length, refl, sym, subst, ◌∙◌, inl, inr, true, false}
use Rattle.std.specs.Prelude.{Contains, Some}
use Rattle.std.proofs.lemmas.Bool.{cases_lt}
use Rattle.dn_wire.specs.declared.ids.ClientId.{ClientId}
use Rattle.dn_wire.specs.declared.ids.ServerId.{ServerId}
use Rattle.dn_wire.specs.declared.ids.Round.{Round}
use Rattle.dn_layout.specs.Layout.{bits_of}
use Rattle.dn_server.specs.declared.act.Act.TheVariants as acts
use Rattle.dn_server.specs.declared.answer.Answer.{Answer}
use Rattle.dn_server.specs.declared.answer.Answer.TheVariants as answers
use Rattle.dn_server.specs.declared.answer.Reason.{Reason}
use Rattle.dn_server.specs.declared.answer.Reason.TheVariants as reasons
use Rattle.dn_server.specs.Server.{ServerView, ended}
use Rattle.dn_exchange.specs.Opening.{Opens, IsOld, expected_by, fresh_run}
use Rattle.dn_exchange.specs.Opening.Opens.{is_old, is_running, is_spent, opens}
use Rattle.dn_exchange.specs.Ending.{Abandons}
use Rattle.dn_exchange.specs.Ending.Abandons.{is_idle, abandons}
use Rattle.dn_cert.proofs.Orders.{here}
use Rattle.dn_report.specs.declared.event.Event.{Event}
use Rattle.dn_report.specs.declared.event.Event.TheVariants as events
use Rattle.dn_report.specs.declared.outcome.Outcome.{Outcome}
use Rattle.dn_report.specs.declared.outcome.Outcome.TheVariants as outcomes
use Rattle.dn_report.specs.declared.words.IgnoredWord.{IgnoredWord}
use Rattle.dn_state.specs.declared.calling.Call.TheVariants as called
use Rattle.dn_state.specs.Parts.{PartsView}
use Rattle.dn_state.specs.Words.{ignored_word_of}
use Rattle.dn_state.specs.Members.{server_at}
use Rattle.dn_state.specs.Acting.{ComesOf}
use Rattle.dn_state.specs.Calling.{CallsServer, IsCalled, IsAnswerTo}
use Rattle.dn_state.specs.Calling.CallsServer.{calls, rests}
use Rattle.dn_headline.specs.Group.{IsHonestClient}
use Rattle.dn_headline.specs.Run.{RunView}
use Rattle.dn_headline.specs.Plains.{text_in}
use Rattle.dn_steps.specs.Tied.{IsTied}
use Rattle.dn_steps.specs.ServerCall.{TellNothingOf}
use Rattle.dn_steps.proofs.Places.{only}
use Rattle.dn_steps.proofs.Runs.{next_run, is_of_put, is_blame}
use Rattle.dn_steps.proofs.Idle.{IsCalm, no_lines, one_ignored, idle_is_tied}
use Rattle.dn_steps.proofs.ServerSteps.{with_core, core_rests, abandons_so, opens_so}

-- what holds of the only line
each : (P : Outcome → Type 0) (line : Outcome) (lines : List Outcome) → lines ≡ line ∷ [] → P line → (o : Outcome) → Contains lines o → P o
each P line lines is p o h = subst P (only line o (subst (λ (os : List Outcome). Contains os o) is h)) p

pub ignored_tells_nothing : (word : IgnoredWord) (k : ServerId) → TellNothingOf k (outcomes.Ignored word ∷ [])
ignored_tells_nothing word k = record {
  opened = λ q p h. let e = only _ _ h in absurd cc;
  closed = λ q count h. let e = only _ _ h in absurd cc;
  told = λ i q t h. let e = only _ _ h in absurd cc;
  spoiled = λ q x reason h. let e = only _ _ h in absurd cc;
  certified = λ q h. let e = only _ _ h in absurd cc;
  held = λ q h. let e = only _ _ h in absurd cc;
}

module _ (w : RunView) (old new : PartsView) (e : Event) (lines : List Outcome) (tied : IsTied w old) (calm : IsCalm e)
    (untexted : (i : ClientId) → IsHonestClient w.group i → text_in i e ≡ []) (j : ServerId) (c : ServerView) (at_c : server_at old j ≡ Some c)
    (answer : ServerView → Answer → ServerView → Type 0) (h : IsCalled j answer c old new lines) where
  abbrev mid : PartsView
  mid = with_core old j h.after h.auditor

  abbrev run_after : List Outcome → RunView
  run_after os = next_run w (record { event = e; outcomes = os }) w.plains w.sums

  -- a call that is ignored
  pub ignored_is_tied : (reason : Reason) → h.answer ≡ answers.Ignored reason → h.after ≡ c → IsTied (run_after lines) new
  ignored_is_tied reason is same =
      let does = subst (λ (a : Answer). ComesOf j h.after.run.r a mid new lines) is h.does in
      let line = outcomes.Ignored (ignored_word_of reason) in
      let idle = one_ignored (ignored_word_of reason) in
      subst (IsTied (run_after lines)) (sym does.0)
      (core_rests w old e lines tied calm untexted (each (λ o. is_of_put o ≡ false) line lines does.1 (idle.unput line (here line []))) (each (λ o. is_blame o ≡ false) line lines does.1 (idle.blames line (here line [])))
      j c at_c h.after h.auditor same (λ k. subst (TellNothingOf k) (sym does.1) (ignored_tells_nothing (ignored_word_of reason) k)))

  pub abandoned_is_tied : h.answer ≡ answers.Acts (acts.Abandoned ∷ []) → c.run.is_running ≡ true → h.after ≡ ended c → IsTied (run_after lines) new
  abandoned_is_tied is on same =
      let does = subst (λ (a : Answer). ComesOf j h.after.run.r a mid new lines) is h.does in
      let line = outcomes.Abandoned j h.after.run.r in
      let told : lines ≡ line ∷ [] = does.told ∙ (λ t. does.begins.1 t ++ does.goes_on.1 t) in
      subst (IsTied (run_after lines)) (sym (does.goes_on.0 ∙ does.begins.0))
      (abandons_so w old e lines tied calm untexted (each (λ o. is_of_put o ≡ false) line lines told refl) (each (λ o. is_blame o ≡ false) line lines told refl)
      j c at_c h.after h.auditor h.rules on same told)

  pub opened_is_tied : (r prev : Round) (clients expected bits : ℕ) → h.answer ≡ answers.Acts (acts.Opened r prev ∷ []) → c.run.is_running ≡ false → c.run.r.0 < r.0
      → h.after ≡ record c { aside = 4; run = fresh_run clients expected r prev bits } → IsTied (run_after lines) new
  opened_is_tied r prev clients expected bits is off above same =
      let does = subst (λ (a : Answer). ComesOf j h.after.run.r a mid new lines) is h.does in
      let line = outcomes.Opened j r prev in
      let told : lines ≡ line ∷ [] = does.told ∙ (λ t. does.begins.1 t ++ does.goes_on.1 t) in
      subst (IsTied (run_after lines)) (sym (does.goes_on.0 ∙ does.begins.0))
      (opens_so w old e lines tied calm untexted (each (λ o. is_of_put o ≡ false) line lines told refl) (each (λ o. is_blame o ≡ false) line lines told refl)
      j c at_c h.after h.auditor r prev clients expected bits h.rules off above same told)

-- ---- the events

opening_is_calm : (j : ServerId) (r : Round) → IsCalm (events.OpenRound j r)
opening_is_calm j r = record { removes = λ l os. refl; delivers = λ id e. absurd cc; judges = λ q k e. absurd cc }

abandoning_is_calm : (j : ServerId) → IsCalm (events.Abandon j)
abandoning_is_calm j = record { removes = λ l os. refl; delivers = λ id e. absurd cc; judges = λ q k e. absurd cc }

module _ (w : RunView) (old new : PartsView) (j : ServerId) (lines : List Outcome) (tied : IsTied w old) where
  -- the round is above the last one
  new_round : (c : ServerView) (r : Round) → ¬ IsOld c r → c.run.r.0 < r.0
  new_round c r not_old = elim (cases_lt c.run.r.0 r.0) [ inl above ↦ above | inr below ↦ absurd (not_old (inl below)) ]

  open_so : (r : Round) (c : ServerView) (at_c : server_at old j ≡ Some c) (h : IsCalled j (IsAnswerTo (called.Open r)) c old new lines) → Opens c r h.answer h.after
      → IsTied (next_run w (record { event = events.OpenRound j r; outcomes = lines }) w.plains w.sums) new
  open_so r c at_c h (is_old why is same) =
      ignored_is_tied w old new (events.OpenRound j r) lines tied (opening_is_calm j r) (λ i x. refl) j c at_c (IsAnswerTo (called.Open r)) h reasons.Old is same
  open_so r c at_c h (is_running fresh on is same) =
      ignored_is_tied w old new (events.OpenRound j r) lines tied (opening_is_calm j r) (λ i x. refl) j c at_c (IsAnswerTo (called.Open r)) h reasons.Running is same
  open_so r c at_c h (is_spent fresh off few is same) =
      ignored_is_tied w old new (events.OpenRound j r) lines tied (opening_is_calm j r) (λ i x. refl) j c at_c (IsAnswerTo (called.Open r)) h reasons.Spent is same
  open_so r c at_c h (opens prev layout fresh off enough latest after is same) =
      opened_is_tied w old new (events.OpenRound j r) lines tied (opening_is_calm j r) (λ i x. refl) j c at_c (IsAnswerTo (called.Open r)) h r prev
      (length c.seat.roster.clients) (expected_by c.seat) (bits_of layout) is off (new_round c r fresh) same

  pub open_is_tied : (r : Round) → CallsServer (called.Open r) j old new lines → IsTied (next_run w (record { event = events.OpenRound j r; outcomes = lines }) w.plains w.sums) new
  open_is_tied r (calls c at_c h) = open_so r c at_c h h.answered
  open_is_tied r (rests none becomes) =
      subst (λ (os : List Outcome). IsTied (next_run w (record { event = events.OpenRound j r; outcomes = os }) w.plains w.sums) new) (sym becomes.1)
      (idle_is_tied w old (events.OpenRound j r) [] tied (opening_is_calm j r) no_lines (λ i x. refl) new becomes.0)

  abandon_so : (c : ServerView) (at_c : server_at old j ≡ Some c) (h : IsCalled j (IsAnswerTo called.Abandon) c old new lines) → Abandons c h.answer h.after
      → IsTied (next_run w (record { event = events.Abandon j; outcomes = lines }) w.plains w.sums) new
  abandon_so c at_c h (is_idle off is same) =
      ignored_is_tied w old new (events.Abandon j) lines tied (abandoning_is_calm j) (λ i x. refl) j c at_c (IsAnswerTo called.Abandon) h reasons.Idle is same
  abandon_so c at_c h (abandons on is same) =
      abandoned_is_tied w old new (events.Abandon j) lines tied (abandoning_is_calm j) (λ i x. refl) j c at_c (IsAnswerTo called.Abandon) h is on same

  pub abandon_is_tied : CallsServer called.Abandon j old new lines → IsTied (next_run w (record { event = events.Abandon j; outcomes = lines }) w.plains w.sums) new
  abandon_is_tied (calls c at_c h) = abandon_so c at_c h h.answered
  abandon_is_tied (rests none becomes) =
      subst (λ (os : List Outcome). IsTied (next_run w (record { event = events.Abandon j; outcomes = os }) w.plains w.sums) new) (sym becomes.1)
      (idle_is_tied w old (events.Abandon j) [] tied (abandoning_is_calm j) no_lines (λ i x. refl) new becomes.0)
