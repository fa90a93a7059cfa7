-- A server is called in an event of its own, and its acts are carried out.
use Rattle.std.proofs.Common.{◌≡◌, ◌≢◌, ℕ, List, [], ◌∷◌, ◌++◌, refl, sym, ap, subst, ◌∙◌, inl, inr, true, false}
use Rattle.std.specs.Prelude.{Bool, Contains, ◌⊎◌, Option, Some, None}
use Rattle.std.proofs.lemmas.Option.{same_Some}
use Rattle.std.proofs.lemmas.List.Elements.{Contains-append_left, Contains-append_right, Contains-append_cases}
use Rattle.dn_wire.specs.declared.ids.ClientId.{ClientId}
use Rattle.dn_wire.specs.declared.ids.ServerId.{ServerId}
use Rattle.dn_wire.specs.declared.ids.SignerId.{SignerId}
use Rattle.dn_wire.specs.declared.ids.Round.{Round}
use Rattle.dn_wire.specs.declared.ids.Member.{Member}
use Rattle.dn_wire.specs.declared.ids.Member.TheVariants as members
use Rattle.dn_record_types.specs.declared.statement.Statement.{Statement}
use Rattle.dn_cert.proofs.Orders.{here, nothing}
use Rattle.dn_audit.specs.Auditor.{AuditorView}
use Rattle.dn_server.specs.declared.act.Act.{Act}
use Rattle.dn_server.specs.declared.run.Sum.{Sum}
use Rattle.dn_server.specs.Server.{ServerView}
use Rattle.dn_report.specs.declared.event.Event.{Event}
use Rattle.dn_report.specs.declared.outcome.Outcome.{Outcome}
use Rattle.dn_state.specs.Parts.{PartsView}
use Rattle.dn_state.specs.Members.{server_at}
use Rattle.dn_state.specs.Calling.{KeepsRules}
use Rattle.dn_headline.specs.Group.{IsHonestClient, IsKeyOf}
use Rattle.dn_headline.specs.Log.{Step, Log, Put, actor_of, is_own, with_outcomes, AreNumbered}
use Rattle.dn_headline.specs.Run.{RunView, SumMade, log}
use Rattle.dn_headline.specs.Plains.{text_in}
use Rattle.dn_headline.specs.Spoken.{IsInFront}
use Rattle.dn_headline.specs.Step.{Grows}
use Rattle.dn_links.specs.MessageLink.{LogMoves}
use Rattle.dn_links.specs.MessageLink.LogMoves.{by_step}
use Rattle.dn_links.specs.Judging.{OtherStep}
use Rattle.dn_steps.specs.Fitting.{FitsLog}
use Rattle.dn_steps.specs.Goes.{GoesOn}
use Rattle.dn_steps.specs.Tied.{IsTied}
use Rattle.dn_steps.proofs.Places.{only}
use Rattle.dn_steps.proofs.Runs.{next_run, log_next, step_cases, run_grows}
use Rattle.dn_steps.proofs.Quiet.{texts_rest}
use Rattle.dn_steps.proofs.Idle.{IsCalm, other_step}
use Rattle.dn_steps.proofs.ServerSteps.{with_core}
use Rattle.dn_steps.proofs.Acting.{ActsSo}
use Rattle.dn_steps.proofs.ActLines.{lines_blame_none}
use Rattle.dn_steps.proofs.Acted.{acted_is_tied, at_here, own_fronts}
use Rattle.dn_steps.proofs.InRound.{ActsInRound}

-- ---- the ciphertext of a core's record, in the run

-- the ciphertext that a server made, if there is one
pub made_of : ServerId → Round → Option Sum → List SumMade
made_of j r None = []
made_of j r (Some sum) = record { server = j; r = r; sum = sum.s } ∷ []

pub made_there : (j : ServerId) (r : Round) (o : Option Sum) (sum : Sum) → o ≡ Some sum → Contains (made_of j r o) (record { server = j; r = r; sum = sum.s })
unfolding made_of
made_there j r None sum e = absurd cc
made_there j r (Some x) sum e =
    let make : Sum → SumMade = λ z. record { server = j; r = r; sum = z.s } in
    subst (λ (z : Sum). Contains (make x ∷ []) (make z)) (same_Some x sum e) (here (make x) [])

pub made_is : (j : ServerId) (r : Round) (o : Option Sum) (m : SumMade) → Contains (made_of j r o) m → (sum : Sum) × (o ≡ Some sum) × (m ≡ record { server = j; r = r; sum = sum.s })
unfolding made_of
made_is j r None m h = absurd (nothing m h)
made_is j r (Some x) m h = (x, refl, sym (only _ m h))

-- ---- how the run goes on

-- The run goes on; each ciphertext that is new in it is in its server's record; and in front of what a member's own core puts newly stands a statement
-- by the member's own key.
pub record RunGoesOn (w : RunView) (event : Event) (lines : List Outcome) (parts : PartsView) : Type 0 where
  pub goes : GoesOn w event lines parts
  pub grows : (m : SumMade) → Contains w.sums m → Contains goes.run.sums m
  pub sums : (m : SumMade) → Contains goes.run.sums m → Contains w.sums m
      ⊎ ((c : ServerView) × (sum : Sum) × (server_at parts m.server ≡ Some c) × (c.run.sum ≡ Some sum) × (m ≡ record { server = m.server; r = c.run.r; sum = sum.s }))
  pub fronts : (p : Put) → Contains (log goes.run).puts p → Contains (log w).puts p
      ⊎ (p.own ≡ true → (who : SignerId) (s : Statement) → IsInFront goes.run.group.roster p.bytes who s → IsKeyOf goes.run.group who p.by)

-- where nothing is made or put
pub nothing_new : (w : RunView) (e : Event) (lines : List Outcome) (new : PartsView) → IsTied (next_run w (record { event = e; outcomes = lines }) w.plains w.sums) new
    → (log (next_run w (record { event = e; outcomes = lines }) w.plains w.sums)).puts ≡ (log w).puts → RunGoesOn w e lines new
nothing_new w e lines new tied same = record {
  goes = record { run = next_run w (record { event = e; outcomes = lines }) w.plains w.sums; group = refl; history = refl; tied = tied };
  grows = λ m h. h;
  sums = λ m h. inl h;
  fronts = λ p h. inl (subst (λ (ps : List Put). Contains ps p) same h);
}

-- ---- an event of the server's own

module _ (w : RunView) (old : PartsView) (e : Event) (lines : List Outcome) (tied : IsTied w old) (calm : IsCalm e)
    (untexted : (i : ClientId) → IsHonestClient w.group i → text_in i e ≡ []) (j : ServerId) (own : is_own e ≡ true) (actor : actor_of (log w) e ≡ members.Server j)
    (c : ServerView) (at_c : server_at old j ≡ Some c) (d : ServerView) (auditor : AuditorView) (rules : KeepsRules c d) (did : List Act) (fresh : List Statement)
    (call : ActsInRound w j c did d fresh) (new : PartsView) (so : ActsSo w.group j d.run.r did (log w) (with_core old j d auditor) new lines) where
  abbrev s : Step
  s = record { event = e; outcomes = lines }

  abbrev v : RunView
  v = next_run w s w.plains (w.sums ++ made_of j d.run.r d.run.sum)

  at : log v ≡ with_outcomes true (members.Server j) (log w) lines
  at =
      log_next w s w.plains (w.sums ++ made_of j d.run.r d.run.sum) ∙ ap (λ (l : Log). with_outcomes (is_own e) (actor_of (log w) e) l lines) (calm.removes (log w) lines)
      ∙ (λ t. with_outcomes (own t) (actor t) (log w) lines)

  numbered : AreNumbered (is_own e) (actor_of (log w) e) (log w) lines
  numbered =
      subst (λ (b : Bool). AreNumbered b (actor_of (log w) e) (log w) lines) (sym own) (subst (λ (m : Member). AreNumbered true m (log w) lines) (sym actor) so.numbered)

  abbrev moved : LogMoves (log w) (log v)
  moved = by_step s (record {
    numbered = subst (λ (l : Log). AreNumbered (is_own e) (actor_of (log w) e) l lines) (sym (calm.removes (log w) lines)) numbered;
    delivers = λ id is taken. absurd (calm.delivers id is);
  }) (log_next w s w.plains (w.sums ++ made_of j d.run.r d.run.sum))

  grows : Grows w v lines
  grows = run_grows w s w.plains (w.sums ++ made_of j d.run.r d.run.sum) (λ m h. h) (λ m h. Contains-append_left w.sums (made_of j d.run.r d.run.sum) m h)

  made : (sum : Sum) → d.run.sum ≡ Some sum → Contains (w.sums ++ made_of j d.run.r d.run.sum) (record { server = j; r = d.run.r; sum = sum.s })
  made sum is = Contains-append_right w.sums (made_of j d.run.r d.run.sum) _ (made_there j d.run.r d.run.sum sum is)

  event_is_tied : IsTied v new
  event_is_tied =
      acted_is_tied w old tied j c at_c d (w.history ++ s ∷ []) (w.sums ++ made_of j d.run.r d.run.sum) did fresh (log w) (with_core old j d auditor) new lines so call
      refl at grows made rules refl (record { roster = refl; opens = refl; group = refl; clients = refl; left = refl }) (record {
        moved = moved;
        takes = record { hears = λ x r t m phase carries now. absurd (calm.delivers now.0 now.1); not_ahead = λ x r t m phase carries now. absurd (calm.delivers now.0 now.1) };
        to_server = λ k m other to now. calm.delivers now.0 now.1;
        texts = λ i h. texts_rest w old old s w.plains (w.sums ++ made_of j d.run.r d.run.sum) tied i (untexted i h);
        sums_of = λ m h. elim (Contains-append_cases w.sums (made_of j d.run.r d.run.sum) m h) [
          | inl was ↦ inl was
          | inr now ↦ inr (ap (λ (z : SumMade). z.server) (made_is j d.run.r d.run.sum m now).2)
        ];
        judge = λ x h. elim (step_cases w s x h) [
          | inl before ↦ inl before
          | inr this ↦ inr (inr (subst OtherStep this (other_step e lines calm.judges (lines_blame_none w.group j d.run.r did (log w) (with_core old j d auditor) new lines so))))
        ];
      })

  pub event_goes_on : RunGoesOn w e lines new
  event_goes_on = record {
    goes = record { run = v; group = refl; history = refl; tied = event_is_tied };
    grows = λ m h. Contains-append_left w.sums (made_of j d.run.r d.run.sum) m h;
    sums = λ m h. elim (Contains-append_cases w.sums (made_of j d.run.r d.run.sum) m h) [
      | inl was ↦ inl was
      | inr now ↦ let is = made_is j d.run.r d.run.sum m now in
          inr (
            d,
            is.0,
            subst (λ (k : ServerId). server_at new k ≡ Some d) (sym (ap (λ (z : SumMade). z.server) is.2)) here_now,
            is.1,
            is.2 ∙ ap (λ (k : ServerId). record { server = k; r = d.run.r; sum = is.0.s }) (sym (ap (λ (z : SumMade). z.server) is.2)),
          )
    ];
    fronts = λ p h. elim (own_fronts w old tied j c at_c d (w.history ++ s ∷ []) (w.sums ++ made_of j d.run.r d.run.sum) did fresh (log w) (with_core old j d auditor) new lines so call
        refl at grows made rules p h) [ inl was ↦ inl was | inr front ↦ inr (λ own_put. front) ];
  } where
    here_now : server_at new j ≡ Some d
    here_now = at_here w old tied j c at_c d (w.history ++ s ∷ []) (w.sums ++ made_of j d.run.r d.run.sum) did fresh (log w) (with_core old j d auditor) new lines so call
        refl at grows made rules refl (record { roster = refl; opens = refl; group = refl; clients = refl; left = refl })
