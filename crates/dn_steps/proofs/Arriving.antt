-- A message reaches an honest server, and its core answers.
use Rattle.std.proofs.Common.{◌≡◌, ◌≢◌, ℕ, ◌≤◌, List, [], ◌∷◌, ◌++◌, refl, sym, ap, subst, ◌∙◌, inl, inr, Bool, true, false}
use Rattle.std.specs.Prelude.{Contains, ◌⊎◌, Option, Some, None, slice_set}
use Rattle.std.specs.List.{list_any}
use Rattle.std.proofs.lemmas.List.Elements.{Contains-append_left, Contains-append_right, Contains-append_cases}
use Rattle.dn_wire.specs.declared.ids.ServerId.{ServerId}
use Rattle.dn_wire.specs.declared.ids.Round.{Round}
use Rattle.dn_wire.specs.declared.ids.Member.{Member}
use Rattle.dn_wire.specs.declared.ids.Member.TheVariants as members
use Rattle.dn_wire.specs.declared.ids.SignerId.{SignerId}
use Rattle.dn_wire.specs.declared.ids.SignerId.TheVariants.{Server}
use Rattle.dn_record_types.specs.declared.body.Body.{Body}
use Rattle.dn_record_types.specs.declared.statement.Statement.{Statement}
use Rattle.dn_seal.specs.Said.{SaidView}
use Rattle.dn_cert.proofs.Orders.{here, nothing}
use Rattle.dn_audit.specs.Auditor.{AuditorView}
use Rattle.dn_server.specs.declared.act.Act.{Act}
use Rattle.dn_server.specs.declared.answer.Answer.{Answer}
use Rattle.dn_server.specs.declared.answer.Answer.TheVariants as answers
use Rattle.dn_server.specs.declared.answer.Reason.{Reason}
use Rattle.dn_server.specs.declared.run.Sum.{Sum}
use Rattle.dn_server.specs.Server.{ServerView}
use Rattle.dn_report.specs.declared.event.Event.TheVariants as events
use Rattle.dn_report.specs.declared.outcome.Outcome.{Outcome}
use Rattle.dn_report.specs.declared.outcome.Outcome.TheVariants as outcomes
use Rattle.dn_payloads.specs.Payloads.{PayloadView}
use Rattle.dn_flight.specs.declared.msg.Msg.{Msg}
use Rattle.dn_flight.specs.Flight.{with_id}
use Rattle.dn_state.specs.Parts.{PartsView, has}
use Rattle.dn_state.specs.Words.{ignored_word_of}
use Rattle.dn_state.specs.Members.{server_at, with_server}
use Rattle.dn_state.specs.Acting.{ComesOf}
use Rattle.dn_state.specs.Calling.{KeepsRules}
use Rattle.dn_state.specs.Delivering.{without_message, tells_held, TellsBodyIf, IsHeard, IsHeardIf, ComesOfMessage}
use Rattle.dn_state.specs.Delivering.ComesOfMessage.{keeps, does}
use Rattle.dn_headline.specs.Group.{GroupView}
use Rattle.dn_headline.specs.Log.{Step, Log, Message, Put, message_of, is_early_or_none, with_outcomes, with_removal, AreNumbered}
use Rattle.dn_headline.specs.Run.{RunView, SumMade, log}
use Rattle.dn_headline.specs.Spoken.{Says}
use Rattle.dn_headline.specs.Delivered.{IsPhaseOf}
use Rattle.dn_headline.specs.Step.{Grows}
use Rattle.dn_links.specs.MessageLink.{LogMoves}
use Rattle.dn_links.specs.MessageLink.LogMoves.{by_step}
use Rattle.dn_links.specs.Judging.{OtherStep}
use Rattle.dn_steps.specs.Fitting.{FitsLog}
use Rattle.dn_steps.specs.Tied.{IsTied}
use Rattle.dn_steps.proofs.Places.{only, no_more, one_at}
use Rattle.dn_steps.proofs.Removing.{with_delivered, delivered_fits, heard_fits}
use Rattle.dn_steps.proofs.Runs.{next_run, log_next, step_cases, run_grows, all_taken, is_quiet, is_of_put, is_blame, unput_lines}
use Rattle.dn_steps.proofs.Quiet.{texts_rest}
use Rattle.dn_steps.proofs.Resting.{same_members, none_put, rested}
use Rattle.dn_steps.proofs.Idle.{clash, other_step}
use Rattle.dn_steps.proofs.OneServer.{SameClients}
use Rattle.dn_steps.proofs.Taking.{IsPlain, delivering, taken_log, in_flight, receiver, payload, number, same_deliver}
use Rattle.dn_steps.proofs.Acting.{ActsSo, plain_so}
use Rattle.dn_steps.proofs.ActLines.{lines_taken, lines_blame_none}
use Rattle.dn_steps.proofs.Carrying.{AreCarried, carried_so}
use Rattle.dn_steps.proofs.InRound.{ActsInRound}
use Rattle.dn_steps.proofs.Acted.{acted_is_tied, at_here, own_fronts}
use Rattle.dn_steps.proofs.ServedEvents.{RunGoesOn, nothing_new, made_of, made_there, made_is}
use Rattle.dn_steps.proofs.ClosingEvents.{ignored_plain}

-- ---- what comes of an answer that isn't early

-- nothing more is told where there is no certificate
no_body : (t : Bool) (mid new : PartsView) (lines : List Outcome) → TellsBodyIf t None mid new lines → (new ≡ mid) × (lines ≡ [])
no_body true mid new lines h = h
no_body false mid new lines h = h

acts_same : (did more : List Act) → answers.Acts did ≡ answers.Acts more → did ≡ more
acts_same did more e = cc

kept_plain : IsPlain outcomes.Kept
kept_plain = record { quiet = refl; unput = refl; taken = refl; blames = refl }

pub comes_so : (g : GroupView) (j : ServerId) (last : Round) (did : List Act) (answer : Answer) (log : Log) (heard new : PartsView) (lines : List Outcome) → FitsLog g log heard
    → heard.payloads.roster ≡ g.roster → AreCarried g.roster did → answer ≡ answers.Acts did → ComesOfMessage j last answer None heard new lines
    → ActsSo g j last did log heard new lines
comes_so g j last did answer log heard new lines fits opens carried is (keeps none tells) =
    subst (λ (xs : List Act). ActsSo g j last xs log heard new lines) (acts_same [] did (sym none ∙ is))
    (plain_so g j last outcomes.Kept log heard new lines fits kept_plain tells.0 tells.1)
comes_so g j last did answer log heard new lines fits opens carried is (does some out) =
    let first = subst (λ (a : Answer). ComesOf j last a heard out.between out.lines_first) is out.does in
    let rest = no_body (tells_held out.lines_first) out.between new out.lines_rest out.tells in
    let all : lines ≡ out.lines_first = out.told ∙ ap (λ (xs : List Outcome). out.lines_first ++ xs) rest.1 ∙ sym (no_more out.lines_first) in
    subst (ActsSo g j last did log heard new) (sym all) (subst (λ (z : PartsView). ActsSo g j last did log heard z out.lines_first) (sym rest.0)
    (carried_so g j last did log heard out.between out.lines_first fits opens carried first))

pub ignored_so : (g : GroupView) (j : ServerId) (last : Round) (reason : Reason) (answer : Answer) (log : Log) (heard new : PartsView) (lines : List Outcome) → FitsLog g log heard
    → answer ≡ answers.Ignored reason → ComesOfMessage j last answer None heard new lines → ActsSo g j last [] log heard new lines
ignored_so g j last reason answer log heard new lines fits is (keeps none tells) = let x = sym is ∙ none in absurd cc
ignored_so g j last reason answer log heard new lines fits is (does some out) =
    let first = subst (λ (a : Answer). ComesOf j last a heard out.between out.lines_first) is out.does in
    let rest = no_body (tells_held out.lines_first) out.between new out.lines_rest out.tells in
    let all : lines ≡ outcomes.Ignored (ignored_word_of reason) ∷ [] = out.told ∙ (λ t. first.1 t ++ rest.1 t) in
    plain_so g j last (outcomes.Ignored (ignored_word_of reason)) log heard new lines fits (ignored_plain reason) (rest.0 ∙ first.0) all

-- ---- the message is early

pub early_goes_on : (w : RunView) (old : PartsView) (id : ℕ) → IsTied w old → RunGoesOn w (events.Deliver id) (outcomes.Early ∷ []) old
early_goes_on w old id tied =
    nothing_new w (events.Deliver id) (outcomes.Early ∷ []) old (rested w old old (delivering id (outcomes.Early ∷ [])) tied (record {
      quiet = λ o told. ap is_quiet (sym (only outcomes.Early o told));
      members = same_members old;
      fits = subst (λ (l : Log). FitsLog w.group l old) (sym at) tied.fits;
      orderly = record { numbered = unput.1; delivers = λ n e taken. absurd cc };
      unput = λ n p past at_n own. none_put (log w).puts (log (next_run w (delivering id (outcomes.Early ∷ [])) w.plains w.sums)).puts (ap (λ (l : Log). l.puts) at) n p past at_n;
      unheard = λ x j r t y honest phase carries now. clash true refl now.2;
      untexted = λ i honest. refl;
      judge = λ x there. elim (step_cases w (delivering id (outcomes.Early ∷ [])) x there) [
        | inl before ↦ inl before
        | inr this ↦ inr (inr (subst OtherStep this (other_step (events.Deliver id) (outcomes.Early ∷ []) (λ r k e. absurd cc) (λ o told. ap is_blame (sym (only outcomes.Early o told))))))
      ];
    })) (ap (λ (l : Log). l.puts) at)
  where
    unput : (with_outcomes true (message_of (log w) id).to (log w) (outcomes.Early ∷ []) ≡ log w) × AreNumbered true (message_of (log w) id).to (log w) (outcomes.Early ∷ [])
    unput = unput_lines true (message_of (log w) id).to (log w) (outcomes.Early ∷ []) (λ o told. ap is_of_put (sym (only outcomes.Early o told)))

    at : log (next_run w (delivering id (outcomes.Early ∷ [])) w.plains w.sums) ≡ log w
    at = log_next w (delivering id (outcomes.Early ∷ [])) w.plains w.sums ∙ unput.0

-- ---- the message is taken

module _ (w : RunView) (old : PartsView) (id : ℕ) (m : Msg) (tied : IsTied w old) (found : with_id id old.flight.msgs ≡ Some m) (j : ServerId) (to : m.to ≡ members.Server j)
    (c : ServerView) (at_c : server_at old j ≡ Some c) where
  abbrev start : Log
  start = with_delivered (log w) id

  -- the parts with this core of the server's, and the message taken and heard
  pub record HasTaken (d : ServerView) (heard : PartsView) : Type 0 where
    pub servers : heard.servers ≡ slice_set old.servers j.0 (Some d)
    pub rest : SameClients old heard
    pub fits : FitsLog w.group (with_delivered (log w) id) heard

  actor : (message_of (log w) id).to ≡ members.Server j
  actor = receiver w old id m tied found ∙ to

  pub taken_so : (d : ServerView) (replied heard : PartsView) (auditor : AuditorView) → replied ≡ record (with_server old j d) { auditor = auditor }
      → IsHeard m.payload (without_message replied m.id) heard → HasTaken d heard
  taken_so d replied heard auditor is hears =
      let gone = delivered_fits w.group (log w) old id tied.fits in
      let mid = without_message (record (with_server old j d) { auditor = auditor }) id in
      let mid_fits : FitsLog w.group (with_delivered (log w) id) mid = record { payloads = gone.payloads; flight = gone.flight; chain = gone.chain; heard = gone.heard } in
      let there : IsHeard m.payload mid heard =
      subst (λ (n : ℕ). IsHeard m.payload (without_message (record (with_server old j d) { auditor = auditor }) n) heard) (number w old id m tied found)
      (subst (λ (z : PartsView). IsHeard m.payload (without_message z m.id) heard) is hears) in
      let p = payload w old id m tied found in
      record {
        servers = keeps_servers d mid (has mid.delivered m.payload) heard there refl;
        rest = keeps_rest mid (has mid.delivered m.payload) heard there (record { roster = refl; opens = refl; group = refl; clients = refl; left = refl });
        fits = heard_fits w.group (with_delivered (log w) id) mid heard m.payload p.0 (message_of (log w) id) j mid_fits p.1 (one_at old.payloads.items m.payload p.0 p.1)
            (Contains-append_right (log w).delivered (message_of (log w) id ∷ []) (message_of (log w) id) (here (message_of (log w) id) []))
            (receiver w old id m tied found ∙ to) p.2 there;
      }
    where
      keeps_servers : (e : ServerView) (a : PartsView) (t : Bool) (b : PartsView) → IsHeardIf t m.payload a b → a.servers ≡ slice_set old.servers j.0 (Some e)
          → b.servers ≡ slice_set old.servers j.0 (Some e)
      keeps_servers e a true b same h = ap (λ (z : PartsView). z.servers) same ∙ h
      keeps_servers e a false b first h = ap (λ (z : PartsView). z.servers) first ∙ h

      keeps_rest : (a : PartsView) (t : Bool) (b : PartsView) → IsHeardIf t m.payload a b → SameClients old a → SameClients old b
      keeps_rest a true b same h = subst (SameClients old) (sym same) h
      keeps_rest a false b first h =
          subst (SameClients old) (sym first) (record { roster = h.roster; opens = h.opens; group = h.group; clients = h.clients; left = h.left })

  -- what the core makes of what a server says in the message: it keeps it where it runs that round, and it is of no round above its last one
  pub record TakesIn (d : ServerView) : Type 0 where
    pub hears : (x : ServerId) (r : Round) (t : Statement) → IsPhaseOf r t → Says w.group.roster (message_of (log w) id).bytes (Server x) t → d.run.r.0 ≡ r.0 → d.run.is_running ≡ true
        → (said : SaidView) × Contains d.run.kept said × (said.signer ≡ Server x) × (said.statement ≡ t)
    pub not_ahead : (x : ServerId) (r : Round) (t : Statement) → IsPhaseOf r t → Says w.group.roster (message_of (log w) id).bytes (Server x) t → r.0 ≤ d.run.r.0

  module _ (d : ServerView) (rules : KeepsRules c d) (did : List Act) (fresh : List Statement) (call : ActsInRound w j c did d fresh) (heard new : PartsView) (has_taken : HasTaken d heard)
      (lines : List Outcome) (so : ActsSo w.group j d.run.r did (with_delivered (log w) id) heard new lines) (takes : TakesIn d) where
    abbrev s : Step
    s = delivering id lines

    abbrev sums : List SumMade
    sums = w.sums ++ made_of j d.run.r d.run.sum

    abbrev v : RunView
    v = next_run w s w.plains (w.sums ++ made_of j d.run.r d.run.sum)

    removal : with_removal (log w) (events.Deliver id) lines ≡ start
    removal = taken_log (log w) id lines (all_taken lines (lines_taken w.group j d.run.r did start heard new lines so))

    at : log v ≡ with_outcomes true (members.Server j) start lines
    at =
        log_next w s w.plains (w.sums ++ made_of j d.run.r d.run.sum) ∙ ap (λ (l : Log). with_outcomes true (message_of (log w) id).to l lines) removal
        ∙ ap (λ (a : Member). with_outcomes true a start lines) actor

    abbrev moved : LogMoves (log w) (log v)
    moved = by_step s (record {
      numbered = subst (λ (l : Log). AreNumbered true (message_of (log w) id).to l lines) (sym removal)
          (subst (λ (a : Member). AreNumbered true a start lines) (sym actor) so.numbered);
      delivers = λ n e was. subst (Contains (log w).flight) (same_deliver w old id m tied found n lines e) (in_flight w old id m tied found);
    }) (log_next w s w.plains (w.sums ++ made_of j d.run.r d.run.sum))

    grows : Grows w v lines
    grows = run_grows w s w.plains (w.sums ++ made_of j d.run.r d.run.sum) (λ x h. h) (λ x h. Contains-append_left w.sums (made_of j d.run.r d.run.sum) x h)

    made : (sum : Sum) → d.run.sum ≡ Some sum → Contains (w.sums ++ made_of j d.run.r d.run.sum) (record { server = j; r = d.run.r; sum = sum.s })
    made sum is = Contains-append_right w.sums (made_of j d.run.r d.run.sum) _ (made_there j d.run.r d.run.sum sum is)

    -- the message that is delivered is this one
    this_one : (y : Message) → (n : ℕ) × (s.event ≡ events.Deliver n) × (list_any is_early_or_none s.outcomes ≡ false) × (message_of (log w) n ≡ y) → y ≡ message_of (log w) id
    this_one y now = sym now.3 ∙ ap (message_of (log w)) (sym (same_deliver w old id m tied found now.0 lines now.1))

    not_others : (k : ServerId) → k.0 ≢ j.0 → members.Server j ≡ members.Server k → ⊥
    not_others k other e = other (number_of e) where
      number_of : members.Server j ≡ members.Server k → k.0 ≡ j.0
      number_of x = cc

    tied_now : IsTied v new
    tied_now =
        acted_is_tied w old tied j c at_c d (w.history ++ s ∷ []) (w.sums ++ made_of j d.run.r d.run.sum) did fresh start heard new lines so call
        refl at grows made rules has_taken.servers has_taken.rest (record {
          moved = moved;
          takes = record {
            hears = λ x r t y phase carries now last runs. takes.hears x r t phase (subst (λ (z : Message). Says w.group.roster z.bytes (Server x) t) (this_one y now) carries.says) last runs;
            not_ahead = λ x r t y phase carries now. takes.not_ahead x r t phase (subst (λ (z : Message). Says w.group.roster z.bytes (Server x) t) (this_one y now) carries.says);
          };
          to_server = λ k y other to_k now. not_others k other (sym actor ∙ ap (λ (z : Message). z.to) (sym (this_one y now)) ∙ to_k);
          texts = λ i h. texts_rest w old old s w.plains (w.sums ++ made_of j d.run.r d.run.sum) tied i refl;
          sums_of = λ x h. elim (Contains-append_cases w.sums (made_of j d.run.r d.run.sum) x h) [
            | inl was ↦ inl was
            | inr now ↦ inr (ap (λ (z : SumMade). z.server) (made_is j d.run.r d.run.sum x now).2)
          ];
          judge = λ x h. elim (step_cases w s x h) [
            | inl before ↦ inl before
            | inr this ↦ inr (inr (subst OtherStep this (other_step (events.Deliver id) lines (λ r k e. absurd cc) (lines_blame_none w.group j d.run.r did start heard new lines so))))
          ];
        })

    here_now : server_at new j ≡ Some d
    here_now = at_here w old tied j c at_c d (w.history ++ s ∷ []) (w.sums ++ made_of j d.run.r d.run.sum) did fresh start heard new lines so call
        refl at grows made rules has_taken.servers has_taken.rest

    pub taken_goes_on : RunGoesOn w (events.Deliver id) lines new
    taken_goes_on = record {
      goes = record { run = v; group = refl; history = refl; tied = tied_now };
      grows = λ x h. Contains-append_left w.sums (made_of j d.run.r d.run.sum) x h;
      sums = λ x h. elim (Contains-append_cases w.sums (made_of j d.run.r d.run.sum) x h) [
        | inl was ↦ inl was
        | inr now ↦ let is = made_is j d.run.r d.run.sum x now in
            inr (
              d,
              is.0,
              subst (λ (k : ServerId). server_at new k ≡ Some d) (sym (ap (λ (z : SumMade). z.server) is.2)) here_now,
              is.1,
              is.2 ∙ ap (λ (k : ServerId). record { server = k; r = d.run.r; sum = is.0.s }) (sym (ap (λ (z : SumMade). z.server) is.2)),
            )
      ];
      fronts = λ p h. elim (own_fronts w old tied j c at_c d (w.history ++ s ∷ []) (w.sums ++ made_of j d.run.r d.run.sum) did fresh start heard new lines so call
          refl at grows made rules p h) [ inl was ↦ inl was | inr front ↦ inr (λ own_put. front) ];
    }
