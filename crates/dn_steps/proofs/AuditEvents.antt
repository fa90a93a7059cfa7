-- What an auditor knows stays right by each event.
use Rattle.std.proofs.Common.{◌≡◌, ℕ, List, [], ◌∷◌, ◌++◌, refl, sym, ap, subst, ◌∙◌, arith, inl, inr, Bool, true, false, cond}
use Rattle.std.specs.Prelude.{Contains, ◌⊎◌, ◌↔◌, ◌==◌, length, Some, None}
use Rattle.std.specs.List.{list_any}
use Rattle.dn_wire.specs.declared.ids.ClientId.{ClientId}
use Rattle.dn_wire.specs.declared.ids.ServerId.{ServerId}
use Rattle.dn_wire.specs.declared.ids.Member.{Member}
use Rattle.dn_wire.specs.declared.ids.Member.TheVariants as members
use Rattle.dn_cert.proofs.Orders.{nothing}
use Rattle.dn_flight.specs.declared.msg.Msg.{Msg}
use Rattle.dn_flight.specs.Flight.{with_id}
use Rattle.dn_audit.specs.Group.{GroupView as Marked}
use Rattle.dn_report.specs.declared.event.Event.{Event}
use Rattle.dn_report.specs.declared.event.Event.TheVariants as events
use Rattle.dn_report.specs.declared.outcome.Outcome.{Outcome}
use Rattle.dn_report.specs.declared.outcome.Outcome.TheVariants as outcomes
use Rattle.dn_report.specs.declared.words.IgnoredWord.TheVariants as ignored
use Rattle.dn_state.specs.declared.calling.Call.TheVariants as called
use Rattle.dn_state.specs.Parts.{PartsView, has}
use Rattle.dn_state.specs.Members.{server_at, client_at}
use Rattle.dn_state.specs.Doing.{injecting}
use Rattle.dn_state.specs.Calling.{SaysText, Leaves, with_text, without_client}
use Rattle.dn_state.specs.Calling.SaysText.{says, rests}
use Rattle.dn_state.specs.Delivering.{Delivers, Reaches, ReachesServer, IsTaken, IsHeard, IsHeardIf, body_of, without_message}
use Rattle.dn_state.specs.Delivering.Delivers.{finds_none, is_taken, is_unopened, reaches as reaches_member}
use Rattle.dn_state.specs.Delivering.ReachesServer.{reaches, passes}
use Rattle.dn_state.specs.Steps.{Steps}
use Rattle.dn_headline.specs.Group.{GroupView, servers_of}
use Rattle.dn_headline.specs.Log.{Log, Put, Step, log_of, message_of, nobody, actor_of, is_own, is_early_or_none, with_outcomes, without, with_removal, with_step}
use Rattle.dn_headline.specs.Run.{RunView, SumMade, log}
use Rattle.dn_auditing.specs.Known.{MarksKeys, Knows, IsOwnFront}
use Rattle.dn_auditing.proofs.Putting.{made_so}
use Rattle.dn_steps.specs.Audited.{IsAudited, IsSumOf, AddsOwn}
use Rattle.dn_steps.specs.Goes.{GoesOn}
use Rattle.dn_steps.specs.Tied.{IsTied}
use Rattle.dn_steps.proofs.Judging.{of_judge}
use Rattle.dn_steps.proofs.Members.{server_is_honest, server_core_is}
use Rattle.dn_steps.proofs.Runs.{next_run, log_next, is_of_put, unput_lines}
use Rattle.dn_steps.proofs.Places.{only}
use Rattle.dn_steps.proofs.Taking.{receiver}
use Rattle.dn_steps.proofs.Unputting.{removal_puts, none_unput, one_unput}
use Rattle.dn_steps.proofs.AuditPuts.{Keeps, AreOwn, keeps_same, keeps_log, put_is_known}
use Rattle.dn_steps.proofs.AuditCalls.{AreTold, IsUncalled, told_still}
use Rattle.dn_steps.proofs.AuditServers.{Walked, walked_same, no_lines, call_walks, ticks_walk, reached_walks}
use Rattle.dn_steps.proofs.AuditClients.{submits_walk, accuses_walk, client_reached_walks}

-- ---- each event

module _ (w : RunView) (old : PartsView) (tied : IsTied w old) (audited : IsAudited w old) where
  abbrev g : GroupView
  g = w.group

  abbrev Walks : Log → PartsView → Type 0
  Walks l new = Walked g old.group w.sums l new

  -- the ciphertexts of the servers' records are the run's
  uncalled : (j : ServerId) → IsUncalled w.sums old j
  uncalled j m same h =
      let honest = server_is_honest w old tied m.server h.core h.there in
      let core = server_core_is old m.server h.core h.there in
      let made = (tied.servers m.server honest).linked.made h.sum (ap (λ c. c.run.sum) core ∙ h.has) in
      subst (Contains w.sums) (sym (h.is ∙ ap (λ c. record { server = m.server; r = c.run.r; sum = h.sum.s }) (sym core))) made

  start : (e : Event) (os : List Outcome) → Walks (with_removal (log w) e os) old
  start e os =
      let same = removal_puts (log w) e os in
      record {
        made = w.sums;
        told = record { all = λ m h. h; only = λ m h. inl h; current = λ m h. uncalled m.server m refl h };
        keeps = keeps_log g old.group w.sums (log w) (with_removal (log w) e os) old same.payloads same.puts
            (record { opens = tied.group.opens; group = refl; payloads = tied.fits.payloads; knows = audited.knows });
      }

  -- lines that put nothing, and parts that differ in nothing of this
  unput_walks : (own : Bool) (actor : Member) (l : Log) (new : PartsView) (lines : List Outcome) → new.payloads ≡ old.payloads → new.group ≡ old.group
      → new.auditor ≡ old.auditor → new.servers ≡ old.servers → ((o : Outcome) → Contains lines o → is_of_put o ≡ false) → Walks l old → Walks (with_outcomes own actor l lines) new
  unput_walks own actor l new lines payloads group auditor servers unput walked =
      subst (λ z. Walks z new) (sym (unput_lines own actor l lines unput).0) (record {
        made = walked.made;
        told = told_still w.sums old new walked.made servers walked.told;
        keeps = keeps_same g old.group walked.made l old new payloads group auditor walked.keeps;
      })

  -- ---- messages

  -- parts from which a message was taken
  gone : (l : Log) (id : ℕ) → Walks l old → Walks l (without_message old id)
  gone l id walked = record {
    made = walked.made;
    told = told_still w.sums old (without_message old id) walked.made refl walked.told;
    keeps = keeps_same g old.group walked.made l old (without_message old id) refl refl refl walked.keeps;
  }

  taken_same : (p : ℕ) (to : Member) (parts taken : PartsView) → IsTaken p to parts taken
      → (taken.payloads ≡ parts.payloads) × (taken.group ≡ parts.group) × (taken.auditor ≡ parts.auditor) × (taken.servers ≡ parts.servers)
  taken_same p (members.Client i) parts taken same = (ap (λ x. x.payloads) same, ap (λ x. x.group) same, ap (λ x. x.auditor) same, ap (λ x. x.servers) same)
  taken_same p (members.Server j) parts taken h = by (has parts.delivered p) h
    where
      by : (t : Bool) → IsHeardIf t p parts taken
          → (taken.payloads ≡ parts.payloads) × (taken.group ≡ parts.group) × (taken.auditor ≡ parts.auditor) × (taken.servers ≡ parts.servers)
      by true same = (ap (λ x. x.payloads) same, ap (λ x. x.group) same, ap (λ x. x.auditor) same, ap (λ x. x.servers) same)
      by false same = (ap (λ x. x.payloads) same, ap (λ x. x.group) same, ap (λ x. x.auditor) same, ap (λ x. x.servers) same)

  server_reached : (m : Msg) (j : ServerId) (l : Log) (new : PartsView) (lines : List Outcome) → ReachesServer m j old new lines
      → AreOwn g (with_outcomes true (members.Server j) l lines).puts → Walks l old → Walks (with_outcomes true (members.Server j) l lines) new
  server_reached m j l new lines (reaches x before opens at core) are walked =
      reached_walks g tied.group.is_roster old.group audited.marks w.sums m j x before core.answer core.last (body_of x) l old core.replied new lines at core.replies core.comes
      (uncalled j) are walked
  server_reached m j l new lines (passes nobody h) are walked =
      no_lines g tied.group.is_roster old.group audited.marks w.sums true (members.Server j) l (without_message old m.id) new lines h.0 h.1 (gone l m.id walked)

  member_reached : (m : Msg) (to : Member) (l : Log) (new : PartsView) (lines : List Outcome) → Reaches m to old new lines → AreOwn g (with_outcomes true to l lines).puts
      → Walks l old → Walks (with_outcomes true to l lines) new
  member_reached m (members.Client i) l new lines h are walked =
      client_reached_walks g tied.group.is_roster old.group audited.marks w.sums i m.payload l (without_message old m.id) new lines h are (gone l m.id walked)
  member_reached m (members.Server j) l new lines h are walked = server_reached m j l new lines h are walked

  deliver_walks : (id : ℕ) (l : Log) (new : PartsView) (lines : List Outcome) → Delivers id old new lines
      → AreOwn g (with_outcomes true (message_of (log w) id).to l lines).puts → Walks l old → Walks (with_outcomes true (message_of (log w) id).to l lines) new
  deliver_walks id l new lines (finds_none none tells) are walked =
      unput_walks true (message_of (log w) id).to l new lines (ap (λ x. x.payloads) tells.0) (ap (λ x. x.group) tells.0) (ap (λ x. x.auditor) tells.0) (ap (λ x. x.servers) tells.0)
      (one_unput (outcomes.Ignored ignored.None) lines tells.1 refl) walked
  deliver_walks id l new lines (is_taken m taken found marked takes tells) are walked =
      let same = taken_same m.payload m.to (without_message old id) taken takes in
      unput_walks true (message_of (log w) id).to l new lines (ap (λ x. x.payloads) tells.0 ∙ same.0) (ap (λ x. x.group) tells.0 ∙ same.1) (ap (λ x. x.auditor) tells.0 ∙ same.2)
      (ap (λ x. x.servers) tells.0 ∙ same.3) (one_unput outcomes.Taken lines tells.1 refl) walked
  deliver_walks id l new lines (is_unopened m word found honest why tells) are walked =
      unput_walks true (message_of (log w) id).to l new lines (ap (λ x. x.payloads) tells.0) (ap (λ x. x.group) tells.0) (ap (λ x. x.auditor) tells.0) (ap (λ x. x.servers) tells.0)
      (one_unput (outcomes.Unopened word) lines tells.1 refl) walked
  deliver_walks id l new lines (reaches_member m found honest opens h) are walked =
      let to = receiver w old id m tied found in
      subst (λ a. Walks (with_outcomes true a l lines) new) (sym to)
      (member_reached m m.to l new lines h (subst (λ a. AreOwn g (with_outcomes true a l lines).puts) to are) walked)

  -- ---- all of them

  pub event_walks : (e : Event) (l : Log) (new : PartsView) (lines : List Outcome) → Steps e old new lines → AreOwn g (with_outcomes (is_own e) (actor_of (log w) e) l lines).puts
      → Walks l old → Walks (with_outcomes (is_own e) (actor_of (log w) e) l lines) new
  event_walks (events.Say i text) l new lines (says before at h) are walked =
      unput_walks true (members.Client i) l new lines (ap (λ x. x.payloads) h.0) (ap (λ x. x.group) h.0) (ap (λ x. x.auditor) h.0) (ap (λ x. x.servers) h.0)
      (none_unput lines h.1) walked
  event_walks (events.Say i text) l new lines (rests none h) are walked =
      unput_walks true (members.Client i) l new lines (ap (λ x. x.payloads) h.0) (ap (λ x. x.group) h.0) (ap (λ x. x.auditor) h.0) (ap (λ x. x.servers) h.0)
      (none_unput lines h.1) walked
  event_walks (events.OpenRound j r) l new lines h are walked =
      call_walks g tied.group.is_roster old.group audited.marks w.sums (called.Open r) j l old new lines h (uncalled j) are walked
  event_walks (events.Close j) l new lines h are walked =
      call_walks g tied.group.is_roster old.group audited.marks w.sums called.Close j l old new lines h (uncalled j) are walked
  event_walks (events.Abandon j) l new lines h are walked =
      call_walks g tied.group.is_roster old.group audited.marks w.sums called.Abandon j l old new lines h (uncalled j) are walked
  event_walks (events.Submit i j r) l new lines h are walked = submits_walk g tied.group.is_roster old.group audited.marks w.sums i j r l old new lines h are walked
  event_walks (events.Deliver id) l new lines h are walked = deliver_walks id l new lines h are walked
  event_walks (events.Lose id) l new lines h are walked =
      unput_walks true nobody l new lines (ap (λ x. x.payloads) h.0) (ap (λ x. x.group) h.0) (ap (λ x. x.auditor) h.0) (ap (λ x. x.servers) h.0) (none_unput lines h.1) walked
  event_walks events.Tick l new lines h are walked =
      ticks_walk g tied.group.is_roster old.group audited.marks w.sums 0 _ nobody l old new lines h (λ k above. uncalled k) are walked
  event_walks (events.Leave i) l new lines h are walked =
      unput_walks true (members.Client i) l new lines (ap (λ x. x.payloads) h.0) (ap (λ x. x.group) h.0) (ap (λ x. x.auditor) h.0) (ap (λ x. x.servers) h.0)
      (one_unput (outcomes.Dropped _) lines h.1 refl) walked
  event_walks (events.Accuse i r k) l new lines h are walked = accuses_walk g tied.group.is_roster old.group audited.marks w.sums i r k l old new lines h are walked
  event_walks (events.Judge r k) l new lines h are walked =
      unput_walks true nobody l new lines (ap (λ x. x.payloads) h.0) (ap (λ x. x.group) h.0) (ap (λ x. x.auditor) h.0) (ap (λ x. x.servers) h.0)
      (λ o there. (of_judge old r k lines h.1 o there).0) walked
  event_walks (events.Inject from to payload) l new lines h are walked = record {
    made = walked.made;
    told = told_still w.sums old new walked.made h.members.servers walked.told;
    keeps = put_is_known g tied.group.is_roster old.group audited.marks walked.made l old new (injecting from) (to ∷ []) payload lines walked.keeps h are;
  }

  -- ---- the run that goes on

  module _ (e : Event) (new : PartsView) (lines : List Outcome) (h : Steps e old new lines) (goes : GoesOn w e lines new) (adds : AddsOwn w goes.run new) where
    abbrev v : RunView
    v = goes.run

    abbrev s : Step
    s = record { event = e; outcomes = lines }

    at : log v ≡ with_step (log w) s
    at = ap log_of goes.history ∙ log_next w s w.plains w.sums

    fronts : (p : Put) → Contains (log v).puts p → IsOwnFront v.group p
    fronts p there = elim (adds.fronts p there) [
      | inl before ↦ subst (λ (x : GroupView). IsOwnFront x p) (sym goes.group) (audited.fronts p before)
      | inr own ↦ own
    ]

    own_puts : AreOwn g (with_step (log w) s).puts
    own_puts p there = subst (λ (x : GroupView). IsOwnFront x p) goes.group (fronts p (subst (λ (z : Log). Contains z.puts p) (sym at) there))

    walked : Walks (with_step (log w) s) new
    walked = event_walks e (with_removal (log w) e lines) new lines h own_puts (start e lines)

    in_run : (m : SumMade) → IsSumOf new m → Contains v.sums m
    in_run m now =
        let honest = server_is_honest v new goes.tied m.server now.core now.there in
        let core = server_core_is new m.server now.core now.there in
        let made = (goes.tied.servers m.server honest).linked.made now.sum (ap (λ c. c.run.sum) core ∙ now.has) in
        subst (Contains v.sums) (sym (now.is ∙ ap (λ c. record { server = m.server; r = c.run.r; sum = now.sum.s }) (sym core))) made

    same_sums : (m : SumMade) → Contains walked.made m ↔ Contains v.sums m
    same_sums m = (
      λ told. elim (walked.told.only m told) [ inl before ↦ adds.grows m before | inr now ↦ in_run m now ],
      λ made. elim (adds.sums m made) [ inl before ↦ walked.told.all m before | inr now ↦ walked.told.current m now ],
    )

    -- the auditor knows it
    pub audit_goes_on : IsAudited goes.run new
    audit_goes_on = record {
      marks = subst (λ (x : GroupView). MarksKeys x new.group) (sym goes.group) (subst (MarksKeys g) (sym walked.keeps.group) audited.marks);
      servers = ap (λ (m : Marked). length m.servers) walked.keeps.group ∙ audited.servers ∙ ap servers_of (sym goes.group);
      fronts = fronts;
      knows = subst (λ (x : GroupView). Knows x (log v).puts v.sums new.auditor) (sym goes.group)
          (subst (λ (z : Log). Knows g z.puts v.sums new.auditor) (sym at)
          (made_so g (with_step (log w) s).puts walked.made v.sums new.auditor same_sums walked.keeps.knows));
    }
