-- After a step in which no core is called, what ties a world's parts to its run stays.
use Rattle.std.proofs.Common.{◌≡◌, ℕ, ◌≤◌, ◌<◌, List, [], ◌∷◌, ◌++◌, length, refl, sym, ap, subst, ◌∙◌, arith, true, false}
use Rattle.std.specs.Prelude.{All, Option, Some, slice_get}
use Rattle.std.specs.List.{list_any}
use Rattle.std.proofs.lemmas.Option.{slice_get_within}
use Rattle.std.proofs.lemmas.List.{length-map}
use Rattle.dn_wire.specs.declared.ids.ClientId.{ClientId}
use Rattle.dn_wire.specs.declared.ids.ServerId.{ServerId}
use Rattle.dn_wire.specs.declared.ids.Round.{Round}
use Rattle.dn_record_types.specs.declared.statement.Statement.{Statement}
use Rattle.dn_cert.proofs.Orders.{All-from_contains}
use Rattle.dn_client.specs.Client.{ClientView}
use Rattle.dn_server.specs.Server.{ServerView}
use Rattle.dn_report.specs.declared.event.Event.TheVariants as events
use Rattle.dn_payloads.specs.Payloads.{PayloadView}
use Rattle.dn_flight.specs.declared.msg.Msg.{Msg}
use Rattle.dn_audit.specs.Group.{GroupView as MarkedGroup, is_corrupt as is_marked}
use Rattle.dn_roster.specs.Roster.{RosterView}
use Rattle.dn_state.specs.Parts.{PartsView, IsWhole, HaveClients, HaveServers}
use Rattle.dn_state.specs.Delivering.{without_message}
use Rattle.dn_headline.specs.Group.{GroupView, IsHonestServer, IsHonestClient}
use Rattle.dn_headline.specs.Log.{Step, Log, Message, Put, message_of, is_early_or_none, IsOrderly}
use Rattle.dn_headline.specs.Run.{RunView, log}
use Rattle.dn_headline.specs.Plains.{text_in}
use Rattle.dn_headline.specs.Delivered.{IsPhaseOf}
use Rattle.dn_headline.specs.Invariant.{Carries}
use Rattle.dn_links.specs.Call.{IsCall}
use Rattle.dn_links.specs.Judging.{JudgeCalled}
use Rattle.dn_steps.specs.Cores.{server_of, client_of, facts_in}
use Rattle.dn_steps.specs.Fitting.{FitsGroup, FitsLog}
use Rattle.dn_steps.specs.Openings.{KeepsOpenings}
use Rattle.dn_steps.specs.Tied.{IsTied}
use Rattle.dn_steps.proofs.Runs.{next_run, run_grows, AreQuiet}
use Rattle.dn_steps.proofs.Quiet.{servers_rest, rounds_rest, messages_rest, clients_rest}
use Rattle.dn_steps.proofs.Tying.{still_tied}

-- the parts have the group and the members that they had
pub record SameMembers (old new : PartsView) : Type 0 where
  pub roster : new.roster ≡ old.roster
  pub opens : new.payloads.roster ≡ old.payloads.roster
  pub group : new.group ≡ old.group
  pub clients : new.clients ≡ old.clients
  pub servers : new.servers ≡ old.servers
  pub left : length new.left ≡ length old.left

pub same_members : (parts : PartsView) → SameMembers parts parts
same_members parts = record { roster = refl; opens = refl; group = refl; clients = refl; servers = refl; left = refl }

pub without_keeps_members : (parts : PartsView) (id : ℕ) → SameMembers parts (without_message parts id)
without_keeps_members parts id = record { roster = refl; opens = refl; group = refl; clients = refl; servers = refl; left = refl }

pub group_fits_too : (g : GroupView) (old new : PartsView) → new.roster ≡ old.roster → new.payloads.roster ≡ old.payloads.roster → new.group ≡ old.group → FitsGroup g old
    → FitsGroup g new
group_fits_too g old new roster opens group fits = record {
  is_roster = fits.is_roster;
  roster = roster ∙ fits.roster;
  opens = opens ∙ fits.opens;
  owners = ap (λ (z : MarkedGroup). z.owners) group ∙ fits.owners;
  corrupt = λ m among. ap (λ (z : MarkedGroup). is_marked z m) group ∙ fits.corrupt m among;
}

-- what each message in flight carries was put
pub carried : (g : GroupView) (l : Log) (parts : PartsView) → FitsLog g l parts → All (λ (m : Msg). m.payload < length parts.payloads.items) parts.flight.msgs
carried g l parts fits =
    All-from_contains (λ (m : Msg). m.payload < length parts.payloads.items) parts.flight.msgs (λ m h.
    let within = slice_get_within l.payloads m.payload (message_of l m.id).bytes (fits.flight.messages m h).payload in
    let long = ap (λ (bs : List (List ℕ)). length bs) fits.payloads.numbers ∙ length-map parts.payloads.items (λ (x : PayloadView). x.bytes) in
    subst (λ (n : ℕ). m.payload < n) long within)

pub whole_too : (g : GroupView) (l : Log) (old new : PartsView) → SameMembers old new → FitsLog g l new → IsWhole old → IsWhole new
whole_too g l old new same fits whole = record {
  opens = same.opens ∙ whole.opens ∙ sym same.roster;
  clients_long = ap (λ (cs : List (Option ClientView)). length cs) same.clients ∙ whole.clients_long ∙ ap (λ (z : RosterView). length z.clients) (sym same.roster);
  servers_long = ap (λ (cs : List (Option ServerView)). length cs) same.servers ∙ whole.servers_long ∙ ap (λ (z : RosterView). length z.servers) (sym same.roster);
  left_long = same.left ∙ whole.left_long ∙ ap (λ (z : RosterView). length z.clients) (sym same.roster);
  clients = subst (λ (z : MarkedGroup). HaveClients z new.clients) (sym same.group) (subst (HaveClients old.group) (sym same.clients) whole.clients);
  servers = subst (λ (z : MarkedGroup). HaveServers z new.servers) (sym same.group) (subst (HaveServers old.group) (sym same.servers) whole.servers);
  carried = carried g l new fits;
}

-- nothing was put
pub none_put : (before after : List Put) → after ≡ before → (at : ℕ) (p : Put) → length before ≤ at → slice_get after at ≡ Some p → ⊥
none_put before after same at p new there =
    let within = slice_get_within before at p (subst (λ (ps : List Put). slice_get ps at ≡ Some p) same there) in omega arith

module _ (w : RunView) (old new : PartsView) (s : Step) (tied : IsTied w old) where
  abbrev v : RunView
  v = next_run w s w.plains w.sums

  -- nobody's core is called
  pub record Rests : Type 0 where
    pub quiet : AreQuiet s.outcomes
    pub members : SameMembers old new
    pub fits : FitsLog w.group (log v) new
    pub orderly : IsOrderly (log w) s
    pub unput : (at : ℕ) (p : Put) → length (log w).puts ≤ at → slice_get (log v).puts at ≡ Some p → p.own ≡ true → ⊥
    pub unheard : (x j : ServerId) (r : Round) (t : Statement) (m : Message) → IsHonestServer w.group j → IsPhaseOf r t → Carries v x j t m
        → (id : ℕ) × (s.event ≡ events.Deliver id) × (list_any is_early_or_none s.outcomes ≡ false) × (message_of (log w) id ≡ m) → ⊥
    pub untexted : (i : ClientId) → IsHonestClient w.group i → text_in i s.event ≡ []
    pub judge : JudgeCalled w v

  module _ (rest : Rests) where
    pub same_server : (j : ServerId) → server_of new j ≡ server_of old j
    same_server j = λ t. server_of (record old { roster = rest.members.roster t; servers = rest.members.servers t }) j

    pub same_client : (i : ClientId) → client_of new i ≡ client_of old i
    same_client i = λ t. client_of (record old { clients = rest.members.clients t }) i

    abbrev pub call : IsCall w (facts_in old) v (facts_in new)
    call = record {
      group = refl;
      lines = s.outcomes;
      fresh = λ j. [];
      grows = run_grows w s w.plains w.sums (λ m h. h) (λ m h. h);
      servers = servers_rest w old new s w.plains w.sums tied rest.quiet same_server (λ at p past there own j h key. rest.unput at p past there own);
      rounds = rounds_rest w old new s w.plains w.sums tied rest.quiet;
      clients = clients_rest w old new s w.plains w.sums tied rest.untexted same_client (λ m h. h) (λ at p past there own i h key. rest.unput at p past there own);
      messages = messages_rest w old new s w.plains w.sums tied rest.orderly rest.unheard;
      judge = rest.judge;
    }

    pub rested : IsTied v new
    rested = still_tied w old new (w.history ++ s ∷ []) w.plains w.sums tied call (record {
      whole = whole_too w.group (log v) old new rest.members rest.fits tied.whole;
      group = group_fits_too w.group old new rest.members.roster rest.members.opens rest.members.group tied.group;
      fits = rest.fits;
      servers = λ j h. sym (same_server j);
      keys = λ j h. ap (λ (c : ServerView). c.key) (same_server j);
      straight = λ j h. ap (λ (c : ServerView). c.bent) (same_server j);
      clients = λ i h. sym (same_client i);
      openings = λ j h. subst (KeepsOpenings w.group.roster) (sym (same_server j)) (tied.servers j h).openings;
      plains_of = tied.plains;
      sums_of = tied.sums;
    })
