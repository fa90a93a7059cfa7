-- After a call, what ties a world's parts to its run stays.
use Rattle.std.proofs.Common.{◌≡◌, List, sym, ap, subst, ◌∙◌}
use Rattle.std.specs.Prelude.{Contains, Some}
use Rattle.dn_wire.specs.declared.ids.ClientId.{ClientId}
use Rattle.dn_wire.specs.declared.ids.ServerId.{ServerId}
use Rattle.dn_lms.specs.Key.{Key}
use Rattle.dn_lms.specs.Signature.{public_key}
use Rattle.dn_client.specs.Client.{IsClient}
use Rattle.dn_server.specs.Server.{ServerView}
use Rattle.dn_exchange.specs.Disciplined.{Disciplined}
use Rattle.dn_exchange.specs.Settled.{Settled}
use Rattle.dn_state.specs.Parts.{PartsView, IsWhole}
use Rattle.dn_headline.specs.Group.{IsHonestClient, IsHonestServer}
use Rattle.dn_headline.specs.Log.{Step}
use Rattle.dn_headline.specs.Run.{RunView, PlainMade, SumMade, log}
use Rattle.dn_links.specs.Link.{IsLinked}
use Rattle.dn_links.specs.ClientLink.{IsClientLinked}
use Rattle.dn_links.specs.MessageLink.{NoneAhead}
use Rattle.dn_links.specs.Call.{IsCall}
use Rattle.dn_links.proofs.Calling.{linked_after}
use Rattle.dn_links.proofs.Clients.{client_linked_after}
use Rattle.dn_links.proofs.Messages.{log_stays_sound, none_ahead_after}
use Rattle.dn_links.proofs.Calls.{calls_keep_runs}
use Rattle.dn_steps.specs.Cores.{server_of, client_of, facts_in}
use Rattle.dn_steps.specs.Fitting.{FitsGroup, FitsLog}
use Rattle.dn_steps.specs.Openings.{KeepsOpenings}
use Rattle.dn_steps.specs.Tied.{IsTied, IsServerTied, IsClientTied}

module _ (w : RunView) (old new : PartsView) (history : List Step) (plains : List PlainMade) (sums : List SumMade) (tied : IsTied w old)
    (call : IsCall w (facts_in old) (record { group = w.group; history = history; plains = plains; sums = sums }) (facts_in new)) where
  abbrev v : RunView
  v = record { group = w.group; history = history; plains = plains; sums = sums }

  -- the parts are whole and fit the log, and the cores are those after the call
  pub record Remains : Type 0 where
    pub whole : IsWhole new
    pub group : FitsGroup w.group new
    pub fits : FitsLog w.group (log v) new
    pub servers : (j : ServerId) → IsHonestServer w.group j → call.servers.after j ≡ server_of new j
    pub keys : (j : ServerId) → IsHonestServer w.group j → (server_of new j).key ≡ (server_of old j).key
    pub straight : (j : ServerId) → IsHonestServer w.group j → (server_of new j).bent ≡ (server_of old j).bent
    pub openings : (j : ServerId) → IsHonestServer w.group j → KeepsOpenings w.group.roster (server_of new j)
    pub clients : (i : ClientId) → IsHonestClient w.group i → call.clients.after i ≡ client_of new i
    pub plains_of : (m : PlainMade) → Contains plains m → IsHonestClient w.group m.client
    pub sums_of : (m : SumMade) → Contains sums m → IsHonestServer w.group m.server

  module _ (remains : Remains) where
    server_tied : (j : ServerId) → IsHonestServer w.group j → IsServerTied v j (server_of new j)
    server_tied j h =
        let was = tied.servers j h in
        let now = remains.servers j h in
        record {
          linked = subst (IsLinked v j) now
              (linked_after w (facts_in old) (facts_in new) history plains sums call.lines call.fresh call.grows tied.invariant.held_is_put call.servers j h);
          key = was.key ∙ ap (λ (k : Key). Some (public_key k)) (sym (remains.keys j h));
          straight = remains.straight j h ∙ was.straight;
          disciplined = subst Disciplined now (call.servers.disciplined j h);
          settled = λ on. subst Settled now (call.rounds.settled j h (ap (λ (c : ServerView). c.run.is_running) now ∙ on));
          none_ahead = subst (NoneAhead v j) now
              (none_ahead_after w (facts_in old) (facts_in new) history plains sums call.lines call.fresh call.grows.more call.grows.puts call.servers call.messages j h);
          openings = remains.openings j h;
        }

    client_tied : (i : ClientId) → IsHonestClient w.group i → IsClientTied v i (client_of new i)
    client_tied i h =
        let now = remains.clients i h in
        record {
          linked = subst (IsClientLinked v i) now
              (client_linked_after w (facts_in old) (facts_in new) history plains sums call.lines call.grows tied.invariant call.clients i h);
          client = subst IsClient now (call.clients.clients i h);
        }

    pub still_tied : IsTied v new
    still_tied = record {
      whole = remains.whole;
      group = remains.group;
      fits = remains.fits;
      sound = log_stays_sound (log w) (log v) call.messages.moves tied.sound;
      servers = server_tied;
      clients = client_tied;
      plains = remains.plains_of;
      sums = remains.sums_of;
      invariant = calls_keep_runs w (facts_in old) v (facts_in new) tied.invariant call;
    }
