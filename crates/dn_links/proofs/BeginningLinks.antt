-- What ties servers, clients and messages to a run in which nothing has happened.
use Rattle.std.proofs.Common.{◌≡◌, List, [], map, subst, arith, false}
use Rattle.std.specs.Prelude.{Contains, Some, slice_get}
use Rattle.dn_wire.specs.declared.ids.ClientId.{ClientId}
use Rattle.dn_wire.specs.declared.ids.ServerId.{ServerId}
use Rattle.dn_bits.specs.Bits.{below}
use Rattle.dn_cert.proofs.Orders.{nothing}
use Rattle.dn_client.specs.declared.made.Made.{Made}
use Rattle.dn_client.specs.Client.{ClientView, IsIn}
use Rattle.dn_server.specs.Server.{ServerView}
use Rattle.dn_headline.specs.Group.{GroupView, servers_of, seed_of}
use Rattle.dn_headline.specs.Log.{IsSoundLog, with_steps}
use Rattle.dn_headline.specs.Run.{log, Happened}
use Rattle.dn_headline.specs.Step.{first_run}
use Rattle.dn_headline.specs.Invariant.{seat_of}
use Rattle.dn_report.specs.declared.outcome.Outcome.{Outcome}
use Rattle.dn_seal.specs.Said.{SaidView}
use Rattle.dn_record_types.specs.declared.statement.Statement.{Statement}
use Rattle.dn_links.specs.Link.{IsLinked, IsUnopened}
use Rattle.dn_links.specs.ClientLink.{IsClientLinked}
use Rattle.dn_links.specs.MessageLink.{NoneAhead}

pub client_begins : (group : GroupView) (i : ClientId) (c : ClientView) → c.who.me ≡ i → IsIn group.roster c.who → slice_get group.owners c.who.slot.0 ≡ Some i
    → c.who.seeds ≡ map (λ j. seed_of group i.0 j) (below (servers_of group)) → slice_get group.masks i.0 ≡ Some c.who.mask
    → c.bent ≡ false → c.queue ≡ [] → c.made ≡ [] → IsClientLinked (first_run group) i c
client_begins group i c me within owns seeds mask straight queue made = record {
  me = me;
  within = within;
  owns = owns;
  seeds = seeds;
  mask = mask;
  straight = straight;
  queue = queue;
  made = λ m there. absurd (nothing m (subst (λ (ms : List Made). Contains ms m) made there));
  plains = λ m there mine. absurd (nothing m there);
}

pub messages_begin : (group : GroupView) → IsSoundLog (log (first_run group))
unfolding with_steps
messages_begin group = record { sent = λ m h. absurd (nothing m h); flies = λ id h. absurd (nothing id h) }

pub none_ahead_begins : (group : GroupView) (j : ServerId) (c : ServerView) → NoneAhead (first_run group) j c
unfolding with_steps
none_ahead_begins group j c x r s m phase carries delivered = absurd (nothing m delivered)

none_happened : (group : GroupView) (o : Outcome) → Happened (first_run group) o → ⊥
none_happened group o h = nothing h.0 h.1

pub server_begins : (group : GroupView) (j : ServerId) (c : ServerView) → c.seat ≡ seat_of group j → IsUnopened c → IsLinked (first_run group) j c
server_begins group j c seat begins = record {
  seat = seat;
  opened = λ some. let none = begins.round in absurd (omega arith);
  opened_below = λ r p h. absurd (none_happened group _ h);
  claims = λ i claim at. absurd (begins.claims i claim at);
  told = λ i word h. absurd (none_happened group _ h);
  closed = λ count h. absurd (none_happened group _ h);
  closed_below = λ r count h. absurd (none_happened group _ h);
  told_below = λ i r told h. absurd (none_happened group _ h);
  kept = λ said h. absurd (nothing said (subst (λ (ss : List SaidView). Contains ss said) begins.kept h));
  kept_round = λ said h. absurd (nothing said (subst (λ (ss : List SaidView). Contains ss said) begins.kept h));
  signed = λ s h. absurd (nothing s (subst (λ (ss : List Statement). Contains ss s) begins.signed h));
  made = λ sum h. absurd (begins.sum sum h);
}
