-- A call keeps the invariant of runs, by what cores promise.
use Rattle.std.proofs.Common.{◌≡◌, List, refl, sym, ap, subst}
use Rattle.dn_headline.specs.Group.{GroupView}
use Rattle.dn_headline.specs.Log.{Step}
use Rattle.dn_headline.specs.Run.{RunView, PlainMade, SumMade}
use Rattle.dn_headline.specs.Invariant.{Facts, Invariant}
use Rattle.dn_headline.specs.Step.{Follows}
use Rattle.dn_links.specs.Call.{IsCall}
use Rattle.dn_links.proofs.Calling.{servers_follow}
use Rattle.dn_links.proofs.Rounds.{rounds_follow}
use Rattle.dn_links.proofs.Clients.{clients_follow}
use Rattle.dn_links.proofs.Messages.{messages_follow}
use Rattle.dn_links.proofs.Judges.{verdicts_follow}
use Rattle.dn_headline.proofs.Keeping.{calls_keep_the_invariant_lem}

module _ (w : RunView) (f g : Facts) (history : List Step) (plains : List PlainMade) (sums : List SumMade) (inv : Invariant w f)
    (call : IsCall w f (record { group = w.group; history = history; plains = plains; sums = sums }) g) where
  abbrev v : RunView
  v = record { group = w.group; history = history; plains = plains; sums = sums }

  follows : Follows w f v g
  follows = record {
    group = refl;
    lines = call.lines;
    fresh = call.fresh;
    grows = call.grows;
    servers = servers_follow w f g history plains sums call.lines call.fresh call.grows inv.held_is_put call.servers;
    clients = clients_follow w f g history plains sums call.lines call.grows inv call.clients;
    rounds = rounds_follow w f g history plains sums call.lines call.fresh call.grows inv call.servers call.rounds;
    messages = messages_follow w f g history plains sums call.lines call.fresh call.grows.more call.grows.puts call.servers call.messages;
    verdicts = verdicts_follow w v call.judge;
  }

  pub kept : Invariant v g
  kept = calls_keep_the_invariant_lem w f v g inv follows

pub calls_keep_runs : (w : RunView) (f : Facts) (v : RunView) (g : Facts) → Invariant w f → IsCall w f v g → Invariant v g
calls_keep_runs w f v g inv call =
    let with_group : GroupView → RunView = λ z. record { group = z; history = v.history; plains = v.plains; sums = v.sums } in
    let same : v ≡ with_group w.group = ap with_group call.group in
    subst (λ (z : RunView). Invariant z g) (sym same) (kept w f g v.history v.plains v.sums inv (subst (λ (z : RunView). IsCall w f z g) same call))
