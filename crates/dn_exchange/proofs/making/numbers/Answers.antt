use Rattle.std.proofs.Common.{◌∙◌, ap}
use Rattle.dn_roster.specs.Roster.{RosterView}
use Rattle.dn_seal.specs.Dealt.{client, server}
use Rattle.dn_seal.proofs.ListLemmas.{length-public_keys}
use Rattle.dn_exchange.proofs.making.numbers.Goals as goal

pub returns-clause-clients : goal.returns-clause-clients
returns-clause-clients c =
    let d = c.args.dealt.now in
    c.clients.ensures.value ∙ length-public_keys d.spec client d.spec.clients d.roster.clients (ap (λ (r : RosterView). r.clients) d.dealt.has_roster)

pub returns-clause-servers : goal.returns-clause-servers
returns-clause-servers c =
    let d = c.args.dealt.now in
    c.servers.ensures.value ∙ length-public_keys d.spec server d.spec.servers d.roster.servers (ap (λ (r : RosterView). r.servers) d.dealt.has_roster)

pub returns-clause-group : goal.returns-clause-group
returns-clause-group c =
    let d = c.args.dealt.now in
    record {
      is = c.clients.ensures.limits;
      clients = length-public_keys d.spec client d.spec.clients d.roster.clients (ap (λ (r : RosterView). r.clients) d.dealt.has_roster);
      servers = length-public_keys d.spec server d.spec.servers d.roster.servers (ap (λ (r : RosterView). r.servers) d.dealt.has_roster);
    }
