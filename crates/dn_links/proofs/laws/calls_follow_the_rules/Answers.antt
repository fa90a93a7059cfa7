use Rattle.dn_links.proofs.Calling.{servers_follow}
use Rattle.dn_links.proofs.Clients.{clients_follow}
use Rattle.dn_links.proofs.Messages.{messages_follow}
use Rattle.dn_links.proofs.Rounds.{rounds_follow}
use Rattle.dn_links.proofs.laws.calls_follow_the_rules.Goals as goal

pub returns-clause-servers : goal.returns-clause-servers
returns-clause-servers c = servers_follow

pub returns-clause-rounds : goal.returns-clause-rounds
returns-clause-rounds c = rounds_follow

pub returns-clause-clients : goal.returns-clause-clients
returns-clause-clients c = clients_follow

pub returns-clause-messages : goal.returns-clause-messages
returns-clause-messages c w f g history plains sums lines fresh grows called messages =
    messages_follow w f g history plains sums lines fresh grows.more grows.puts called messages
