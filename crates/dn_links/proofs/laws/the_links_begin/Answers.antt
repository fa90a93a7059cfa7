use Rattle.dn_links.proofs.BeginningLinks.{server_begins, client_begins, messages_begin, none_ahead_begins}
use Rattle.dn_links.proofs.laws.the_links_begin.Goals as goal

pub returns-clause-server : goal.returns-clause-server
returns-clause-server c = server_begins

pub returns-clause-client : goal.returns-clause-client
returns-clause-client c = client_begins

pub returns-clause-log : goal.returns-clause-log
returns-clause-log c = messages_begin

pub returns-clause-none_ahead : goal.returns-clause-none_ahead
returns-clause-none_ahead c = none_ahead_begins
