-- A state's fields, and what contracts see of them.
use Rattle.dn_state.specs.Parts.{PartsView}
use Rattle.dn_state.specs.Sound.{IsSound}
use Rattle.dn_state.specs.declared.state.State.TheInside.{Inside}

abbrev pub parts_of : Inside → PartsView
parts_of s = record {
  roster = s.payloads.roster;
  group = s.group;
  clients = s.clients.items;
  servers = s.servers.items;
  left = s.left.items;
  payloads = s.payloads;
  flight = s.flight;
  chain = s.chain;
  told = s.told.keys;
  heard = s.heard.items;
  delivered = s.delivered.keys;
  accused = s.accused.entries;
  auditor = s.auditor;
}

-- the servers are of the group, and what was heard was said in it
abbrev pub Keeps : Inside → Type 0
Keeps s = IsSound s.payloads.roster s.servers.items s.heard.items
