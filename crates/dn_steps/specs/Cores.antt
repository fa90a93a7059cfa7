-- The cores of a world's members by their numbers, and what the invariant of runs sees of them.
use Rattle.std.specs.Prelude.{false, [], None}
use Rattle.std.specs.Option.{unwrap_or}
use Rattle.dn_wire.specs.declared.ids.ClientId.{ClientId}
use Rattle.dn_wire.specs.declared.ids.ServerId.{ServerId}
use Rattle.dn_wire.specs.declared.ids.Round.{Round}
use Rattle.dn_lms.specs.Key.{Key}
use Rattle.dn_client.specs.Client.{ClientView}
use Rattle.dn_exchange.specs.Opening.{fresh_run}
use Rattle.dn_server.specs.Server.{ServerView}
use Rattle.dn_state.specs.Parts.{PartsView}
use Rattle.dn_state.specs.Members.{client_at, server_at}
use Rattle.dn_headline.specs.Invariant.{Facts}
use Rattle.dn_links.specs.Link.{facts_of}
use Rattle.dn_links.specs.ClientLink.{client_facts_of}

-- ---- stand-ins for cores that aren't there

abbrev pub no_key : Key
no_key = record { lms = 0; ots = 0; id = []; seed = [] }

abbrev pub no_round : Round
no_round = record { 0 = 0 }

abbrev pub no_server : PartsView → ServerView
no_server parts = record {
  seat = record { roster = parts.roster; number = 0; seeds = [] };
  workers = 0;
  key = no_key;
  chain = record { slots = 0; held = [] };
  run = record (fresh_run 0 0 no_round no_round 0) { is_running = false };
  pasts = [];
  signed = [];
  aside = 0;
  opened = [];
  evidence = [];
  challenged = [];
  bend = None;
  bent = false;
  spent = false;
}

abbrev pub no_client : ClientView
no_client = record {
  who = record { me = record { 0 = 0 }; slot = record { 0 = 0 }; digest = []; key = no_key; slot_key = no_key; seeds = []; mask = [] };
  chain = record { slots = 0; held = [] };
  queue = [];
  head = 0;
  made = [];
  accused = [];
  answered = [];
  signed = [];
  signed_as_slot = [];
  left = false;
  bent = false;
  spent = false;
}

-- ---- cores

-- the core of an honest server, and a stand-in for another's
abbrev pub server_of : PartsView → ServerId → ServerView
server_of parts j = unwrap_or (server_at parts j) (no_server parts)

-- the core of an honest client, and a stand-in for another's
abbrev pub client_of : PartsView → ClientId → ClientView
client_of parts i = unwrap_or (client_at parts i) no_client

-- what the cores know
abbrev pub facts_in : PartsView → Facts
facts_in parts = record { server = λ j. facts_of (server_of parts j); client = λ i. client_facts_of (client_of parts i) }
