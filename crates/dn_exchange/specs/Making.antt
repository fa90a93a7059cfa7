-- A server as it is made.
use Rattle.std.specs.Prelude.{◌≡◌, ℕ, length, true, false, [], map, replicate, None}
use Rattle.dn_bits.specs.Bits.{below}
use Rattle.dn_roster.specs.declared.group.GroupSpec.{GroupSpec}
use Rattle.dn_roster.specs.Roster.{RosterView, IsRoster}
use Rattle.dn_layout.specs.Layout.{bits_of}
use Rattle.dn_seal.specs.Dealt.{server, key_dealt_to, seed_dealt_to}
use Rattle.dn_window.specs.Window.{opened}
use Rattle.dn_server.specs.declared.run.Run.{Run}
use Rattle.dn_server.specs.declared.run.Stage.TheVariants as stages
use Rattle.dn_server.specs.Server.{ServerView}
use Rattle.dn_exchange.specs.Opening.{expected_at}

-- the record of round 0, which doesn't run
abbrev pub first_run : ℕ → ℕ → Run
first_run clients expected = record {
  r = record { 0 = 0 };
  prev = record { 0 = 0 };
  bits = bits_of (replicate clients 0);
  is_running = false;
  stage = stages.Collecting;
  window = record (opened clients expected) { closed = true };
  claims = replicate clients None;
  kept = [];
  sum = None;
}

-- server j of a dealt group, before it has done anything
abbrev pub first_server : GroupSpec → RosterView → ℕ → ℕ → ServerView
first_server group roster j workers = record {
  workers = workers;
  seat = record { roster = roster; number = j; seeds = map (λ i. seed_dealt_to group i j) (below group.clients) };
  key = key_dealt_to group (server j);
  chain = record { slots = group.clients; held = [] };
  run = first_run group.clients (expected_at group.clients group.servers j);
  pasts = [];
  signed = [];
  aside = 0;
  opened = [];
  evidence = [];
  challenged = [];
  bend = None;
  bent = false;
  spent = false;
}

-- the roster is one with the group's members
pub record IsGroup (group : GroupSpec) (roster : RosterView) : Type 0 where
  pub is : IsRoster roster
  pub clients : length roster.clients ≡ group.clients
  pub servers : length roster.servers ≡ group.servers
