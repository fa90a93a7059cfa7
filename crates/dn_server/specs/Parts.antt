-- A server's parts, and what contracts see of them.
use Rattle.std.specs.Prelude.{Bool, false}
use Rattle.dn_server.specs.declared.parts.Parts.{Parts}
use Rattle.dn_server.specs.Server.{ServerView, ended_run}

-- the server that they make up
abbrev pub view_of : Parts → Bool → ServerView
view_of p spent = record {
  seat = record { roster = p.identity.roster; number = p.identity.number; seeds = p.seeds.items };
  workers = p.workers;
  key = p.identity.key;
  chain = p.chain;
  run = p.run;
  pasts = p.pasts;
  signed = p.identity.signed;
  aside = p.aside;
  opened = p.opened;
  evidence = p.evidence;
  challenged = p.challenged;
  bend = p.bend;
  bent = p.bent;
  spent = spent;
}

-- a server that memory hasn't failed
abbrev pub live : Parts → ServerView
live p = view_of p false

-- the parts after the run has ended
abbrev pub at_end : Parts → Parts
at_end p = record p { run = ended_run p.run; aside = 0 }
