-- What the audit of a world knows of its run.
use Rattle.std.specs.Prelude.{◌≡◌, ◌↔◌, ◌⊎◌, IsTrue, length, Contains, Some}
use Rattle.dn_server.specs.declared.run.Sum.{Sum}
use Rattle.dn_server.specs.Server.{ServerView}
use Rattle.dn_state.specs.declared.reading.Audit.{Audit}
use Rattle.dn_state.specs.Parts.{PartsView}
use Rattle.dn_state.specs.Members.{server_at}
use Rattle.dn_headline.specs.Group.{servers_of}
use Rattle.dn_headline.specs.Log.{Put}
use Rattle.dn_headline.specs.Run.{RunView, SumMade, log}
use Rattle.dn_headline.specs.Clean.{SignaturesAreTheirs, DigestsDiffer, SomeServerIsHonest}
use Rattle.dn_auditing.specs.Known.{MarksKeys, KnowsRun, IsOwnFront}

-- The auditor knows all of the run that it is to know; it takes the same keys for honest; and members' own cores put what they signed themselves.
pub record IsAudited (w : RunView) (parts : PartsView) : Type 0 where
  pub marks : MarksKeys w.group parts.group
  pub servers : length parts.group.servers ≡ servers_of w.group
  pub fronts : (p : Put) → Contains (log w).puts p → IsOwnFront w.group p
  pub knows : KnowsRun w parts.auditor

-- the ciphertext is that of its server's record
pub record IsSumOf (parts : PartsView) (m : SumMade) : Type 0 where
  pub core : ServerView
  pub there : server_at parts m.server ≡ Some core
  pub sum : Sum
  pub has : core.run.sum ≡ Some sum
  pub is : m ≡ record { server = m.server; r = core.run.r; sum = sum.s }

-- What a step adds to a run: in front of what members' own cores put stands what they signed themselves, and of ciphertexts those of the servers'
-- records.
pub record AddsOwn (w v : RunView) (parts : PartsView) : Type 0 where
  pub fronts : (p : Put) → Contains (log v).puts p → Contains (log w).puts p ⊎ IsOwnFront v.group p
  pub grows : (m : SumMade) → Contains w.sums m → Contains v.sums m
  pub sums : (m : SumMade) → Contains v.sums m → Contains w.sums m ⊎ IsSumOf parts m

-- the three words of an audit are yes exactly where the run is clean
pub record SaysRight (w : RunView) (audit : Audit) : Type 0 where
  pub signed : IsTrue audit.signed ↔ SignaturesAreTheirs w
  pub digests : IsTrue audit.digests ↔ DigestsDiffer w
  pub honest : IsTrue audit.honest ↔ SomeServerIsHonest w
