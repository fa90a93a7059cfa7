-- What ties the parts of a world to its run.
use Rattle.std.specs.Prelude.{◌≡◌, true, false, Contains}
use Rattle.dn_wire.specs.declared.ids.ClientId.{ClientId}
use Rattle.dn_wire.specs.declared.ids.ServerId.{ServerId}
use Rattle.dn_wire.specs.declared.ids.SignerId.TheVariants.{Server}
use Rattle.dn_lms.specs.Signature.{public_key}
use Rattle.dn_roster.specs.Roster.{key_of}
use Rattle.std.specs.Prelude.{Some}
use Rattle.dn_client.specs.Client.{ClientView, IsClient}
use Rattle.dn_server.specs.Server.{ServerView}
use Rattle.dn_exchange.specs.Disciplined.{Disciplined}
use Rattle.dn_exchange.specs.Settled.{Settled}
use Rattle.dn_state.specs.Parts.{PartsView, IsWhole}
use Rattle.dn_headline.specs.Group.{IsHonestClient, IsHonestServer}
use Rattle.dn_headline.specs.Log.{IsSoundLog}
use Rattle.dn_headline.specs.Run.{RunView, PlainMade, SumMade, log}
use Rattle.dn_headline.specs.Invariant.{Invariant}
use Rattle.dn_links.specs.Link.{IsLinked}
use Rattle.dn_links.specs.ClientLink.{IsClientLinked}
use Rattle.dn_links.specs.MessageLink.{NoneAhead}
use Rattle.dn_steps.specs.Cores.{server_of, client_of, facts_in}
use Rattle.dn_steps.specs.Fitting.{FitsGroup, FitsLog}
use Rattle.dn_steps.specs.Openings.{KeepsOpenings}

-- An honest server's core is linked to the run, keeps to the rules, and has gone on as far as it can; nothing that was delivered to it is of a
-- round above its last one; and its openings are the group's.
pub record IsServerTied (w : RunView) (j : ServerId) (c : ServerView) : Type 0 where
  pub linked : IsLinked w j c
  pub key : key_of w.group.roster (Server j) ≡ Some (public_key c.key)
  pub straight : c.bent ≡ false
  pub disciplined : Disciplined c
  pub settled : c.run.is_running ≡ true → Settled c
  pub none_ahead : NoneAhead w j c
  pub openings : KeepsOpenings w.group.roster c

-- an honest client's core is linked to the run, and keeps to the rules
pub record IsClientTied (w : RunView) (i : ClientId) (c : ClientView) : Type 0 where
  pub linked : IsClientLinked w i c
  pub client : IsClient c

-- The parts are a whole world's; their group, payloads, messages, certificates and what was heard are the run's; each honest member's core is
-- tied to the run, in which honest members alone made something; and the run keeps the invariant, by what the cores know.
pub record IsTied (w : RunView) (parts : PartsView) : Type 0 where
  pub whole : IsWhole parts
  pub group : FitsGroup w.group parts
  pub fits : FitsLog w.group (log w) parts
  pub sound : IsSoundLog (log w)
  pub servers : (j : ServerId) → IsHonestServer w.group j → IsServerTied w j (server_of parts j)
  pub clients : (i : ClientId) → IsHonestClient w.group i → IsClientTied w i (client_of parts i)
  pub plains : (m : PlainMade) → Contains w.plains m → IsHonestClient w.group m.client
  pub sums : (m : SumMade) → Contains w.sums m → IsHonestServer w.group m.server
  pub invariant : Invariant w (facts_in parts)
