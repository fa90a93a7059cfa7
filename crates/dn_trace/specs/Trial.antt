-- What is judged, and what is heard of it.
use Rattle.std.specs.Prelude.{◌≡◌, ◌<◌, ◌⊎◌, ℕ, Bool, List, length, All, Contains}
use Rattle.dn_wire.specs.declared.ids.Round.{Round}
use Rattle.dn_wire.specs.declared.ids.ServerId.{ServerId}
use Rattle.dn_wire.specs.declared.ids.SignerId.{SignerId}
use Rattle.dn_wire.specs.declared.ids.SignerId.TheVariants.{Client}
use Rattle.dn_record_types.specs.declared.body.Body.{Body}
use Rattle.dn_record_types.specs.declared.inventory.Entry.{Entry}
use Rattle.dn_record_types.specs.declared.inventory.Inventory as inventory
use Rattle.dn_record_types.specs.declared.statement.Statement.{Statement}
use Rattle.dn_record_types.specs.declared.statement.Statement.TheVariants as kinds
use Rattle.dn_roster.specs.Roster.{RosterView}
use Rattle.dn_seal.specs.Said.{SaidView, IsUnder, Unseals}
use Rattle.dn_cert.specs.Signed.{EntryVerifies}

-- An accusation at place k of the round of a body, under the roster of a group. The layout is the one after the body's prev. What was said is
-- given in the order in which it was heard.
pub record Trial : Type 0 where
  pub roster : RosterView
  pub body : Body
  pub layout : List ℕ
  pub k : ℕ
  pub given : List SaidView

-- the round that is judged
abbrev pub round_of : Trial → Round
round_of trial = trial.body.r

-- how many servers the group has
abbrev pub servers_of : Trial → ℕ
servers_of trial = length trial.roster.servers

-- this signer's statement is among what was said
abbrev pub Says : List SaidView → SignerId → Statement → Type 0
Says given who s = (said : SaidView) × Contains given said × (said.signer ≡ who) × (said.statement ≡ s)

abbrev pub IsGiven : Trial → SignerId → Statement → Type 0
IsGiven trial who s = Says trial.given who s

-- the statement is the pad bits in a rebuttal that is given, whoever made it, whose envelope unseals
pub record IsCarried (trial : Trial) (who : SignerId) (s : Statement) : Type 0 where
  pub by : SignerId
  pub r : Round
  pub k : ℕ
  pub server : ServerId
  pub seed : List ℕ
  pub envelope : List ℕ
  pub rebuttal : IsGiven trial by (kinds.Rebuttal r k server seed envelope)
  pub signed_r : Round
  pub signed_k : ℕ
  pub bits : List Bool
  pub is : s ≡ kinds.PadBits signed_r signed_k bits
  pub unseals : Unseals trial.roster envelope who s

-- the statement is the submission of an entry, which verifies, in an inventory that is given, whoever made that
pub record IsEntered (trial : Trial) (who : SignerId) (s : Statement) : Type 0 where
  pub by : SignerId
  pub held : inventory.Inventory
  pub inventory : IsGiven trial by (kinds.Inventory held)
  pub entry : Entry
  pub among : Contains held.entries entry
  pub verifies : EntryVerifies trial.roster held.r held.prev entry
  pub client : who ≡ Client entry.client
  pub is : s ≡ kinds.Submission held.r held.prev entry.client entry.digest

-- This signer's statement is heard: it is given, or stands in a rebuttal or an inventory that is given.
abbrev pub Heard : Trial → SignerId → Statement → Type 0
Heard trial who s = IsGiven trial who s ⊎ (IsCarried trial who s ⊎ IsEntered trial who s)

-- The body has a digest of each server, and lists clients and servers of the roster; and what was said was said under the roster.
pub record CanJudge (trial : Trial) : Type 0 where
  pub digests : length trial.body.digests ≡ servers_of trial
  pub listed : All (λ l. (l.client.0 < length trial.roster.clients) × (l.server.0 < servers_of trial)) trial.body.listed
  pub under : All (IsUnder trial.roster) trial.given
