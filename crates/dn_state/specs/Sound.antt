-- What a world keeps of its parts.
use Rattle.std.specs.Prelude.{◌≡◌, List, Option, Some, None, All}
use Rattle.dn_roster.specs.Roster.{RosterView}
use Rattle.dn_seal.specs.Said.{SaidView, IsUnder}
use Rattle.dn_cert.specs.Certificate.{IsCertificateUnder}
use Rattle.dn_cert.specs.declared.opened.Opened.{Opened}
use Rattle.dn_cert.specs.declared.opened.Opened.TheVariants as opened
use Rattle.dn_server.specs.Server.{ServerView}
use Rattle.dn_exchange.specs.Submitting.{IsSubmission}
use Rattle.dn_payloads.specs.declared.content.Content.{Content}
use Rattle.dn_payloads.specs.declared.content.Content.TheVariants as contents

-- a server that is there is one of the group with this roster
abbrev pub IsOfRoster : RosterView → Option ServerView → Type 0
IsOfRoster roster None = Unit {0}
IsOfRoster roster (Some v) = v.seat.roster ≡ roster

abbrev pub AreOfGroup : RosterView → List (Option ServerView) → Type 0
AreOfGroup roster servers = All (IsOfRoster roster) servers

-- the servers are of the group, and what was heard was said in it
pub record IsSound (roster : RosterView) (servers : List (Option ServerView)) (heard : List SaidView) : Type 0 where
  pub of_group : AreOfGroup roster servers
  pub said : All (IsUnder roster) heard

-- what a payload carries was said, or certified, in the group; of a challenge nothing is asked
abbrev pub IsOfGroup : RosterView → Opened → Type 0
IsOfGroup roster (opened.Submission cipher said) = IsUnder roster said × IsSubmission said.statement
IsOfGroup roster (opened.Plain said) = IsUnder roster said
IsOfGroup roster (opened.Certificate c) = IsCertificateUnder roster c
IsOfGroup roster (opened.Challenge c) = Unit {0}

-- the statement stands in the envelope in front of a payload that opens
abbrev pub IsInFront : Content → SaidView → Type 0
IsInFront (contents.Opened (opened.Submission cipher said)) other = said ≡ other
IsInFront (contents.Opened (opened.Plain said)) other = said ≡ other
IsInFront _ other = ⊥
