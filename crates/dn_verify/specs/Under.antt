-- Payloads that were opened under the roster of the report's group.
use Rattle.dn_roster.specs.Roster.{RosterView}
use Rattle.dn_seal.specs.Said.{IsUnder}
use Rattle.dn_cert.specs.declared.opened.Opened.{Opened}
use Rattle.dn_cert.specs.declared.opened.Opened.TheVariants.{Submission, Plain, Certificate, Challenge}
use Rattle.dn_verify.specs.declared.content.Content.{Content}
use Rattle.dn_verify.specs.declared.content.Content.TheVariants.{Open, Closed}

-- the statement of its envelope was signed by a key of the roster
abbrev pub IsOpenUnder : RosterView → Opened → Type 0
IsOpenUnder roster (Submission cipher said) = IsUnder roster said
IsOpenUnder roster (Plain said) = IsUnder roster said
IsOpenUnder roster (Certificate certificate) = Unit {0}
IsOpenUnder roster (Challenge challenge) = Unit {0}

abbrev pub IsContentUnder : RosterView → Content → Type 0
IsContentUnder roster (Open opened) = IsOpenUnder roster opened
IsContentUnder roster (Closed word) = Unit {0}
