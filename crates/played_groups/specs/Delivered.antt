-- What a server may be handed.
use Rattle.dn_roster.specs.Roster.{RosterView}
use Rattle.dn_seal.specs.Said.{IsUnder}
use Rattle.dn_cert.specs.Certificate.{IsCertificateUnder}
use Rattle.dn_cert.specs.declared.opened.Opened.{Opened}
use Rattle.dn_cert.specs.declared.opened.Opened.TheVariants as opened
use Rattle.dn_exchange.specs.Submitting.{IsSubmission}

-- what a payload carries was said, or certified, in the group of this roster
abbrev pub IsDelivered : RosterView → Opened → Type 0
IsDelivered roster (opened.Submission cipher said) = IsUnder roster said × IsSubmission said.statement
IsDelivered roster (opened.Plain said) = IsUnder roster said
IsDelivered roster (opened.Certificate c) = IsCertificateUnder roster c
IsDelivered roster (opened.Challenge c) = Unit {0}
