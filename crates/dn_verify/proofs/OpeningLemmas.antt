-- What opened under a roster was signed by its keys.
use Rattle.dn_roster.specs.Roster.{RosterView}
use Rattle.dn_record_types.specs.declared.payload.Payload.{Payload}
use Rattle.dn_record_types.specs.declared.payload.Payload.TheVariants as payloads
use Rattle.dn_cert.specs.Opening.{IsOpened}
use Rattle.dn_cert.specs.declared.opened.Opened.{Opened}
use Rattle.dn_cert.specs.declared.opened.Opened.TheVariants as opened
use Rattle.dn_verify.specs.Under.{IsOpenUnder}

pub opened_under : (roster : RosterView) (p : Payload) (x : Opened) → IsOpened roster p x → IsOpenUnder roster x
opened_under roster (payloads.Submission cipher envelope) (opened.Submission its_cipher said) h = h.1.1
opened_under roster (payloads.Plain envelope) (opened.Plain said) h = h.1
opened_under roster (payloads.Certificate body signatures) (opened.Certificate c) h = tt
opened_under roster (payloads.Challenge r k envelopes) (opened.Challenge c) h = tt
opened_under roster p x h = absurd h
