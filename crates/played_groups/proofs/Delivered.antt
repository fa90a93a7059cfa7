-- What opens under a roster may be handed to a server of its group.
use Rattle.dn_roster.specs.Roster.{RosterView}
use Rattle.dn_record_types.specs.declared.payload.Payload.{Payload}
use Rattle.dn_record_types.specs.declared.payload.Payload.TheVariants as payloads
use Rattle.dn_record_types.specs.declared.statement.Statement.{Statement}
use Rattle.dn_record_types.specs.declared.statement.Statement.TheVariants as kinds
use Rattle.dn_cert.specs.Opening.{IsOpened, IsSubmission as IsOpenedSubmission}
use Rattle.dn_cert.specs.declared.opened.Opened.{Opened}
use Rattle.dn_cert.specs.declared.opened.Opened.TheVariants as opened
use Rattle.dn_exchange.specs.Submitting.{IsSubmission}
use Rattle.played_groups.specs.Delivered.{IsDelivered}

submission_is : (s : Statement) → IsOpenedSubmission s → IsSubmission s
submission_is (kinds.Submission r prev i d) h = tt
submission_is s h = absurd h

pub opened_is : (roster : RosterView) (p : Payload) (x : Opened) → IsOpened roster p x → IsDelivered roster x
opened_is roster (payloads.Submission cipher envelope) (opened.Submission its_cipher said) h = (h.1.1, submission_is said.statement h.2)
opened_is roster (payloads.Plain envelope) (opened.Plain said) h = h.1
opened_is roster (payloads.Certificate body signatures) (opened.Certificate c) h = h.1
opened_is roster (payloads.Challenge r k envelopes) (opened.Challenge c) h = tt
opened_is roster p x h = absurd h
