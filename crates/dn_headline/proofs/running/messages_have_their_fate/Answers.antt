use Rattle.dn_headline.proofs.Flights.{step_fate, step_sound, step_delivers_what_was_put}
use Rattle.dn_headline.proofs.running.messages_have_their_fate.Goals as goal

pub returns-clause-sound : goal.returns-clause-sound
returns-clause-sound c = step_sound

pub returns-clause-delivered : goal.returns-clause-delivered
returns-clause-delivered c = step_delivers_what_was_put

pub returns-clause-fate : goal.returns-clause-fate
returns-clause-fate c = step_fate
