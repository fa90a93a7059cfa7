use Rattle.dn_links.proofs.Messages.{log_stays_sound, none_ahead_after}
use Rattle.dn_links.proofs.laws.messages_stay_linked.Goals as goal

pub returns-clause-sound : goal.returns-clause-sound
returns-clause-sound c = log_stays_sound

pub returns-clause-none_ahead : goal.returns-clause-none_ahead
returns-clause-none_ahead c w f g history plains sums lines fresh grows called messages =
    none_ahead_after w f g history plains sums lines fresh grows.more grows.puts called messages
