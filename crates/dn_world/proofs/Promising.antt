-- The promises follow from the invariant of runs.
use Rattle.dn_headline.specs.Run.{RunView}
use Rattle.dn_headline.specs.Invariant.{Facts, Invariant}
use Rattle.dn_headline.proofs.Signing.{one_body_lem}
use Rattle.dn_headline.proofs.Listing.{included_count_once_lem, late_never_count_lem}
use Rattle.dn_headline.proofs.Layouts.{lengths_are_sound_lem}
use Rattle.dn_headline.proofs.RunChain.{certified_are_in_chain_lem}
use Rattle.dn_headline.proofs.Output.{output_is_theirs_lem, honest_servers_add_nothing_lem, honest_clients_add_their_text_lem}
use Rattle.dn_headline.proofs.Blocks.{blocks_stand_lem}
use Rattle.dn_headline.proofs.Delivery.{delivered_are_certified_lem}
use Rattle.dn_headline.proofs.Blame.{only_corrupt_are_blamed_lem}
use Rattle.dn_headline.proofs.Answered.{answered_blame_somebody_lem}
use Rattle.dn_world.specs.Promises.{KeepsPromises}

pub keeps_promises : (w : RunView) (f : Facts) → Invariant w f → KeepsPromises w
keeps_promises w f held = record {
  one_body = one_body_lem w f held;
  included = included_count_once_lem w f held;
  late = late_never_count_lem w f held;
  lengths = lengths_are_sound_lem w f held;
  in_chain = certified_are_in_chain_lem w f held;
  outputs = output_is_theirs_lem w f held;
  servers = honest_servers_add_nothing_lem w f held;
  clients = honest_clients_add_their_text_lem w f held;
  blocks = blocks_stand_lem w f held;
  delivered = delivered_are_certified_lem w f held;
  blamed = only_corrupt_are_blamed_lem w f held;
  answered = answered_blame_somebody_lem w f held;
}
