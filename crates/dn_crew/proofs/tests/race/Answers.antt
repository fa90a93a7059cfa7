use Rattle.std.proofs.Common.{ap, ◌∙◌, length}
use Rattle.dn_crew.specs.Race.{numbers_of}
use Rattle.dn_crew.proofs.OrderLemmas.{counts_up}
use Rattle.dn_crew.proofs.tests.race.Goals as goal

pub race_on-requires-clause-differ : goal.race_on-requires-clause-differ
race_on-requires-clause-differ g c κs within = counts_up c.deref.result.now (length c.args.clients.now) (ap numbers_of c.deref.ensures.value ∙ c.in_ok-list.ensures.numbers)
