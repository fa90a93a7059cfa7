use Rattle.dn_client.proofs.Goodness.{good_of_all}
use Rattle.dn_client.proofs.laws.rebuttals_are_good.Goals as goal

pub returns : goal.returns
returns c = λ roster old new ch envelope is within said under rebutted. good_of_all roster old new ch envelope is within rebutted said under
