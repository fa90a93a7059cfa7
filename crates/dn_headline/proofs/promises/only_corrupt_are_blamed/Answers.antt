use Rattle.dn_headline.proofs.Blame.{only_corrupt_are_blamed_lem}
use Rattle.dn_headline.proofs.promises.only_corrupt_are_blamed.Goals as goal

pub returns : goal.returns
returns c = only_corrupt_are_blamed_lem
