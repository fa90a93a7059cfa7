use Rattle.dn_headline.proofs.Output.{output_is_theirs_lem}
use Rattle.dn_headline.proofs.promises.output_is_theirs.Goals as goal

pub returns : goal.returns
returns c = output_is_theirs_lem
