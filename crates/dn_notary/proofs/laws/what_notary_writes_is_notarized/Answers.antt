use Rattle.dn_notary.proofs.RoundTrip.{written_is_notarized}
use Rattle.dn_notary.proofs.laws.what_notary_writes_is_notarized.Goals as goal

pub returns : goal.returns
returns c = written_is_notarized
