use Rattle.std.proofs.lemmas.List.Elements.{All-contains}
use Rattle.dn_record_types.specs.Exact.{IsBytes}
use Rattle.dn_headline.specs.Log.{Put}
use Rattle.dn_headline.specs.Run.{log}
use Rattle.dn_headline.proofs.SignatureList.{signatures_are}
use Rattle.dn_headline.proofs.auditing.each_run_has_its_signatures.Goals as goal

pub returns : goal.returns
returns c w are = signatures_are w (λ p h. All-contains (λ (q : Put). IsBytes q.bytes) (log w).puts p are h)
