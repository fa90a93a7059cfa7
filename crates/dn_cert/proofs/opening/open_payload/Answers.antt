use Rattle.dn_cert.proofs.OpeningLemmas.{opens_if}
use Rattle.dn_cert.proofs.opening.open_payload.Goals as goal

pub returns-clause-opens : goal.returns-clause-opens
returns-clause-opens c = λ p x fits spelled is.
    opens_if c.args.roster.now c.args.bytes.now p x fits spelled is c.open_bytes.result c.open_bytes.ensures.unopened
