use Rattle.dn_cert.proofs.ChainLemmas.{count_held, count_unheld, count_first}
use Rattle.dn_cert.proofs.chain_laws.counts_are_of_bodies.Goals as goal

pub returns : goal.returns
returns c = record { held = count_held; unheld = count_unheld; first = count_first }
