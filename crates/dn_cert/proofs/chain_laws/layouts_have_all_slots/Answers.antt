use Rattle.dn_cert.proofs.GrowthLemmas.{length-layout}
use Rattle.dn_cert.proofs.chain_laws.layouts_have_all_slots.Goals as goal

pub returns : goal.returns
returns c = length-layout
