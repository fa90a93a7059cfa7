use Rattle.dn_cert.proofs.ThinLemmas.{is_of_version_2, no_digests, no_output, nothing_to_accuse, layout_same}
use Rattle.dn_cert.proofs.chain_laws.thin_rounds_give_nothing.Goals as goal

pub returns : goal.returns
returns c = record {
  version = is_of_version_2;
  empty = λ chain b is inside thin. (no_digests chain b is inside thin, no_output chain b is inside thin);
  layout = layout_same;
  accusation = nothing_to_accuse;
}
