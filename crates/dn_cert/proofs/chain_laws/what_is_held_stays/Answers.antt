use Rattle.dn_cert.specs.Chain.{bodies}
use Rattle.dn_cert.proofs.GrowthLemmas.{held_stays, held_comes, held_only, layouts_stay_on, counts_stay_on}
use Rattle.dn_cert.proofs.chain_laws.what_is_held_stays.Goals as goal

pub returns : goal.returns
returns c = record {
  held = λ chain b c a. held_stays b (bodies chain) c a;
  new = λ chain b. held_comes b (bodies chain);
  only = λ chain b c a. held_only b (bodies chain) c a;
  layouts = layouts_stay_on;
  counts = counts_stay_on;
}
