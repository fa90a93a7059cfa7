use Rattle.dn_bits.proofs.BitLemmas.{length-sum_all}
use Rattle.dn_bits.proofs.TotalLemmas.{sum-joined, total_filter, total_parts}
use Rattle.dn_bits.proofs.laws.list_laws.Goals as goal

pub returns : goal.returns
returns c = record {
  joins = λ n xs ys long. sum-joined n xs ys (length-sum_all n ys long);
  leaves_out = total_filter;
  parts = λ n m f place is long within. total_parts n f place m is long within;
}
