use Rattle.std.proofs.Common.{[]}
use Rattle.dn_verify.proofs.fold.Fold.new.Goals as goal

pub returns : goal.returns
returns c = λ clients is. λ i. record {
  chain = is i;
  reached = λ n. c.new.ensures n i;
  heard = [];
  told = λ n. c.new-2.ensures n i;
  due = c.new-3.ensures.items i;
}
