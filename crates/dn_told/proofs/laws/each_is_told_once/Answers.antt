use Rattle.std.proofs.Common.{[]}
use Rattle.dn_told.proofs.ToldLemmas.{repeat_behind, distinct_after}
use Rattle.dn_told.proofs.laws.each_is_told_once.Goals as goal

pub returns : goal.returns
returns c = record {
  once = λ before events xs ys i first next. repeat_behind i first next before [] events xs ys;
  distinct = λ before events. distinct_after before [] events;
}
