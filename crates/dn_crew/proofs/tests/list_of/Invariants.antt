use Rattle.std.proofs.Common.{◌≡◌, ◌<◌, All, vec_len}
use Rattle.std.specs.List.{range_with_len}
use Rattle.dn_crew.specs.Race.{numbers_of}
use Rattle.dn_crew.proofs.tests.list_of.Given as goal

abbrev pub invariant-loop-at : goal.invariant-loop-at
invariant-loop-at l = record {
  numbers : numbers_of l.list.items ≡ range_with_len 0 l.at;
  clients : All (λ m. m.0.0 < 6) l.list.items;
  long : vec_len l.list ≡ l.at;
}
