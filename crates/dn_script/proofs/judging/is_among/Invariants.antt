use Rattle.std.proofs.Common.{◌≡◌, drop}
use Rattle.dn_script.specs.Judged.{is_among}
use Rattle.dn_script.proofs.judging.is_among.Given as goal

abbrev pub invariant-loop-n : goal.invariant-loop-n
invariant-loop-n l = is_among l.m (drop l.n-index l.members) ≡ is_among l.m l.members
