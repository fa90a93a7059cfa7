use Rattle.std.proofs.Common.{take}
use Rattle.std.specs.Prelude.{All}
use Rattle.std.specs.List.{AllZip}
use Rattle.dn_verify.specs.Payloads.{IsContent}
use Rattle.dn_verify.specs.Steps.{posts_of}
use Rattle.dn_verify.specs.Under.{IsContentUnder}
use Rattle.dn_verify.proofs.opening.contents.Given as goal

abbrev pub invariant-loop-line : goal.invariant-loop-line
invariant-loop-line l = record {
  under : All (IsContentUnder l.roster) l.contents.items;
  contents : AllZip (IsContent l.roster) (posts_of (take l.line-index l.lines)) l.contents.items;
}
