use Rattle.std.proofs.Common.{◌≡◌, [], true}
use Rattle.dn_audit.specs.Auditor.{TellsOf, no_strings}
use Rattle.dn_state.specs.Beginning.{seeds_below}
use Rattle.dn_state.proofs.making.auditor_of.Given as goal

abbrev pub invariant-loop-i : goal.invariant-loop-i
invariant-loop-i l = record {
  signed : l.auditor.signed ≡ [];
  are_theirs : l.auditor.are_theirs ≡ true;
  tells : TellsOf l.auditor (record no_strings { seeds = seeds_below l.spec l.i });
}
