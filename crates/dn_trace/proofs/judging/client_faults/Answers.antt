use Rattle.std.proofs.Common.{arith}
use Rattle.std.proofs.lemmas.Grind.{common_steps}
use Rattle.dn_trace.proofs.Listing.{map-below_more}
use Rattle.dn_trace.proofs.judging.client_faults.Goals as goal

pub loop-i-preserved : goal.loop-i-preserved
loop-i-preserved c = grind (arith, common_steps, map-below_more)
