use Rattle.std.proofs.Common.{arith}
use Rattle.std.proofs.lemmas.Grind.{common_steps}
use Rattle.dn_trace.proofs.Listing.{map-below_more}
use Rattle.dn_trace.proofs.judging.server_faults.Goals as goal

pub loop-j-preserved : goal.loop-j-preserved
loop-j-preserved c = grind (arith, common_steps, map-below_more)
