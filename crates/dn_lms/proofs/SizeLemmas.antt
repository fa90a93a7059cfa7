-- How long what verifies is.
use Rattle.std.proofs.Common.{◌≡◌, ℕ, ◌+◌, ◌*◌, ◌≤◌, List, length, arith}
use Rattle.dn_ots.specs.Parameters.{ots_length}
use Rattle.dn_ots.proofs.ParameterLemmas.{limits}
use Rattle.dn_lms.specs.Key.{height}
use Rattle.dn_lms.specs.Signature.{Verifies, lms_length, ots_in}

pub verified_short : (public msg sig : List ℕ) → Verifies public msg sig → length sig ≤ 9004
unfolding lms_length ots_length height
verified_short public msg sig is = omega (arith, is.long, is.lms_known.1, (limits (ots_in public) is.ots_known).chains)
