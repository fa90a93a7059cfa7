use Rattle.std.proofs.Common.{refl, lit≤}
use Rattle.dn_ots.specs.Parameters.{IsRow, width, chain_count, shift, ots_length}
use Rattle.dn_ots.proofs.parameters.Params.of.Goals as goal

row_1 : IsRow 1 1 265 7 8516
unfolding width chain_count shift ots_length
row_1 = record { known = (lit≤ tt, lit≤ tt); width_is = refl; count_is = refl; shift_is = refl; length_is = refl }

row_2 : IsRow 2 2 133 6 4292
unfolding width chain_count shift ots_length
row_2 = record { known = (lit≤ tt, lit≤ tt); width_is = refl; count_is = refl; shift_is = refl; length_is = refl }

row_3 : IsRow 3 4 67 4 2180
unfolding width chain_count shift ots_length
row_3 = record { known = (lit≤ tt, lit≤ tt); width_is = refl; count_is = refl; shift_is = refl; length_is = refl }

row_4 : IsRow 4 8 34 0 1124
unfolding width chain_count shift ots_length
row_4 = record { known = (lit≤ tt, lit≤ tt); width_is = refl; count_is = refl; shift_is = refl; length_is = refl }

pub invariant_of-result : goal.invariant_of-result
invariant_of-result c = rw c.in-1.is (record { row = row_1 })

pub invariant_of-result-in-2 : goal.invariant_of-result-in-2
invariant_of-result-in-2 c = rw c.in-2.is (record { row = row_2 })

pub invariant_of-result-in-3 : goal.invariant_of-result-in-3
invariant_of-result-in-3 c = rw c.in-3.is (record { row = row_3 })

pub invariant_of-result-in-4 : goal.invariant_of-result-in-4
invariant_of-result-in-4 c = rw c.in-4.is (record { row = row_4 })
