use Rattle.std.proofs.Common.{◌≡◌, ◌++◌, ◌∷◌, take}
use Rattle.std.specs.List.{flat_map}
use Rattle.dn_report.specs.Forms.{pair}
use Rattle.dn_report.proofs.putting_lists.add_pairs.Given as goal

abbrev pub invariant-loop-listed : goal.invariant-loop-listed
invariant-loop-listed l = l.out.items ≡ l.fn.out.items ++ flat_map (λ p. 32 ∷ pair.spell p) (take l.listed-index l.pairs)
