use Rattle.std.proofs.Common.{◌≡◌, ◌++◌, ◌∷◌, take}
use Rattle.std.specs.List.{flat_map}
use Rattle.dn_lines.specs.Fields.{member}
use Rattle.dn_report.proofs.putting_lists.add_members.Given as goal

abbrev pub invariant-loop-member : goal.invariant-loop-member
invariant-loop-member l = l.out.items ≡ l.fn.out.items ++ flat_map (λ m. 32 ∷ member.spell m) (take l.member-index l.members)
