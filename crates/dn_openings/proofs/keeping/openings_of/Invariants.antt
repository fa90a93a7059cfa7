use Rattle.std.proofs.Common.{◌≡◌, take}
use Rattle.std.specs.Prelude.{filter}
use Rattle.dn_openings.specs.Evidence.{is_opening}
use Rattle.dn_openings.proofs.keeping.openings_of.Given as goal

abbrev pub invariant-loop-said : goal.invariant-loop-said
invariant-loop-said l = l.openings.items ≡ filter (λ x. is_opening l.place.r l.place.k x.statement) (take l.said-index l.kept)
