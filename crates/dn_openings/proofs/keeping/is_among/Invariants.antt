use Rattle.std.proofs.Common.{◌≡◌, ℕ, ◌<◌, get_or}
use Rattle.dn_server.specs.declared.places.Place.{Place}
use Rattle.dn_openings.proofs.keeping.is_among.Given as goal

abbrev pub invariant-loop-other : goal.invariant-loop-other
invariant-loop-other l = (n : ℕ) (d : Place) → n < l.other-index → get_or l.places n d ≡ l.place → ⊥
