use Rattle.std.proofs.Common.{take, map}
use Rattle.dn_server.specs.declared.places.Place.{Place}
use Rattle.dn_server.specs.Parts.{live}
use Rattle.dn_openings.specs.Challenging.{CanLook, LooksOnAll}
use Rattle.dn_openings.proofs.hearing.look_at_all.Given as goal

abbrev pub invariant-loop-k : goal.invariant-loop-k
invariant-loop-k g l =
    LooksOnAll (live l.initial.parts) (map (λ k. record { r = l.r; k = k }) (take l.k-index l.numbers)) l.initial.acts.items l.acts.items (live l.parts)
    × ((place : Place) → CanLook (live l.initial.parts) place → CanLook (live l.parts) place)
