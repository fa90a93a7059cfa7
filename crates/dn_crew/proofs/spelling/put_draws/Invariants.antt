use Rattle.std.proofs.Common.{◌≡◌, ◌++◌, map, take}
use Rattle.dn_crew.specs.Shares.{placed_of}
use Rattle.dn_crew.proofs.spelling.put_draws.Given as goal

abbrev pub invariant-loop-draw : goal.invariant-loop-draw
invariant-loop-draw l = l.order.items ≡ l.fn.order.items ++ map placed_of (take l.draw-index l.draws)
