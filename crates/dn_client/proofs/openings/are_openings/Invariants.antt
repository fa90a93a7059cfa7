use Rattle.std.proofs.Common.{◌≡◌, ℕ, ◌<◌, Some}
use Rattle.std.specs.Prelude.{slice_get}
use Rattle.dn_seal.specs.Said.{SaidView}
use Rattle.dn_client.specs.Answering.{ArePadBits}
use Rattle.dn_client.proofs.openings.are_openings.Given as goal

-- the servers so far said their pad bits
abbrev pub invariant-loop-j : goal.invariant-loop-j
invariant-loop-j l = (h : ℕ) (said : SaidView) → h < l.j → slice_get l.shown h ≡ Some said → ArePadBits l.r l.k h said
