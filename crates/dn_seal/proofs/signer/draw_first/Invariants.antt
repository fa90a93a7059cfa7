use Rattle.std.proofs.Common.{◌≡◌}
use Rattle.dn_seal.proofs.DrawLemmas.{drawn_below}
use Rattle.dn_seal.proofs.signer.draw_first.Given as goal

abbrev pub invariant-loop : goal.invariant-loop
invariant-loop l = l.pass ≡ drawn_below l.drawer l.counter
