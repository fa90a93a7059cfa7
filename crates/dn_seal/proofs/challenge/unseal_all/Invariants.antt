use Rattle.std.proofs.Common.{take}
use Rattle.dn_seal.specs.Challenge.{AreOpened}
use Rattle.dn_seal.proofs.challenge.unseal_all.Given as goal

abbrev pub invariant-loop-envelope : goal.invariant-loop-envelope
invariant-loop-envelope l = AreOpened l.roster (take l.envelope-index l.envelopes) l.shown.items
