use Rattle.std.proofs.Common.{◌≡◌, map, take}
use Rattle.dn_rounds.proofs.committing.strings_of.Given as goal

abbrev pub invariant-loop-cipher : goal.invariant-loop-cipher
invariant-loop-cipher l = l.all.items ≡ map (λ x. x.cipher) (take l.cipher-index l.shown)
