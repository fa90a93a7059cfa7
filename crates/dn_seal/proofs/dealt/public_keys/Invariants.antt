use Rattle.std.proofs.Common.{◌≡◌, map, take}
use Rattle.dn_lms.specs.Signature.{public_key}
use Rattle.dn_seal.proofs.dealt.public_keys.Given as goal

abbrev pub invariant-loop-key : goal.invariant-loop-key
invariant-loop-key l = l.all.items ≡ map public_key (take l.key-index l.keys)
