use Rattle.std.proofs.Common.{◌≡◌, map}
use Rattle.std.specs.List.{range_with_len}
use Rattle.dn_roster.specs.Dealing.{mask_secret_of}
use Rattle.dn_seal.proofs.dealt.mask_secrets.Given as goal

abbrev pub invariant-loop-i : goal.invariant-loop-i
invariant-loop-i l = l.masks.items ≡ map (mask_secret_of l.spec.seed) (range_with_len 0 l.i)
