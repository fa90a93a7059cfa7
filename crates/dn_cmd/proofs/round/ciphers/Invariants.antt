use Rattle.std.proofs.Common.{◌≡◌, map, take}
use Rattle.dn_cmd.specs.Round.{cipher}
use Rattle.dn_cmd.proofs.round.ciphers.Given as goal

abbrev pub invariant-loop-client : goal.invariant-loop-client
invariant-loop-client l = l.ciphers.items ≡ map (cipher l.script) (take l.client-index l.counted)
