use Rattle.std.proofs.Common.{◌≡◌, ◌*◌, length, take}
use Rattle.sha2.specs.Sha256.{digest_bytes}
use Rattle.dn_lanes.specs.Lanes.{lane8}
use Rattle.dn_lanes.proofs.digest.bytes_of.Given as goal

abbrev pub invariant-words : goal.invariant-words
invariant-words l = (length l.digest ≡ 32) × (take (4 * l.k) l.digest ≡ digest_bytes (lane8 l.j l.state) l.k)
