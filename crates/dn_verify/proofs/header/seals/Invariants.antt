use Rattle.std.proofs.Common.{◌≡◌, ◌/◌, ◌%◌, vec_len}
use Rattle.dn_verify.specs.Header.{bytes_from}
use Rattle.dn_verify.specs.Header.Place.{seal_of}
use Rattle.dn_verify.specs.HeaderParts.{Holds}
use Rattle.dn_verify.proofs.header.seals.Given as goal

abbrev pub invariant-loop-pair : goal.invariant-loop-pair
invariant-loop-pair l = record {
  len : vec_len l.seals ≡ l.pair;
  tells : Holds (λ k. seal_of (k / l.servers) (k % l.servers)) l.lines l.first l.pair;
  seals : l.seals.items ≡ bytes_from l.lines l.first l.pair;
}
