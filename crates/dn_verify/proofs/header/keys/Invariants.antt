use Rattle.std.proofs.Common.{◌≡◌, vec_len}
use Rattle.dn_verify.specs.Header.{bytes_from}
use Rattle.dn_verify.specs.HeaderParts.{Holds, place_of}
use Rattle.dn_verify.proofs.header.keys.Given as goal

abbrev pub invariant-loop-i : goal.invariant-loop-i
invariant-loop-i l = record {
  len : vec_len l.keys ≡ l.i;
  tells : Holds (place_of l.of) l.lines l.first l.i;
  keys : l.keys.items ≡ bytes_from l.lines l.first l.i;
}
