use Rattle.std.proofs.Common.{[]}
use Rattle.dn_ots.specs.Chain.{leaf_head}
use Rattle.dn_ots.proofs.hashers.leaf_hasher.Goals as goal

pub returns : goal.returns
unfolding leaf_head
returns c =
    let one = c.update.ensures [] c.new-hasher.ensures in
    let two = c.update-2.ensures _ one in
    rw (c.to_be_bytes.ensures, c.to_be_bytes-2.ensures) at (c.update-3.ensures _ two)
