use Rattle.std.proofs.Common.{◌≤◌, List, Bool, length, ap, arith}
use Rattle.dn_puppets.proofs.Lengths.{length-where}
use Rattle.dn_puppets.proofs.client_puppet.ClientPuppet.submit.Goals as goal

pub payload_for-requires : goal.payload_for-requires
payload_for-requires c =
    let few = rw c.in-Some.is at c.in_ok-submission.ensures.long in
    omega (arith, few, ap (λ (b : List Bool). length b) c.in_ok-cipher.ensures, length-where c.args.at c.in-Some.submission.cipher)
