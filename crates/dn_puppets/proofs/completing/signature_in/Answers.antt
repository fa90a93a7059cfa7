use Rattle.std.proofs.Common.{ap, length, arith}
use Rattle.dn_puppets.proofs.Spelled.{said_signature}
use Rattle.dn_puppets.proofs.completing.signature_in.Goals as goal

pub returns-in_ok-from_slice-in-Some : goal.returns-in_ok-from_slice-in-Some
returns-in_ok-from_slice-in-Some c =
    omega (
      arith,
      ap length c.of.ensures,
      ap length c.in_ok-from_slice-in-Some.ensures.items,
      ap length c.signature.ensures.value,
      said_signature c.in-Some.said.now c.signature.ensures.said,
    )
