use Rattle.std.proofs.Common.{sym, subst, ap, length, arith}
use Rattle.dn_puppets.specs.Carried.{CanStand, AreShort}
use Rattle.dn_puppets.proofs.Spelled.{fits_certificate}
use Rattle.dn_puppets.proofs.completing.certificate_of.Goals as goal

pub encode_payload-requires : goal.encode_payload-requires
encode_payload-requires c =
    fits_certificate c.in_ok-body.body c.of-signatures.result
    (subst CanStand (sym c.in_ok-body.ensures) c.in-Some-body_in.ensures)
    (subst AreShort (sym c.of-signatures.ensures) c.in_ok-signatures_in.ensures.short)
    (omega (arith, ap length c.of-signatures.ensures, c.in_ok-signatures_in.ensures.few, c.ranges.servers.fits))
