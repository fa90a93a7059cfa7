use Rattle.std.proofs.Common.{false, subst}
use Rattle.dn_client.specs.Answering.{IsOwnBit}
use Rattle.dn_client.specs.Inside.{view_of}
use Rattle.dn_client.proofs.Heads.{made_cipher, no_cipher}
use Rattle.dn_client.proofs.client.Client.own_bit.Goals as goal

pub returns-in-Some : goal.returns-in-Some
returns-in-Some c =
    subst (λ v. IsOwnBit v c.args.r c.args.k c.get_or_zero.result) c.self.view_is
    (made_cipher (view_of c.self.inside) c.deref.result.now c.in-Some.made.now c.args.r c.args.k c.get_or_zero.result c.deref.ensures.value c.in-Some.ensures.found c.get_or_zero.ensures)

pub returns-in-None : goal.returns-in-None
returns-in-None c =
    subst (λ v. IsOwnBit v c.args.r c.args.k false) c.self.view_is
    (no_cipher (view_of c.self.inside) c.deref.result.now c.args.r c.args.k c.deref.ensures.value c.in-None.ensures.missing)
