use Rattle.std.proofs.Common.{◌∙◌, refl}
use Rattle.dn_ots.specs.Ots.{joined}
use Rattle.dn_lms.specs.Key.{height}
use Rattle.dn_lms.specs.Tree.{path_node}
use Rattle.dn_lms.specs.Pair.{key_of}
use Rattle.dn_lms.specs.Signature.{lms_signature}
use Rattle.dn_lms.proofs.PairLemmas.{four_pieces, same_pieces}
use Rattle.dn_lms.proofs.pair.KeyPairSigKey.sign_at.Goals as goal

pub returns : goal.returns
unfolding lms_signature
returns c =
    let path = c.in_ok-append_path.ensures (key_of c.self.inside) refl (rw c.deref.ensures.value c.self.invariant.tree) in
    rw (← c.self.view_is) (four_pieces c.in_ok-sig.sig.items c.extend_from_slice.new.self.items c.append_signature.new.out.items c.extend_from_slice-2.new.self.items
    c.append_path.new.out.items _ _ _ (joined (path_node (key_of c.self.inside) c.args.q) (height c.self.inside.lms)) c.in_ok-sig.ensures.items
    c.in_ok-extend_from_slice.ensures.items c.in_ok-append_signature.ensures c.in_ok-extend_from_slice-2.ensures.items path
    ∙ same_pieces _ _ _ _ _ _ _ _ c.to_be_bytes.ensures refl c.to_be_bytes-2.ensures refl)
