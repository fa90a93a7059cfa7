use Rattle.std.proofs.Common.{ap, ◌∙◌}
use Rattle.dn_hss.specs.Origin.{key_from}
use Rattle.dn_hss_definitions.specs.Hss.{hss_public_key}
use Rattle.dn_hss.proofs.KeyLemmas.{public_made}
use Rattle.dn_hss.proofs.key.HssKeySigKey.public.Goals as goal

pub returns : goal.returns
returns c =
    public_made (key_from c.self.inside.origin) c.self.inside.top c.to_be_bytes.result c.deref.result.now c.in_ok-public.public.items
    c.extend_from_slice.new.self.items c.extend_from_slice-2.new.self.items
    c.self.invariant.top c.to_be_bytes.ensures (c.deref.ensures.value ∙ c.in_ok-top.ensures) c.in_ok-public.ensures.items
    c.in_ok-extend_from_slice.ensures.items c.in_ok-extend_from_slice-2.ensures.items
    ∙ ap hss_public_key c.self.view_is
