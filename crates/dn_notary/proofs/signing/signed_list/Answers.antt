use Rattle.std.proofs.Common.{ap, ◌∙◌, arith}
use Rattle.dn_hss.specs.Hss.{hss_count}
use Rattle.dn_notary.proofs.SigningLemmas.{leaves_of_notary, list_made}
use Rattle.dn_notary.proofs.signing.signed_list.Goals as goal

pub put_sign_lines-requires : goal.put_sign_lines-requires
put_sign_lines-requires c =
    let many = ap hss_count c.in_ok-key.ensures ∙ leaves_of_notary c.args.num in
    omega (arith, many, c.requires)

pub returns : goal.returns
returns c =
    list_made c.args.num c.args.entries.now c.in_ok-key.key c.deref.result.now c.new-text.result.items c.put_bytes.new.out.items c.put_key_line.new.out.items
    c.put_sign_lines.new.out.items c.put_bytes-2.new.out.items c.in_ok-key.ensures (c.deref.ensures.value ∙ c.in_ok-public.ensures) c.new-text.ensures.items
    c.in_ok-put_bytes.ensures.ok c.in_ok-put_key_line.ensures c.in_ok-put_sign_lines.ensures c.in_ok-put_bytes-2.ensures.ok
