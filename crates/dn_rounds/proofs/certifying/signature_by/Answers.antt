use Rattle.std.proofs.Common.{◌∙◌, sym}
use Rattle.dn_rounds.proofs.CertifyLemmas.{signature_by_is}
use Rattle.dn_rounds.proofs.certifying.signature_by.Goals as goal

pub returns : goal.returns
returns c =
    signature_by_is c.args._roster.now c.args.kept.now c.args._b.now c.args.j.0 c.in-Some.said.now c.of-2.result c.in-Some.ensures c.requires.signs c.requires.under
    c.signature.ensures.said (sym (c.of-2.ensures ∙ c.in_ok-from_slice.ensures.items ∙ c.signature.ensures.value))
