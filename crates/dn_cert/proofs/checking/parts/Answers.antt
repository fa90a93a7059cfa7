use Rattle.dn_cert.proofs.checking.parts.Goals as goal
use Rattle.std.proofs.Common.{arith, ◌∙◌, ap, Ok}
use Rattle.std.proofs.lemmas.Grind.{common_steps}
use Rattle.std.proofs.lemmas.Option.{gets}
use Rattle.dn_cert.proofs.PartLemmas.{no_tag, other_tag, read_parts, read_certificate_alone, fails_so}

pub returns-in_default-clause-exact : goal.returns-in_default-clause-exact
returns-in_default-clause-exact c = no_tag c.args.bytes.now (grind (arith, common_steps, gets))

pub returns-then-tag-ne-TAG-clause-exact : goal.returns-then-tag-ne-TAG-clause-exact
returns-then-tag-ne-TAG-clause-exact c =
    other_tag c.args.bytes.now c.in-Some.tag.now (grind (arith, common_steps, gets)) (grind (arith, common_steps, gets)) c.if-tag-ne-TAG.true

pub returns-in-Err-clause-exact : goal.returns-in-Err-clause-exact
returns-in-Err-clause-exact c =
    fails_so c.args.bytes.now c.in-Err.fault (grind (arith, common_steps, gets)) (grind (arith, common_steps, gets)) c.in-Err.ensures.exact

pub unreachable-requires : goal.unreachable-requires
unreachable-requires c =
    read_certificate_alone c.args.bytes.now c.in-Ok.payload (grind (arith, common_steps, gets)) (grind (arith, common_steps, gets)) c.in-Ok.ensures.exact c.in_default-payload.not-Certificate

pub returns-clause-exact : goal.returns-clause-exact
returns-clause-exact c =
    read_parts c.args.bytes.now c.in-Certificate.body c.in-Certificate.signatures (grind (arith, common_steps, gets)) (grind (arith, common_steps, gets)) (c.in-Ok.ensures.exact ∙ ap Ok c.in-Certificate.is)
