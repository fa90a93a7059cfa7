use Rattle.std.proofs.Common.{◌≡◌, length, refl, sym, ◌∙◌, arith}
use Rattle.dn_lms_definitions.specs.Signature.{number_at}
use Rattle.dn_hss.proofs.VerifierLemmas.{cuts, by_parts, last_part}
use Rattle.dn_hss.proofs.verifier.hss_verify.Goals as goal

pub returns-then-verify : goal.returns-then-verify
returns-then-verify c =
    let public = c.args.public.now in
    let sig = c.args.sig.now in
    let cut = cuts public sig c.in-Some.length c.in-Some.ensures.exact.1 in
    let long : length public ≡ 60 = omega arith in
    let two : number_at public 0 ≡ 2 = sym c.number_at.ensures ∙ c.if-number_at-ne-LEVELS.false in
    let one : number_at sig 0 ≡ 1 = sym c.number_at-else-sig-end.ensures ∙ c.if-number_at-ne-SIGNED_KEYS.false in (
      λ same. by_parts public c.args.msg.now sig c.in-Some.length _ _ _ _ cut long two one (c.if-verify.ensures.0 refl) (c.verify-then-verify.ensures.0 same),
      λ verifies. c.verify-then-verify.ensures.1 (last_part public c.args.msg.now sig c.in-Some.length _ _ _ _ cut verifies),
    )
