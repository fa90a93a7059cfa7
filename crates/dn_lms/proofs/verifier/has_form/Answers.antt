use Rattle.std.proofs.Common.{◌≡◌, ◌+◌, ◌*◌, ◌∙◌, length, sym, refl, arith}
use Rattle.std.proofs.lemmas.Bool.{ltb-true, lt-ltb}
use Rattle.dn_lms.specs.Key.{height}
use Rattle.dn_ots.specs.Parameters.{ots_length}
use Rattle.dn_lms.specs.Signature.{lms_length}
use Rattle.dn_lms.proofs.VerifyLemmas.{false_answer, code_part}
use Rattle.dn_lms.proofs.verifier.has_form.Goals as goal

pub returns-then-sig-params : goal.returns-then-sig-params
unfolding lms_length
returns-then-sig-params c = false_answer _ (λ form. absurd (omega (arith, form.0, c.height_of.ensures, c.args.params.row.length_is, c.if-sig-params.true)))

pub returns-then-same_bytes : goal.returns-then-same_bytes
unfolding lms_length
returns-then-same_bytes c =
    let long : length c.args.sig.now ≡ 8 + ots_length c.args.params.code + 32 * height c.args.lms =
    omega (arith, c.height_of.ensures, c.args.params.row.length_is, c.if-sig-params.false) in
    let code = sym (code_part c.args.sig.now c.args.params.code c.args.params.sig_len c.args.params.row.length_is)
    ∙ c.if-same_bytes.ensures.0 refl ∙ c.to_be_bytes.ensures in (
      λ less. (long, code, rw (c.number_at.ensures, c.leaves_of.ensures) at (ltb-true _ _ less)),
      λ form. rw (c.number_at.ensures, c.leaves_of.ensures) (lt-ltb _ _ form.2),
    )
