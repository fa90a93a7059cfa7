use Rattle.std.proofs.Common.{◌≡◌, ◌∙◌, drop, length, sym, refl, arith}
use Rattle.std.proofs.lemmas.List.{take_rest}
use Rattle.dn_lms.specs.Signature.{lms_in, ots_in, id_in}
use Rattle.dn_lms_definitions.proofs.Laws.{verifies_by_parts}
use Rattle.dn_lms.proofs.verifier.verify.Goals as goal

pub returns-in-Some : goal.returns-in-Some
returns-in-Some c =
    let public = c.args.public.now in
    let lms : lms_in public ≡ c.number_at-lms.result = sym c.number_at-lms.ensures in
    let ots : ots_in public ≡ c.in-Ok.params.code = sym (c.in-Ok.ensures ∙ c.number_at.ensures) in
    let id : id_in public ≡ c.copy_from_slice.new.self = sym c.copy_from_slice.ensures.after in
    let form = c.if-not-has_form.ensures.0 refl in
    let long : length public ≡ 56 = omega arith in (
      λ same. verifies_by_parts public c.args.msg.now c.args.sig.now c.copy_from_slice.new.self (drop 24 public) c.number_at-lms.result c.in-Ok.params.code
          lms ots id refl long (c.if-not-is_known.ensures.0 refl) c.in-Ok.params.row.known form.0 c.in-Some.ensures.0 form.1 form.2
          (sym c.in-Some.ensures.1 ∙ c.same_bytes.ensures.0 same ∙ take_rest public 24),
      λ verifies. c.same_bytes.ensures.1 (c.in-Some.ensures.1 ∙ (rw (lms, ots, id) at verifies.root) ∙ sym (take_rest public 24)),
    )
