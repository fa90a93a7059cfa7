use Rattle.std.proofs.Common.{◌≡◌, ℕ, List, ap, subst, ◌∙◌}
use Rattle.std.proofs.lemmas.List.{take_rest}
use Rattle.dn_ots.specs.Parameters.{IsCode}
use Rattle.dn_lms_definitions.specs.Key.{IsLms}
use Rattle.dn_lms_definitions.specs.Signature.{lms_in, ots_in, number_at}
use Rattle.dn_hss_definitions.specs.Hss.{top_in}
use Rattle.dn_hss.proofs.VerifierLemmas.{top_length_is}
use Rattle.dn_hss.proofs.verifier.top_length.Goals as goal

pub returns-clause-exact : goal.returns-clause-exact
returns-clause-exact c =
    let public = c.args.public.now in
    let lms : c.number_at.result ≡ lms_in (top_in public) = c.number_at.ensures ∙ ap (λ (x : List ℕ). number_at x 0) (take_rest public 4) in
    let ots : c.in-Ok.params.code ≡ ots_in (top_in public) = c.in-Ok.ensures ∙ c.number_at-2.ensures ∙ ap (λ (x : List ℕ). number_at x 4) (take_rest public 4) in (
      (subst IsLms lms c.in_ok-height.ensures.exact.0, subst IsCode ots c.in-Ok.params.row.known),
      top_length_is public c.number_at.result c.in-Ok.params.code c.in-Ok.params.sig_len c.in_ok-height.height lms ots c.in-Ok.params.row.length_is c.in_ok-height.ensures.exact.1,
    )
